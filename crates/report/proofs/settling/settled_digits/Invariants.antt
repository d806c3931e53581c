use Rattle.std.proofs.Common.{ℕ, ◌/◌, ◌%◌, ◌<◌, get_or}
use Rattle.ties.specs.Layouts.{counters_of, shape}
use Rattle.book.specs.Standing.{ledger}
use Rattle.report.specs.Reported.{SettledAt}
use Rattle.report.proofs.settling.settled_digits.Given as goal

abbrev pub invariant-loop-i : goal.invariant-loop-i
invariant-loop-i g l =
    let b = l.book in
    let s = shape b.layout in
    (j : ℕ)
    → j < l.i
    → SettledAt (g.S.Scale.meaning b.scale) s (ledger b.table) (j / counters_of s) (j % counters_of s) (get_or l.digits-items j 0)
