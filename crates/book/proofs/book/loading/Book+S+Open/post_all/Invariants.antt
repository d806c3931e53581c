use Rattle.std.proofs.Common.{◌≡◌}
use Rattle.tie_file.specs.Bodies.{equations}
use Rattle.book.proofs.Loads.{Sofar}
use Rattle.book.proofs.book.loading.Book+S+Open.post_all.Given as goal

abbrev pub invariant-loop-i : goal.invariant-loop-i
invariant-loop-i g l =
    Sofar g.S.Scale.meaning l.initial.self (equations l.file) l.initial.multipliers l.i-counter l.self
    × (l.multipliers ≡ l.initial.multipliers)
