use Rattle.std.proofs.Common.{◌≡◌, ◌+◌, ◌*◌}
use Rattle.ties.specs.Layouts.{counters_of, shape}
use Rattle.book.proofs.Loads.{Sofar}
use Rattle.endomorphisms.specs.Equations.{table_of, ties_of}
use Rattle.endomorphisms.proofs.solving.post_table.Given as goal

abbrev pub invariant-loop-row : goal.invariant-loop-row
invariant-loop-row g l =
    let s = shape l.initial.book.layout in
    Sofar g.S.Scale.meaning l.initial.book (ties_of s (table_of l.table)) l.initial.multipliers (l.row-counter * counters_of s) l.book
    × (l.multipliers ≡ l.initial.multipliers)

abbrev pub invariant-loop-counter : goal.invariant-loop-counter
invariant-loop-counter g l =
    let s = shape l.fn.book.layout in
    Sofar g.S.Scale.meaning l.fn.book (ties_of s (table_of l.table)) l.fn.multipliers (l.row * counters_of s + l.counter-counter) l.book
    × (l.multipliers ≡ l.fn.multipliers)
