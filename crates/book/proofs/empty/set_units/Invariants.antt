use Rattle.book.specs.Standing.{Units}
use Rattle.book.proofs.empty.set_units.Given as goal

abbrev pub invariant-loop-i : goal.invariant-loop-i
invariant-loop-i g l = Units (g.S.Scale.meaning l.scale) l.n l.i l.rows
