use Rattle.ties.specs.Faults.{Coded, Passes}
use Rattle.ties.proofs.terms.codes.Given as goal

abbrev pub invariant-loop-i : goal.invariant-loop-i
invariant-loop-i g l = Passes (Coded (g.S.Scale.meaning l.scale) l.terms l.right) l.i
