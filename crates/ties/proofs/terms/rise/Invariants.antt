use Rattle.ties.specs.Faults.{Rises, Passes}
use Rattle.ties.proofs.terms.rise.Given as goal

abbrev pub invariant-loop-i : goal.invariant-loop-i
invariant-loop-i l = Passes (Rises l.terms) l.i
