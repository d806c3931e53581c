use Rattle.ties.specs.Faults.{Exists, Passes}
use Rattle.ties.specs.Layouts.{shape}
use Rattle.ties.proofs.terms.exist.Given as goal

abbrev pub invariant-loop-i : goal.invariant-loop-i
invariant-loop-i l = Passes (Exists (shape l.layout) l.terms) l.i
