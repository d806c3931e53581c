use Rattle.ties.specs.Faults.{Fine, Passes}
use Rattle.ties.specs.Layouts.{shape, width_of}
use Rattle.ties.proofs.terms.fine.Given as goal

abbrev pub invariant-loop-i : goal.invariant-loop-i
invariant-loop-i g l =
    let s = shape l.layout in
    Passes (Fine (g.S.Scale.meaning l.scale) s (width_of s l.target) l.terms) l.i
