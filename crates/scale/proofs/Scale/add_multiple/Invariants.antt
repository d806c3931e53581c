use Rattle.scale.specs.Meaning.{MultipleAdded}
use Rattle.scale.proofs.Scale.add_multiple.Given as goal

abbrev pub invariant-loop-j : goal.invariant-loop-j
invariant-loop-j g l = MultipleAdded (g.Self.Scale.meaning l.self) l.by l.from l.initial.to l.to l.j
