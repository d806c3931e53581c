use Rattle.scale.specs.Meaning.{MultipleAdded}
use Rattle.scales.specs.Counting.{counting}
use Rattle.scales.proofs.digits.Digits.add_multiple.Given as goal

abbrev pub invariant-loop-j : goal.invariant-loop-j
invariant-loop-j g l = MultipleAdded (counting (g.Self.Digits.counts l.self)) l.by l.from l.initial.to l.to l.j
