use Rattle.scale.specs.Meaning.{MultipleAdded}
use Rattle.scales.specs.Counting.{counting}
use Rattle.scales.specs.Kinds.{prime_mark}
use Rattle.scales.proofs.prime.OddBaseDigits.add_multiple.Given as goal

abbrev pub invariant-loop-j : goal.invariant-loop-j
invariant-loop-j l = MultipleAdded (counting (prime_mark l.self.base l.self.length)) l.fn.by l.from l.initial.to l.to l.j
