use Rattle.std.proofs.lemmas.Nat.{mul-mod}
use Rattle.scales.proofs.counting.CountingScale.product.Goals as goal

pub returns : goal.returns
returns g c = simp (c.remainder.ensures, c.from.ensures, c.from-2.ensures) (mul-mod _ _ _)
