use Rattle.scales.proofs.Adding.{add_mul_mod}
use Rattle.scales.proofs.counting.CountingScale.add_product.Goals as goal

pub returns : goal.returns
returns g c = simp (c.remainder.ensures, c.from.ensures, c.from-2.ensures, c.from-3.ensures) (add_mul_mod _ _ _ _)
