use native.Mathlib.Nat.{add-mod}
use Rattle.scales.proofs.counting.CountingScale.sum.Goals as goal

pub returns : goal.returns
returns g c = simp (c.remainder.ensures, c.from.ensures, c.from-2.ensures) (add-mod _ _ _)
