use Rattle.std.proofs.Common.{◌≡◌, ℕ, ◌<◌, ◌||◌, ◌==◌, false, slice_index_or, Some, None, Option, refl, ◌∙◌, subst}
use Rattle.scale.specs.Meaning.{Divided, Meaning, reading}
use Rattle.scales.specs.Counting.{zeros}
use Rattle.scales.specs.Numbering.{ungray}
use Rattle.worked_systems.specs.Worked.{binary}
use Rattle.worked_systems.proofs.Cases.{each}
use Rattle.worked_systems.proofs.Pair.{two_by_four}
use Rattle.worked_systems.proofs.systems.arithmetic.find_arithmetic.Goals as goal

products : (c : ℕ) → c < 8 → (binary.product 2 (reading binary c) == 4) ≡ ((c == 2) || (c == 6))
products = each _ 8 ((((((((tt, refl), refl), refl), refl), refl), refl), refl), refl)

none : (r : Option ℕ) → Divided binary 2 4 r → r ≡ None
none (Some c) found = absurd (two_by_four c found.1)
none None found = refl

pub returns : goal.returns
unfolding zeros ungray
returns g c =
    record {
      four_by_two =
          λ k h.
          subst (λ (m : Meaning). slice_index_or c.quotients.result k false ≡ (m.product (reading m 2) (reading m k) == 4))
          c.requires.binary (c.quotients.ensures k h)
          ∙ products k h;
      answered = subst (λ (m : Meaning). Divided m (reading m 4) (reading m 2) c.quotient.result) c.requires.binary c.quotient.ensures;
      two_by_four =
          none c.quotient-2.result
          (subst (λ (m : Meaning). Divided m (reading m 2) (reading m 4) c.quotient-2.result) c.requires.binary c.quotient-2.ensures);
      sum = subst (λ (m : Meaning). c.sum.result ≡ m.sum (reading m 3) (reading m 3)) c.requires.disc c.sum.ensures;
      product = subst (λ (m : Meaning). c.product.result ≡ m.product (reading m 3) (reading m 2)) c.requires.disc c.product.ensures;
      negative = subst (λ (m : Meaning). c.negative.result ≡ m.negative (reading m 1)) c.requires.disc c.negative.ensures;
      level = subst (λ (m : Meaning). c.level.result ≡ m.level (reading m 2)) c.requires.disc c.level.ensures;
    }
