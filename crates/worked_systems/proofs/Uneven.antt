-- The systems of one head with two counters of widths 3 and 1, over the binary scale.
use Rattle.std.proofs.Common.{◌-◌, ◌≤◌, inr, [], ◌∷◌, refl, arith}
use Rattle.scales.specs.Counting.{zeros}
use Rattle.scales.specs.Zeros.{divide_zeros}
use Rattle.ties.specs.declared.fault.TermFault.TheVariants.{Coarse}
use Rattle.ties.specs.declared.fault.TieFault.TheVariants.{Term as OfTerm}
use Rattle.ties.specs.Layouts.{Assignment, Within}
use Rattle.ties.specs.Equations.{Count, value}
use Rattle.ties.specs.Faults.{Faulty, Sound}
use Rattle.book.specs.Posting.{Accepted}
use Rattle.worked_systems.specs.Worked.{binary, narrow, sum_is_one, uneven}
use Rattle.worked_systems.proofs.Cases.{each}
use Rattle.worked_systems.proofs.Counting.{binary_laws, first_accepted, first_count, one_term}

uneven_within : Within binary uneven
uneven_within = each _ 2 (omega arith)

-- 4 times the narrow counter's code has level 2 at code 1, and nowhere a lower one
pub factor_four : Accepted binary uneven [] (narrow 4) 1
unfolding zeros
factor_four =
    first_accepted binary binary_laws uneven uneven_within (narrow 4) 2 (λ h c. c) (one_term binary uneven 0 0 0 1 4 (omega arith))
    (λ h c has. omega arith) refl (λ x. divide_zeros 2 3 2 _ (omega arith) (omega arith) (omega arith))
    (λ h c. 0) (λ h c has. omega arith) (omega arith)

pub factor_two : Faulty binary uneven (narrow 2) (OfTerm (Coarse 0))
unfolding zeros
factor_two = (
  omega arith,
  each _ 1 (omega arith),
  each _ 1 (tt, λ h. absurd (omega arith)),
  each _ 2 (omega arith),
  (omega arith, λ fine. omega arith, λ i h. absurd (omega arith)),
)

sum_sound : Sound binary uneven sum_is_one
unfolding zeros
sum_sound =
    record {
      target = omega arith;
      exist = each _ 2 (omega arith);
      rise = each _ 2 ((tt, λ h. absurd (omega arith)), λ h. inr (refl, omega arith));
      codes = each _ 3 (omega arith);
      fine = each _ 2 (omega arith);
    }

-- raised, the sum has level 2 along code 1 of the wide counter, and nowhere a lower one
along : Assignment
along h c = 1 - c

steady : (x : Assignment) → 2 ≤ binary.level (binary.product 4 (value binary sum_is_one x))
steady x = divide_zeros 2 3 2 _ (omega arith) (omega arith) (omega arith)

pub sum_leaves : Count binary uneven (sum_is_one ∷ []) 3
unfolding zeros along
sum_leaves =
    first_count binary binary_laws uneven uneven_within sum_is_one 2 along sum_sound (λ h c has. omega arith) refl steady

pub sum_fixes : Accepted binary uneven [] sum_is_one 1
unfolding zeros along
sum_fixes =
    first_accepted binary binary_laws uneven uneven_within sum_is_one 2 along sum_sound (λ h c has. omega arith) refl steady
    along (λ h c has. omega arith) (omega arith)
