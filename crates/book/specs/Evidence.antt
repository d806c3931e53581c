-- Multipliers by back-substitution.
use Rattle.std.specs.Prelude.{◌≡◌, ℕ, ◌-◌, List, slice_index}
use Rattle.scale.specs.Meaning.{Meaning, Quotient, digits, power, summed}
use Rattle.ties.specs.Layouts.{Shape, places}
use Rattle.ties.specs.Equations.{Equation, depth}
use Rattle.multipliers.specs.Refuting.{factor_at}
use Rattle.multipliers.specs.Totals.{Shares}
use Rattle.book.specs.declared.pivot.Pivot.{Pivot}
use Rattle.book.specs.Rows.{Codes}

-- the product of a row with a pivot's
abbrev pub against : Meaning → Shape → List ℕ → Pivot → ℕ
against m s r k = summed m (places s) (λ j. m.product (slice_index r j) (slice_index k.row.items j))

-- a multiple of an equation is added, so that the row cancels on a pivot
pub record Settled (m : Meaning) (s : Shape) (e : Equation) (k : Pivot) (old new : List ℕ) (multiplier : ℕ) : Type 0 where
  pub quotient : ℕ
  pub divides : Quotient m (against m s old k) k.divisor quotient
  pub is : multiplier ≡ m.negative quotient
  pub codes : Codes m new
  pub added :
      Shares m s (λ h c. m.product (m.product multiplier (power m (digits m - depth s e))) (factor_at m e.terms h c)) old new
