-- The ties of a table, by their numbers.
use Rattle.std.proofs.Common.{◌≡◌, ℕ, ◌+◌, ◌*◌, ◌/◌, ◌%◌, ◌<◌, List, get_or, length, sym, ap, ◌∙◌, ap₂, arith}
use lib.Arith.{digits_div, digits_lt, digits_mod}
use Rattle.std.proofs.lemmas.List.FromFn.{get_or-map-range_with_len, length-map-range_with_len}
use Rattle.std.proofs.lemmas.List.{get_or-map}
use Rattle.std.proofs.Math.ListN.{length-map}
use Rattle.ties.specs.Layouts.{Shape, counters_of}
use Rattle.ties.specs.Equations.{Equation, nth_equation}
use Rattle.endomorphisms.specs.declared.equation.HeadEquation.{HeadEquation}
use Rattle.endomorphisms.specs.Equations.{GroupEquation, group_equation, nth_row, table_of, tie_of, ties_of}

module _ (s : Shape) (es : List GroupEquation) where
  abbrev k : ℕ
  k = counters_of s

  abbrev nth_tie : ℕ → Equation
  nth_tie i = tie_of s (nth_row es (i / k)) (i % k)

  pub ties_length : length (ties_of s es) ≡ length es * k
  ties_length = length-map-range_with_len nth_tie 0 (length es * k)

  -- tie number i, and that of an equation at one counter
  pub ties_at : (i : ℕ) → i < length es * k → nth_equation (ties_of s es) i ≡ nth_tie i
  ties_at i h = get_or-map-range_with_len nth_tie 0 (length es * k) i i _ h (omega arith)

  pub tie_at :
      (row c : ℕ) → row < length es → c < k → nth_equation (ties_of s es) (row * k + c) ≡ tie_of s (nth_row es row) c
  tie_at row c h hc =
      ties_at (row * k + c) (digits_lt h hc)
      ∙ ap₂ (λ (row c : ℕ). tie_of s (nth_row es row) c) (digits_div row hc) (digits_mod row hc)

-- the equations of a table, by those that it was handed as
pub row_at :
    (t : List HeadEquation) (row : ℕ) (d : HeadEquation)
    → row < length t
    → nth_row (table_of t) row ≡ group_equation (get_or t row d)
row_at t row d h = get_or-map group_equation t row d _ h

pub table_length : (t : List HeadEquation) → length (table_of t) ≡ length t
table_length t = length-map t group_equation

-- the tie that is posted for an equation and a counter
pub tie_here :
    (r s : Shape) (t : List HeadEquation) (row c : ℕ) (d : HeadEquation)
    → r ≡ s
    → row < length t
    → c < counters_of s
    → tie_of r (group_equation (get_or t row d)) c ≡ nth_equation (ties_of s (table_of t)) (row * counters_of s + c)
tie_here r s t row c d e h hc =
    ap₂ (λ (r : Shape) (e : GroupEquation). tie_of r e c) e (sym (row_at t row d h))
    ∙ sym (tie_at s (table_of t) row c (omega (arith, table_length t)) hc)

pub tie_inside :
    (s : Shape) (t : List HeadEquation) (row c : ℕ)
    → row < length t
    → c < counters_of s
    → row * counters_of s + c < length (ties_of s (table_of t))
tie_inside s t row c h hc =
    let below : row * counters_of s + c < length t * counters_of s = digits_lt h hc in
    omega (arith, ties_length s (table_of t), ap (λ (n : ℕ). n * counters_of s) (table_length t))

-- behind the last row all ties are posted
pub all_ties :
    (s : Shape) (t : List HeadEquation) (row : ℕ)
    → row ≡ length t
    → row * counters_of s ≡ length (ties_of s (table_of t))
all_ties s t row e =
    ap (λ (n : ℕ). n * counters_of s) (e ∙ sym (table_length t)) ∙ sym (ties_length s (table_of t))
