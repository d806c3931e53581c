-- Multipliers that show a contradiction: what the check adds up.
use Rattle.std.specs.Prelude.{◌≡◌, ℕ, ◌-◌, cond, ◌&&◌, List, length, ◌==◌, slice_index}
use Rattle.scale.specs.Meaning.{Meaning, digits, power, reading, summed}
use Rattle.ties.specs.declared.tie.Term.{Term}
use Rattle.ties.specs.Layouts.{Shape, Has}
use Rattle.ties.specs.Equations.{Equation, depth, nth_equation, term_at}

-- what an equation with multiplier y is multiplied by: y times the power of the step that raises it to full length
abbrev pub weight : Meaning → Shape → Equation → ℕ → ℕ
weight m s e y = m.product (reading m y) (power m (digits m - depth s e))

-- an equation's factor at counter c of head h, 0 where it has no term there
abbrev pub factor_in : Term → ℕ → ℕ → ℕ
factor_in t h c = cond (h == t.head && c == t.counter) t.factor 0

abbrev pub factor_at : Meaning → List Term → ℕ → ℕ → ℕ
factor_at m ts h c = summed m (length ts) (λ j. factor_in (term_at ts j) h c)

-- what equation i adds to the total of counter c of head h, and to that of the right sides
abbrev pub counter_share : Meaning → Shape → List Equation → List ℕ → ℕ → ℕ → ℕ → ℕ
counter_share m s es ys h c i =
    let e = nth_equation es i in m.product (weight m s e (slice_index ys i)) (factor_at m e.terms h c)

abbrev pub right_share : Meaning → Shape → List Equation → List ℕ → ℕ → ℕ
right_share m s es ys i = let e = nth_equation es i in m.product (weight m s e (slice_index ys i)) e.right

-- multipliers refute the equations: every counter's total is 0, and the right sides' total is not
pub record Refutes (m : Meaning) (s : Shape) (es : List Equation) (ys : List ℕ) : Type 0 where
  pub counters : (h c : ℕ) → Has s h c → summed m (length es) (counter_share m s es ys h c) ≡ 0
  pub right : summed m (length es) (right_share m s es ys) ≡ 0 → ⊥
