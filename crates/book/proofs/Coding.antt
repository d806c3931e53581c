-- The rows of a table as rows over the ring of codes.
use Rattle.std.proofs.Common.{◌≡◌, ℕ, ◌+◌, ◌-◌, ◌*◌, ◌/◌, ◌%◌, ◌<◌, ◌↔◌, List, get_or, sym, refl, ap, ◌∙◌, subst, ap₂, zero-add}
use lib.Arith.{digits_div, digits_mod}
use Rattle.scale.specs.Meaning.{Meaning, Laws, Code, Quotient, digits, power, reading, summed}
use Rattle.scale.proofs.Codes.{reading_of}
use Rattle.scale.proofs.Coded.{Coded, codes, code, same_code, summed_sum}
use Rattle.scale.proofs.Ring.{Ring}
use Rattle.ties.specs.Layouts.{Shape, Has, Assignment, Assigns, counters_of, less, place, places}
use Rattle.ties.specs.Equations.{Equation, total}
use Rattle.ties.specs.Faults.{Sound}
use Rattle.ties.proofs.Places.{place_below, place_counter}
use Rattle.multipliers.proofs.Trusted.{raise, right_code, terms_total, total_is}
use Rattle.linear.proofs.Pivots.{Pivoted}
use Rattle.linear.proofs.Raised.{factors_of, flat, right_of, row_of, total_dot}
use Rattle.linear.proofs.Rows.{Agree, On, combo, dot, dot_cong, mul_dot}
use Rattle.linear.proofs.Valued.{codes_valued}
use Rattle.book.specs.declared.standing.Standing.{Standing}
use Rattle.book.specs.Rows.{Codes, row_at}
use Rattle.book.specs.Turning.{point}
use Rattle.book.specs.Sheets.{OnSheet, generator_of, point_of}
use Rattle.book.specs.Standing.{Stepped, equation_of, raised, raised_right, rest}

module _ (m : Meaning) (l : Laws m) where
  -- the row of a list that begins at a place
  abbrev pub coded : List ℕ → ℕ → ℕ → Coded m
  coded xs at j = code m l (get_or xs (at + j) 0)

  pub coded_is : (xs : List ℕ) → Codes m xs → (at j : ℕ) → (coded xs at j).0 ≡ get_or xs (at + j) 0
  coded_is xs all at j = reading_of m l (get_or xs (at + j) 0) (all (at + j))

  pub point_is : (xs : List ℕ) → Codes m xs → (j : ℕ) → (coded xs 0 j).0 ≡ point xs j
  point_is xs all j = coded_is xs all 0 j ∙ ap (λ i. get_or xs i 0) (zero-add j)

module _ (m : Meaning) (l : Laws m) (s : Shape) where
  abbrev R : Ring (Coded m)
  R = codes m l

  open R use {add, neg, mul}

  -- row i of the generators
  abbrev pub coded_generator : List ℕ → ℕ → ℕ → Coded m
  coded_generator xs i = coded m l xs (places s + i * places s)

  pub row_assigns : (xs : List ℕ) → Codes m xs → (at : ℕ) → Assigns m s (row_at s xs at)
  row_assigns xs all at h c has = all (at + place s h c)

  -- an assignment's codes are read as they are
  flat_is : (x : Assignment) → Assigns m s x → (h c : ℕ) → Has s h c → (flat m l s x (place s h c)).0 ≡ x h c
  flat_is x gives h c has =
      ap₂ (λ i j. reading m (x i j)) (digits_div h has.1) (digits_mod h has.1)
      ∙ reading_of m l (x h c) (gives h c has)

  pub flat_row : (xs : List ℕ) (at : ℕ) → Agree R (places s) (flat m l s (row_at s xs at)) (coded m l xs at)
  flat_row xs at j h = ap (λ i. code m l (get_or xs (at + i) 0)) (place_counter s j h).1

  -- an equation's raised terms and right side as codes
  module _ (e : Equation) (sound : Sound m s e) where
    pub right_is : (right_of m l s e).0 ≡ raised_right m s e
    right_is = ap (m.product (raise m l s e).0) (reading_of m l e.right (right_code m l s e sound))

    pub total_code : (x : Assignment) → Assigns m s x → Code m (total m e.terms x)
    total_code x gives =
        subst (λ (z : ℕ). Code m z) (sym (total_is m l s x gives e sound)) (terms_total m l s x gives e).1

    pub flat_dot_is :
        (x : Assignment)
        → Assigns m s x
        → (dot R (places s) (factors_of m l s e) (flat m l s x)).0 ≡ total m e.terms x
    flat_dot_is x gives =
        ap (λ z. z.0) (total_dot m l s e sound x gives)
        ∙ reading_of m l (total m e.terms x) (total_code x gives)

    module _ (xs : List ℕ) (all : Codes m xs) where
      pub total_dot_is :
          (at : ℕ) → (dot R (places s) (factors_of m l s e) (coded m l xs at)).0 ≡ total m e.terms (row_at s xs at)
      total_dot_is at =
          let F = factors_of m l s e in
          ap (λ z. z.0) (dot_cong R (places s) F F _ _ (λ j h. refl) (λ j h. sym (flat_row xs at j h)))
          ∙ flat_dot_is (row_at s xs at) (row_assigns xs all at)

      pub dot_is :
          (at : ℕ) → (dot R (places s) (row_of m l s e) (coded m l xs at)).0 ≡ raised m s e (row_at s xs at)
      dot_is at =
          ap (λ z. z.0) (mul_dot R (places s) (raise m l s e) (factors_of m l s e) (coded m l xs at))
          ∙ ap (m.product (raise m l s e).0) (total_dot_is at)

      pub rest_is : (add (right_of m l s e) (neg (dot R (places s) (row_of m l s e) (coded m l xs 0)))).0 ≡ rest m s e xs
      rest_is = ap₂ (less m) right_is (dot_is 0)

      pub rest_code : Code m (rest m s e xs)
      rest_code =
          subst (Code m) rest_is (add (right_of m l s e) (neg (dot R (places s) (row_of m l s e) (coded m l xs 0)))).1

  -- the assignments on a sheet are those that its rows reach
  module _ (xs : List ℕ) (all : Codes m xs) (x : Assignment) (gives : Assigns m s x) where
    reached : (t : ℕ → ℕ) (T : ℕ → Coded m) → ((i : ℕ) → i < places s → t i ≡ (T i).0) → (h c : ℕ)
        → m.sum (point_of s xs h c) (summed m (places s) (λ i. m.product (t i) (generator_of s xs i h c)))
        ≡ (add (coded m l xs 0 (place s h c)) (combo R (places s) T (coded_generator xs) (place s h c))).0
    reached t T same h c =
        let own : (at : ℕ) → row_at s xs at h c ≡ (coded m l xs at (place s h c)).0 =
        λ at. sym (coded_is m l xs all at (place s h c))
        in
        ap₂ m.sum (own 0)
        (summed_sum m l (places s) _ _ (λ i k. ap₂ m.product (same i k) (own (places s + i * places s))))

    pub on_sheet : OnSheet m s xs x ↔ On R (places s) (coded m l xs 0) (coded_generator xs) (flat m l s x)
    on_sheet = (
      λ on.
          let T : ℕ → Coded m = λ i. code m l (on.0 i) in (
            T,
            λ j k.
                let h = j / counters_of s in
                let c = j % counters_of s in
                let at = place_counter s j k in
                same_code m _ _
                (subst
                (λ (i : ℕ).
                reading m (x h c) ≡ (add (coded m l xs 0 i) (combo R (places s) T (coded_generator xs) i)).0
                )
                at.1
                (reading_of m l (x h c) (gives h c at.0)
                ∙ on.2 h c at.0
                ∙ reached on.0 T (λ i b. sym (reading_of m l (on.0 i) (on.1 i b))) h c)),
          ),
      λ on. (
        λ i. (on.0 i).0,
        λ i b. (on.0 i).1,
        λ h c has.
            sym (flat_is x gives h c has)
            ∙ ap (λ z. z.0) (on.1 (place s h c) (place_below s h c has))
            ∙ sym (reached (λ i. (on.0 i).0) on.0 (λ i b. refl) h c),
      ),
    )

  -- the step of a standing tie, as one over the ring
  module _ (k : Standing) (old new : List ℕ) (g f : ℕ) (all : Codes m old) (step : Stepped m s k old new g f) where
    abbrev e : Equation
    e = equation_of k

    divisor_is : (dot R (places s) (row_of m l s e) (coded_generator old k.pivot.number)).0 ≡ k.pivot.divisor
    divisor_is = dot_is e step.sound old all (places s + k.pivot.number * places s) ∙ sym step.pivots.divisor

    divided :
        (a c : ℕ) (A : Coded m)
        → A.0 ≡ a
        → Quotient m a k.pivot.divisor c
        → mul (dot R (places s) (row_of m l s e) (coded_generator old k.pivot.number)) (code m l c) ≡ A
    divided a c A is q =
        same_code m _ _ (ap₂ m.product divisor_is (reading_of m l c q.0) ∙ q.1 ∙ sym is)

    pub step_pivoted :
        Pivoted (codes_valued m l) (places s) (row_of m l s e) k.pivot.number (λ i. code m l (get_or k.pivot.quotients.items i 0))
        (coded_generator old) (coded_generator new)
    step_pivoted =
        record {
          below = step.pivots.formed.number;
          divides = λ i h d.
              divided _ (get_or k.pivot.quotients.items i 0) _ (dot_is e step.sound old all (places s + i * places s))
              (step.pivots.divides i h);
          others = λ i j h b d.
              let q = get_or k.pivot.quotients.items i 0 in
              same_code m _ _
              (coded_is m l new step.codes (places s + i * places s) j
              ∙ step.turned.others i j h d b
              ∙ sym (
              ap₂ m.sum (coded_is m l old all (places s + i * places s) j)
              (ap₂ (λ c z. m.product (m.negative c) z) (reading_of m l q (step.pivots.divides i h).0)
              (coded_is m l old all (places s + k.pivot.number * places s) j))
              ));
          scaled = λ j b.
              same_code m _ _
              (coded_is m l new step.codes (places s + k.pivot.number * places s) j
              ∙ step.turned.scaled j b
              ∙ sym (
              ap₂ (λ d z. m.product (power m (digits m - m.level d)) z) divisor_is
              (coded_is m l old all (places s + k.pivot.number * places s) j)
              ));
        }

    pub step_quotient :
        mul (dot R (places s) (row_of m l s e) (coded_generator old k.pivot.number)) (code m l k.shift)
        ≡ add (right_of m l s e) (neg (dot R (places s) (row_of m l s e) (coded m l old 0)))
    step_quotient = divided _ k.shift _ (rest_is e step.sound old all) step.shift

    pub step_moved :
        Agree R (places s) (coded m l new 0)
        (λ j. add (coded m l old 0 j) (mul (code m l k.shift) (coded_generator old k.pivot.number j)))
    step_moved j b =
        same_code m _ _
        (point_is m l new step.codes j
        ∙ step.turned.moved j b
        ∙ sym (
        ap₂ m.sum (point_is m l old all j)
        (ap₂ m.product (reading_of m l k.shift step.shift.0)
        (coded_is m l old all (places s + k.pivot.number * places s) j))
        ))
