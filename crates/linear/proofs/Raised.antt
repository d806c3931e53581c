-- An equation, raised to full length, is a row over all places and a right side: it is met just where they are equal.
use Rattle.std.proofs.Common.{◌≡◌, ℕ, zero, suc, ◌+◌, ◌*◌, ◌/◌, ◌%◌, ◌<◌, ◌≤◌, ◌↔◌, List, length, get_or, sym, ap, ◌∙◌, subst, ap₂, add-zero, add-suc, suc-mul, zero-mul}
use lib.Arith.{digits_div, digits_mod}
use Rattle.std.specs.List.{All}
use Rattle.scale.specs.Meaning.{Meaning, Laws, reading}
use Rattle.scale.proofs.Codes.{reading_of}
use Rattle.scale.proofs.Coded.{Coded, codes, code, same_code}
use Rattle.scale.proofs.Ring.{Ring, equal, mul_neg}
use Rattle.scale.proofs.Sums.{ring_sum, sum_cong}
use Rattle.ties.specs.Layouts.{Shape, Within, Assignment, Assigns, counters_of, less, place, places}
use Rattle.ties.specs.Equations.{Equation, Meets, depth, nth_equation, total, value}
use Rattle.ties.specs.Faults.{Sound}
use Rattle.ties.proofs.Places.{place_below}
use Rattle.multipliers.specs.Refuting.{Refutes, factor_at}
use Rattle.multipliers.proofs.Trusted.{
  counter_sum,
  factor_row,
  nth_sound,
  raise,
  right_code,
  right_sum,
  row,
  row_total,
  terms_total,
  total_is,
}
use Rattle.linear.proofs.Rows.{dot, mul_dot}
use Rattle.linear.proofs.Valued.{codes_valued, raiser_zero}

module _ {C : Type 0} (R : Ring C) where
  open R use {add, add_assoc}

  sum_parts : (n k : ℕ) (f : ℕ → C) → ring_sum R (n + k) f ≡ add (ring_sum R n f) (ring_sum R k (λ i. f (n + i)))
  sum_parts n zero f = ap (λ i. ring_sum R i f) (add-zero n) ∙ sym (R.add_zero (ring_sum R n f))
  sum_parts n (suc k) f =
      ap (λ i. ring_sum R i f) (add-suc n k)
      ∙ ap (λ z. add z (f (n + k))) (sum_parts n k f)
      ∙ add_assoc (ring_sum R n f) (ring_sum R k (λ i. f (n + i))) (f (n + k))

  -- a sum over all places, as a sum over heads and counters
  pub sum_places :
      (H K : ℕ) (f : ℕ → ℕ → C) → ring_sum R (H * K) (λ j. f (j / K) (j % K)) ≡ ring_sum R H (λ h. ring_sum R K (f h))
  sum_places zero K f = ap (λ n. ring_sum R n (λ j. f (j / K) (j % K))) (zero-mul K)
  sum_places (suc H) K f =
      ap (λ n. ring_sum R n (λ j. f (j / K) (j % K))) (suc-mul H K)
      ∙ sum_parts (H * K) K (λ j. f (j / K) (j % K))
      ∙ ap₂ add (sum_places H K f)
      (sum_cong R K _ _ (λ c h. ap₂ f (digits_div H h) (digits_mod H h)))

module _ (m : Meaning) (l : Laws m) (s : Shape) where
  -- an equation's factor at each place
  abbrev pub factors_of : Equation → ℕ → Coded m
  factors_of e j = code m l (factor_at m e.terms (j / counters_of s) (j % counters_of s))

  -- the factors and the right side, raised, and an assignment's code at each place
  abbrev pub row_of : Equation → ℕ → Coded m
  row_of e j = (codes m l).mul (raise m l s e) (factors_of e j)

  abbrev pub right_of : Equation → Coded m
  right_of e = (codes m l).mul (raise m l s e) (code m l e.right)

  abbrev pub flat : Assignment → ℕ → Coded m
  flat x j = code m l (x (j / counters_of s) (j % counters_of s))

  abbrev R : Ring (Coded m)
  R = codes m l

  open R use {zero as none, add, neg, mul, add_neg, mul_add, mul_assoc}

  -- a number that is that of a code c is read as c
  code_as : (a : ℕ) (c : Coded m) → a ≡ c.0 → code m l a ≡ c
  code_as a c e = same_code m (code m l a) c (ap (reading m) e ∙ reading_of m l c.0 c.1)

  module _ (e : Equation) (sound : Sound m s e) where
    factor_code : (h c : ℕ) → code m l (factor_at m e.terms h c) ≡ row m l s e h c
    factor_code h c = code_as (factor_at m e.terms h c) (row m l s e h c) (factor_row m l s e sound h c)

    module _ (x : Assignment) (gives : Assigns m s x) where
      total_code : code m l (total m e.terms x) ≡ terms_total m l s x gives e
      total_code = code_as (total m e.terms x) (terms_total m l s x gives e) (total_is m l s x gives e sound)

      -- the factors at an assignment are the total of the terms
      pub total_dot : dot R (places s) (factors_of e) (flat x) ≡ code m l (total m e.terms x)
      total_dot =
          let K = counters_of s in
          let F : ℕ → ℕ → Coded m = λ h c. code m l (factor_at m e.terms h c) in
          sum_places R s.heads K (λ h c. mul (F h c) (code m l (x h c)))
          ∙ sum_cong R s.heads _ _
          (λ h hH. sum_cong R K _ _ (λ c cK. ap (λ z. mul z (code m l (x h c))) (factor_code h c)))
          ∙ row_total m l s x gives e sound
          ∙ sym total_code

      -- and the row is that total, raised
      pub raised_total :
          dot R (places s) (row_of e) (flat x) ≡ mul (raise m l s e) (code m l (total m e.terms x))
      raised_total =
          mul_dot R (places s) (raise m l s e) (factors_of e) (flat x) ∙ ap (mul (raise m l s e)) total_dot

      value_is : value m e x ≡ (add (code m l (total m e.terms x)) (neg (code m l e.right))).0
      value_is =
          ap₂ (less m)
          (total_is m l s x gives e sound ∙ sym (ap (λ c. c.0) total_code))
          (sym (reading_of m l e.right (right_code m l s e sound)))

      -- less the right side, it is the raised value
      pub raised_value :
          add (dot R (places s) (row_of e) (flat x)) (neg (right_of e)) ≡ mul (raise m l s e) (code m l (value m e x))
      raised_value =
          let T = code m l (total m e.terms x) in
          let b = code m l e.right in
          ap₂ add raised_total (sym (mul_neg R (raise m l s e) b))
          ∙ sym (mul_add (raise m l s e) T (neg b))
          ∙ ap (mul (raise m l s e)) (sym (code_as (value m e x) (add T (neg b)) value_is))

      pub meets_exactly : Within m s → Meets m s e x ↔ (dot R (places s) (row_of e) (flat x) ≡ right_of e)
      meets_exactly within =
          let D = dot R (places s) (row_of e) (flat x) in
          let b = right_of e in
          let own : reading m (value m e x) ≡ value m e x =
          let c = add (code m l (total m e.terms x)) (neg (code m l e.right)) in
          ap (reading m) value_is ∙ reading_of m l c.0 c.1 ∙ sym value_is
          in
          let deep = (within e.target sound.target).1 in
          let raised = raiser_zero (codes_valued m l) (code m l (value m e x)) (depth s e) deep in (
            λ meets.
                equal R D b
                (raised_value ∙ raised.1 (subst (λ (z : ℕ). depth s e ≤ m.level z) (sym own) meets)),
            λ same.
                subst (λ (z : ℕ). depth s e ≤ m.level z) own
                (raised.0 (sym raised_value ∙ ap (λ z. add z (neg b)) same ∙ add_neg b)),
          )

  pub refutes_rows :
      (es : List Equation) (ys : List ℕ)
      → All (Sound m s) es
      → ((j : ℕ) → j < places s
      → ring_sum R (length es) (λ i. mul (code m l (get_or ys i 0)) (row_of (nth_equation es i) j)) ≡ none)
      → (ring_sum R (length es) (λ i. mul (code m l (get_or ys i 0)) (right_of (nth_equation es i))) ≡ none → ⊥)
      → Refutes m s es ys
  refutes_rows es ys sound rows rights =
      let n = length es in
      let nth = nth_equation es in
      let weight : ℕ → Coded m = λ i. mul (code m l (get_or ys i 0)) (raise m l s (nth i)) in
      record {
        counters = λ h c has.
            counter_sum m l s es ys sound h c
            ∙ ap (λ z. z.0)
            (sum_cong R n _ _
            (λ i k.
            ap (mul (weight i))
            (sym (factor_code (nth i) (nth_sound m l s es ys sound i k) h c)
            ∙ ap₂ (λ h c. code m l (factor_at m (nth i).terms h c))
            (sym (digits_div h has.1)) (sym (digits_mod h has.1)))
            ∙ mul_assoc (code m l (get_or ys i 0)) (raise m l s (nth i)) _
            )
            ∙ rows (place s h c) (place_below s h c has));
        right = λ gone.
            rights
            (sum_cong R n _ _
            (λ i k. sym (mul_assoc (code m l (get_or ys i 0)) (raise m l s (nth i)) (code m l (nth i).right)))
            ∙ same_code m _ _ (sym (right_sum m l s es ys sound) ∙ gone));
      }
