-- Why a yes can be trusted: where multipliers refute equations, no assignment meets them all.
use Rattle.std.proofs.Common.{◌≡◌, ℕ, ◌-◌, ◌<◌, ◌≤◌, Bool, true, false, cond, ◌&&◌, eqb, List, length, get_or, sym, refl, ap, ◌∙◌, subst, ap₂, arith}
use Rattle.std.specs.List.{All}
use Rattle.std.proofs.lemmas.List.Elements.{All-get_or}
use Rattle.scale.specs.Meaning.{Meaning, Laws, Code, digits, power, summed}
use Rattle.scale.proofs.Codes.{power_code, reading_of}
use Rattle.scale.proofs.Coded.{Coded, codes, code, same_code, summed_sum}
use Rattle.scale.proofs.Levels.{raised_zero}
use Rattle.scale.proofs.Ring.{Ring, equal, mul_neg}
use Rattle.scale.proofs.Sums.{ring_sum, sum_cong}
use Rattle.ties.specs.Layouts.{Shape, Within, Assignment, Assigns, counters_of, less}
use Rattle.ties.specs.Equations.{Equation, Contradictory, Meets, code_at, depth, nth_equation, term_at, total, value}
use Rattle.ties.specs.Faults.{Sound}
use Rattle.multipliers.specs.Refuting.{Refutes, factor_at, counter_share, right_share}
use Rattle.multipliers.proofs.Pairing.{ring_pair, pair_none, pair_mul, pair_sum, pair_only}

module _ (m : Meaning) (l : Laws m) (s : Shape) where
  abbrev R : Ring (Coded m)
  R = codes m l

  open R use {zero as none, add, neg, mul, mul_assoc, mul_add}

  -- an equation's factors and right side as codes, and its factor at each counter
  abbrev factor : Equation → ℕ → Coded m
  factor e j = code m l (term_at e.terms j).factor

  abbrev right : Equation → Coded m
  right e = code m l e.right

  abbrev pub row : Equation → ℕ → ℕ → Coded m
  row e h c =
      ring_sum R (length e.terms)
      (λ j. cond (eqb h (term_at e.terms j).head && eqb c (term_at e.terms j).counter) (factor e j) none)

  -- what it is multiplied by
  abbrev pub raise : Equation → Coded m
  raise e = (power m (digits m - depth s e), power_code m l (digits m - depth s e))

  abbrev weighed : Equation → ℕ → Coded m
  weighed e y = mul (code m l y) (raise e)

  factor_code : (e : Equation) → Sound m s e → (j : ℕ) → j < length e.terms → Code m (term_at e.terms j).factor
  factor_code e sound j h = (sound.codes j (omega arith)).0 h

  pub right_code : (e : Equation) → Sound m s e → Code m e.right
  right_code e sound = (sound.codes (length e.terms) (omega arith)).1 refl

  cond_code : (b : Bool) (a : ℕ) → Code m a → cond b a 0 ≡ (cond b (code m l a) none).0
  cond_code true a h = sym (reading_of m l a h)
  cond_code false a h = refl

  pub factor_row : (e : Equation) → Sound m s e → (h c : ℕ) → factor_at m e.terms h c ≡ (row e h c).0
  factor_row e sound h c =
      summed_sum m l (length e.terms) _ _
      (λ j k. cond_code (eqb h (term_at e.terms j).head && eqb c (term_at e.terms j).counter) _ (factor_code e sound j k))

  -- at an assignment
  module _ (x : Assignment) (gives : Assigns m s x) where
    abbrev codes_of : ℕ → ℕ → Coded m
    codes_of h c = code m l (x h c)

    abbrev pub terms_total : Equation → Coded m
    terms_total e =
        ring_sum R (length e.terms) (λ j. mul (factor e j) (codes_of (term_at e.terms j).head (term_at e.terms j).counter))

    pub total_is : (e : Equation) → Sound m s e → total m e.terms x ≡ (terms_total e).0
    total_is e sound =
        summed_sum m l (length e.terms) _ _
        (λ j k.
        ap₂ m.product
        (sym (reading_of m l (term_at e.terms j).factor (factor_code e sound j k)))
        (sym (reading_of m l (code_at x (term_at e.terms j)) (gives _ _ (sound.exist j k))))
        )

    -- the equation's row at the codes is its total
    pub row_total :
        (e : Equation) → Sound m s e → ring_pair R s.heads (counters_of s) codes_of (row e) ≡ terms_total e
    row_total e sound =
        pair_sum R s.heads (counters_of s) codes_of (length e.terms) _
        ∙ sum_cong R (length e.terms) _ _
        (λ j k. pair_only R s.heads (counters_of s) codes_of (factor e j) _ _ (sound.exist j k).0 (sound.exist j k).1)

    -- raised, a met equation holds exactly
    raised_exact :
        (e : Equation) → Within m s → Sound m s e → Meets m s e x → mul (raise e) (terms_total e) ≡ mul (raise e) (right e)
    raised_exact e within sound meets =
        let d = terms_total e in
        let b = right e in
        let v : value m e x ≡ (add d (neg b)).0 =
        ap₂ (less m) (total_is e sound) (sym (reading_of m l e.right (right_code e sound)))
        in
        let deep : depth s e ≤ digits m = (within e.target sound.target).1 in
        let low : depth s e ≤ m.level (add d (neg b)).0 = subst (λ (z : ℕ). depth s e ≤ m.level z) v meets in
        let gone : mul (raise e) (add d (neg b)) ≡ none =
        same_code m _ _ ((raised_zero m l (add d (neg b)).0 (depth s e) (add d (neg b)).1 deep).1 low)
        in
        equal R (mul (raise e) d) (mul (raise e) b)
        (ap (add (mul (raise e) d)) (sym (mul_neg R (raise e) b)) ∙ sym (mul_add (raise e) d (neg b)) ∙ gone)

    weighed_exact :
        (e : Equation) (y : ℕ)
        → Within m s
        → Sound m s e
        → Meets m s e x
        → mul (weighed e y) (terms_total e) ≡ mul (weighed e y) (right e)
    weighed_exact e y within sound meets =
        mul_assoc (code m l y) (raise e) (terms_total e)
        ∙ ap (mul (code m l y)) (raised_exact e within sound meets)
        ∙ sym (mul_assoc (code m l y) (raise e) (right e))

  module _ (es : List Equation) (ys : List ℕ) (sound : All (Sound m s) es) where
    abbrev nth : ℕ → Equation
    nth i = nth_equation es i

    pub nth_sound : (i : ℕ) → i < length es → Sound m s (nth i)
    nth_sound i k = All-get_or (Sound m s) es i _ k sound

    abbrev weight_of : ℕ → Coded m
    weight_of i = weighed (nth i) (get_or ys i 0)

    pub counter_sum :
        (h c : ℕ)
        → summed m (length es) (counter_share m s es ys h c)
        ≡ (ring_sum R (length es) (λ i. mul (weight_of i) (row (nth i) h c))).0
    counter_sum h c =
        summed_sum m l (length es) _ _
        (λ i k. ap (m.product (weight_of i).0) (factor_row (nth i) (nth_sound i k) h c))

    pub right_sum :
        summed m (length es) (right_share m s es ys) ≡ (ring_sum R (length es) (λ i. mul (weight_of i) (right (nth i)))).0
    right_sum =
        summed_sum m l (length es) _ _
        (λ i k.
        ap (m.product (weight_of i).0) (sym (reading_of m l (nth i).right (right_code (nth i) (nth_sound i k))))
        )

    pub trusted : Within m s → Refutes m s es ys → Contradictory m s es
    trusted within refutes x solves =
        let gives = solves.0 in
        let n = length es in
        let X = codes_of x gives in
        let P = ring_pair R s.heads (counters_of s) X in
        let none_left : P (λ h c. ring_sum R n (λ i. mul (weight_of i) (row (nth i) h c))) ≡ none =
        pair_none R s.heads (counters_of s) X _
        (λ h c hH cK. same_code m _ _ (sym (counter_sum h c) ∙ refutes.counters h c (hH, cK)))
        in
        let added : P (λ h c. ring_sum R n (λ i. mul (weight_of i) (row (nth i) h c)))
        ≡ ring_sum R n (λ i. mul (weight_of i) (right (nth i))) =
        pair_sum R s.heads (counters_of s) X n _
        ∙ sum_cong R n _ _
        (λ i k.
        pair_mul R s.heads (counters_of s) X (weight_of i) (row (nth i))
        ∙ ap (mul (weight_of i)) (row_total x gives (nth i) (nth_sound i k))
        ∙ weighed_exact x gives (nth i) (get_or ys i 0) within (nth_sound i k)
        (All-get_or (λ e. Meets m s e x) es i _ k solves.1)
        )
        in
        refutes.right (right_sum ∙ ap (λ c. c.0) (sym added ∙ none_left))
