-- The ties of an equation between elements of the group say what it says, counter by counter.
use Rattle.std.proofs.Common.{◌≡◌, ℕ, zero, suc, ◌+◌, ◌*◌, ◌/◌, ◌%◌, ◌<◌, ◌≤◌, ◌↔◌, List, [], ◌∷◌, ◌++◌, map, length, sym, refl, ap, ◌∙◌, subst, ap₂, arith}
use lib.Arith.{digits_div, digits_mod}
use Rattle.std.specs.List.{range_with_len}
use Rattle.std.proofs.lemmas.List.FromFn.{get_or-map-range_with_len, length-map-range_with_len, map-range_with_len_more}
use Rattle.scale.specs.Meaning.{Meaning, Laws, summed}
use Rattle.scale.proofs.Codes.{reading_of}
use Rattle.scale.proofs.Coded.{Coded as CodedNumber, code, codes, summed_sum}
use Rattle.scale.proofs.Ring.{Ring}
use Rattle.scale.proofs.Sums.{ring_sum}
use Rattle.ties.specs.declared.tie.Term.{Term}
use Rattle.ties.specs.Layouts.{Assigns, Assignment, Shape, counters_of, less, places, width_of}
use Rattle.ties.specs.Equations.{Meets, code_at, term_at, total}
use Rattle.ties.proofs.Places.{place_counter}
use Rattle.linear.proofs.Raised.{sum_places}
use Rattle.endomorphisms.specs.Groups.{act}
use Rattle.endomorphisms.specs.Equations.{CodedAt, GroupEquation, HoldsAt, factors, left, right, term_of, tie_of}

-- one more term
pub terms_more :
    (s : Shape) (e : GroupEquation) (c h r : ℕ) (ts us : List Term)
    → r < counters_of s
    → ts ≡ map (term_of s e c) (range_with_len 0 (h * counters_of s + r))
    → us ≡ ts ++ (record { head = h; counter = r; factor = factors e h c r } ∷ [])
    → us ≡ map (term_of s e c) (range_with_len 0 (h * counters_of s + (r + 1)))
terms_more s e c h r ts us hr before is =
    let p = h * counters_of s + r in
    let here : term_of s e c p ≡ record { head = h; counter = r; factor = factors e h c r } =
    ap₂ (λ (h r : ℕ). let t : Term = record { head = h; counter = r; factor = factors e h c r } in t) (digits_div h hr) (digits_mod h hr)
    in
    let on : p + 1 ≡ h * counters_of s + (r + 1) = omega arith in
    is ∙ ap₂ (λ (ts : List Term) (t : Term). ts ++ (t ∷ [])) before (sym here)
    ∙ sym (map-range_with_len_more (term_of s e c) 0 p p (omega arith))
    ∙ ap (λ (n : ℕ). map (term_of s e c) (range_with_len 0 n)) on

pub terms_length :
    (s : Shape) (e : GroupEquation) (c n : ℕ) (ts : List Term)
    → ts ≡ map (term_of s e c) (range_with_len 0 n)
    → length ts ≡ n
terms_length s e c n ts is = ap length is ∙ length-map-range_with_len (term_of s e c) 0 n

module _ (m : Meaning) (l : Laws m) (s : Shape) (e : GroupEquation) (c : ℕ) (coded : CodedAt m s e c) (x : Assignment) (gives : Assigns m s x) where
  abbrev R : Ring (CodedNumber m)
  R = codes m l

  -- what a counter of a head adds
  abbrev summand : ℕ → ℕ → ℕ
  summand h r = m.product (factors e h c r) (x h r)

  as_code : (h r : ℕ) → h < s.heads → r < counters_of s → summand h r ≡ (code m l (summand h r)).0
  as_code h r hh hr =
      sym
      (reading_of m l (summand h r) (l.product_code (factors e h c r) (x h r) (coded h r hh hr) (gives h r (hh, hr))))

  summed_same : (n : ℕ) (f g : ℕ → ℕ) → ((i : ℕ) → i < n → f i ≡ g i) → summed m n f ≡ summed m n g
  summed_same zero f g h = refl
  summed_same (suc n) f g h = ap₂ m.sum (summed_same n f g (λ i k. h i (omega arith))) (h n (omega arith))

  total_summands : total m (tie_of s e c).terms x ≡ summed m (places s) (λ p. summand (p / counters_of s) (p % counters_of s))
  total_summands =
      let ts = (tie_of s e c).terms in
      let long : length ts ≡ places s = length-map-range_with_len (term_of s e c) 0 (places s) in
      ap (λ (n : ℕ). summed m n (λ i. m.product (term_at ts i).factor (code_at x (term_at ts i)))) long
      ∙ summed_same (places s) (λ i. m.product (term_at ts i).factor (code_at x (term_at ts i)))
      (λ p. summand (p / counters_of s) (p % counters_of s))
      (λ p h.
      ap (λ (t : Term). m.product t.factor (code_at x t))
      (get_or-map-range_with_len (term_of s e c) 0 (places s) p p (record { head = 0; counter = 0; factor = 0 }) h (omega arith)))

  pub total_left : total m (tie_of s e c).terms x ≡ left m s e x c
  total_left =
      total_summands
      ∙ summed_sum m l (places s) (λ p. summand (p / counters_of s) (p % counters_of s))
      (λ p. code m l (summand (p / counters_of s) (p % counters_of s)))
      (λ p h. let there = place_counter s p h in as_code (p / counters_of s) (p % counters_of s) there.0.0 there.0.1)
      ∙ ap (λ z. z.0) (sum_places R s.heads (counters_of s) (λ h r. code m l (summand h r)))
      ∙ sym
      (summed_sum m l s.heads (λ h. act m s (factors e h) (x h) c) (λ h. ring_sum R (counters_of s) (λ r. code m l (summand h r)))
      (λ h hh.
      summed_sum m l (counters_of s) (summand h) (λ r. code m l (summand h r)) (λ r hr. as_code h r hh hr)))

  pub meets_is : Meets m s (tie_of s e c) x ↔ HoldsAt m s e x c
  meets_is =
      let P = λ (z : ℕ). width_of s c ≤ m.level (less m z (right e c)) in
      (λ h. subst P total_left h, λ h. subst P (sym total_left) h)
