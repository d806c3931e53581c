-- The places of counters.
use Rattle.std.proofs.Common.{◌≡◌, ℕ, zero, suc, ◌+◌, ◌*◌, ◌/◌, ◌%◌, ◌<◌, ◌≤◌, List, length, sym, refl, ap, ◌∙◌, subst, inl, inr, le_refl, mod-lt, suc-mul, div-lt_iff_lt-mul, mul-le-mul, mul-zero, div-add-mod', arith, length-take}
use lib.Arith.{digits_lt, digits_div, digits_mod}
use Rattle.ties.specs.declared.layout.Layout.{Layout}
use Rattle.ties.specs.declared.tie.Term.{Term}
use Rattle.ties.specs.Equations.{term_at}
use Rattle.ties.specs.Faults.{Above, Exists, Passes, Rises}
use Rattle.ties.specs.Layouts.{Shape, Sized, Has, counters_of, place, places, shape}

pub layout_counters : (l : Layout) → counters_of (shape l) ≡ l.counters
layout_counters l =
    let k = length-take l.counters l.widths in
    let w = l.all_widths in
    let d = l.few_counters in
    omega arith

-- a layout's shape is in bounds
pub layout_sized : (l : Layout) → Sized (shape l)
layout_sized l =
    let k = layout_counters l in
    let a = l.some_heads in
    let b = l.few_heads in
    let c = l.some_counters in
    let d = l.few_counters in
    (a, b, omega arith, omega arith)

-- a counter's place is below the number of places, which is at most 32
pub place_below : (s : Shape) (h c : ℕ) → Has s h c → place s h c < s.heads * counters_of s
place_below s h c has = digits_lt has.0 has.1

pub places_most : (s : Shape) → Sized s → s.heads * counters_of s ≤ 32
places_most s sized = mul-le-mul sized.1 sized.3

-- there is a place
pub places_some : (s : Shape) → Sized s → 1 ≤ places s
places_some s sized = mul-le-mul sized.0 sized.2

-- counters at one place are one
pub place_apart :
    (s : Shape) (h c i d : ℕ) → c < counters_of s → d < counters_of s → place s h c ≡ place s i d → (h ≡ i) × (c ≡ d)
place_apart s h c i d cK dK e = (
  sym (digits_div h cK) ∙ ap (λ p. p / counters_of s) e ∙ digits_div i dK,
  sym (digits_mod h cK) ∙ ap (λ p. p % counters_of s) e ∙ digits_mod i dK,
)

-- each place is a counter's
pub place_counter :
    (s : Shape) (i : ℕ)
    → i < s.heads * counters_of s
    → Has s (i / counters_of s) (i % counters_of s) × (place s (i / counters_of s) (i % counters_of s) ≡ i)
place_counter s i h =
    let k = counters_of s in
    let some : 0 < k = pos_of_product s.heads k i h in
    (((div-lt_iff_lt-mul some).1 h, mod-lt i some), div-add-mod' i k)
  where
    pos_of_product : (n k i : ℕ) → i < n * k → 0 < k
    pos_of_product n zero i h = absurd (omega (arith, mul-zero n))
    pos_of_product n (suc k) i h = omega arith

-- terms that rise have rising places, so there are no more of them than places
module _ (s : Shape) (ts : List Term) (exist : Passes (Exists s ts) (length ts)) (rise : Passes (Rises ts) (length ts)) where
  abbrev place_of : ℕ → ℕ
  place_of i = place s (term_at ts i).head (term_at ts i).counter

  above_place : (t u : Term) → u.counter < counters_of s → Above t u → place s u.head u.counter < place s t.head t.counter
  above_place t u h (inl k) =
      let k' : suc u.head * counters_of s ≤ t.head * counters_of s = mul-le-mul k (le_refl (counters_of s)) in
      omega (arith, suc-mul u.head (counters_of s))
  above_place t u h (inr k) =
      subst (λ (a : ℕ). place s u.head u.counter < a * counters_of s + t.counter) k.0 (omega (arith, k.1))

  at_least : (i : ℕ) → i < length ts → i ≤ place_of i
  at_least zero h = omega arith
  at_least (suc i) h =
      let before = at_least i (omega arith) in
      let up : Above (term_at ts (suc i)) (term_at ts i) =
      subst (λ (j : ℕ). Above (term_at ts (suc i)) (term_at ts j)) (omega arith) (rise (suc i) h (omega arith))
      in
      let more = above_place (term_at ts (suc i)) (term_at ts i) (exist i (omega arith)).1 up in
      omega arith

  pub few_terms_lem : length ts ≤ places s
  few_terms_lem = go (length ts) refl
    where
      go : (n : ℕ) → n ≡ length ts → n ≤ places s
      go zero e = omega arith
      go (suc n) e =
          let last = at_least n (omega arith) in
          let below = place_below s _ _ (exist n (omega arith)) in
          omega arith
