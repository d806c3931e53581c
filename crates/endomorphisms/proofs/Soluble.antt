-- What the ties of a table say together, and when they contradict each other.
use Rattle.std.proofs.Common.{◌≡◌, ℕ, zero, suc, ◌+◌, ◌-◌, ◌*◌, ◌/◌, ◌%◌, ◌<◌, ◌≤◌, ◌↔◌, ◌⊎◌, List, [], ◌∷◌, ◌++◌, length, take, inl, inr, sym, ap, ◌∙◌, subst, ap₂, arith, add-one, suc-mul}
use native.Mathlib.Decide.{dec_lt}
use lib.Arith.{digits_div, digits_lt, digits_mod}
use Rattle.std.specs.List.{All}
use Rattle.std.proofs.lemmas.List.{get_or-take, length-take-le, take_more}
use Rattle.std.proofs.lemmas.List.Elements.{All-from_get_or}
use Rattle.std.proofs.lemmas.List.FromFn.{get_or-map-range_with_len, length-map-range_with_len}
use Rattle.scale.specs.Meaning.{Meaning, Laws, Code}
use Rattle.ties.specs.declared.tie.Term.{Term}
use Rattle.ties.specs.Layouts.{Assigns, Assignment, Has, Shape, counters_of, places, width_of}
use Rattle.ties.specs.Equations.{Contradictory, Equation, Meets, MeetsAll, Solves, nth_equation, term_at}
use Rattle.ties.specs.Faults.{Above, Sound}
use Rattle.ties.proofs.Places.{place_counter}
use Rattle.book.specs.Loading.{Taken}
use Rattle.endomorphisms.specs.Equations.{CodedAt, GroupEquation, Holds, HoldsAt, Insoluble, OverGroup, SolvesTable, factors, nth_row, term_of, tie_of, ties_of}
use Rattle.endomorphisms.proofs.Rules.{endomorphism_fits}
use Rattle.endomorphisms.proofs.Tables.{tie_at, ties_at, ties_length}
use Rattle.endomorphisms.proofs.Tied.{meets_is}

module _ (s : Shape) (e : GroupEquation) (c : ℕ) where
  abbrev ts : List Term
  ts = (tie_of s e c).terms

  terms_long : length ts ≡ places s
  terms_long = length-map-range_with_len (term_of s e c) 0 (places s)

  terms_at : (p : ℕ) → p < places s → term_at ts p ≡ term_of s e c p
  terms_at p h = get_or-map-range_with_len (term_of s e c) 0 (places s) p p _ h (omega arith)

  -- each term but the first stands above the one before
  rises : (p : ℕ) → p + 1 < places s → Above (term_of s e c (p + 1)) (term_of s e c p)
  rises p h =
      let there = place_counter s p (omega arith) in
      next (p / counters_of s) (p % counters_of s) there.0.1 there.1 (dec_lt (p % counters_of s + 1) (counters_of s))
    where
      next :
          (i r : ℕ)
          → r < counters_of s
          → i * counters_of s + r ≡ p
          → Dec (r + 1 < counters_of s)
          → (i < (p + 1) / counters_of s) ⊎ ((i ≡ (p + 1) / counters_of s) × (r < (p + 1) % counters_of s))
      next i r hr e (yes h) =
          let on : p + 1 ≡ i * counters_of s + (r + 1) = omega (arith, e) in
          let here : (p + 1) / counters_of s ≡ i = ap (λ (q : ℕ). q / counters_of s) on ∙ digits_div i h in
          let after : (p + 1) % counters_of s ≡ r + 1 = ap (λ (q : ℕ). q % counters_of s) on ∙ digits_mod i h in
          inr (sym here, omega arith)
      next i r hr e (no h) =
          let on : p + 1 ≡ (i + 1) * counters_of s + 0 = omega (arith, e, ap (λ (n : ℕ). n * counters_of s) (add-one i), suc-mul i (counters_of s)) in
          let some : 0 < counters_of s = omega arith in
          let here : (p + 1) / counters_of s ≡ i + 1 = ap (λ (q : ℕ). q / counters_of s) on ∙ digits_div (i + 1) some in
          inl (omega arith)

module _ (m : Meaning) (l : Laws m) (s : Shape) where
  -- a sound tie of an equation has codes for factors
  sound_coded : (e : GroupEquation) (c : ℕ) → Sound m s (tie_of s e c) → CodedAt m s e c
  sound_coded e c sound h r hh hr =
      let p = h * counters_of s + r in
      let below : p < places s = digits_lt hh hr in
      let long = terms_long s e c in
      let code : Code m (term_at (tie_of s e c).terms p).factor = (sound.codes p (omega arith)).0 (omega arith) in
      subst (Code m) (ap₂ (λ (h r : ℕ). factors e h c r) (digits_div h hr) (digits_mod h hr))
      (subst (λ (t : Term). Code m t.factor) (terms_at s e c p below) code)

  tie_meets :
      (e : GroupEquation) (c : ℕ)
      → Sound m s (tie_of s e c)
      → (x : Assignment)
      → Assigns m s x
      → Meets m s (tie_of s e c) x ↔ HoldsAt m s e x c
  tie_meets e c sound x gives = meets_is m l s e c (sound_coded e c sound) x gives

  -- endomorphisms and an element make sound ties
  pub over_sound : (e : GroupEquation) → OverGroup m s e → (c : ℕ) → c < counters_of s → Sound m s (tie_of s e c)
  over_sound e over c hc =
      let long = terms_long s e c in
      let inside : (p : ℕ) → p < length (tie_of s e c).terms → p < places s = λ p h. omega arith in
      record {
        target = hc;
        exist = λ p h.
            subst (λ (t : Term). Has s t.head t.counter) (sym (terms_at s e c p (inside p h))) (place_counter s p (inside p h)).0;
        rise = λ p h some. risen p (inside p h) some;
        codes = λ p h. (
          λ k.
              let there = (place_counter s p (inside p k)).0 in
              subst (λ (t : Term). Code m t.factor) (sym (terms_at s e c p (inside p k)))
              ((over.factor (p / counters_of s) there.0).codes c (p % counters_of s) hc there.1),
          λ k. over.element c hc,
        );
        fine = λ p h.
            let there = (place_counter s p (inside p h)).0 in
            subst (λ (t : Term). width_of s c ≤ m.level t.factor + width_of s t.counter) (sym (terms_at s e c p (inside p h)))
            (endomorphism_fits m l s (factors e (p / counters_of s)) (over.factor (p / counters_of s) there.0) c (p % counters_of s) hc there.1).1;
      }
    where
      risen : (p : ℕ) → p < places s → 0 < p → Above (term_at (tie_of s e c).terms p) (term_at (tie_of s e c).terms (p - 1))
      risen zero h some = absurd (omega arith)
      risen (suc p) h some =
          let up : Above (term_of s e c (p + 1)) (term_of s e c p) = rises s e c p (omega arith) in
          let here : term_at (tie_of s e c).terms (suc p) ≡ term_of s e c (p + 1) =
          terms_at s e c (suc p) h ∙ ap (term_of s e c) (sym (add-one p))
          in
          let back : term_at (tie_of s e c).terms (suc p - 1) ≡ term_of s e c p =
          ap (term_at (tie_of s e c).terms) (omega arith) ∙ terms_at s e c p (omega arith)
          in
          subst (λ (t : Term). Above t (term_at (tie_of s e c).terms (suc p - 1))) (sym here)
          (subst (λ (t : Term). Above (term_of s e c (p + 1)) t) (sym back) up)

  module _ (es : List GroupEquation) where
    abbrev fs : List Equation
    fs = ties_of s es

    -- where tie i stands in the table
    abbrev row : ℕ → ℕ
    row i = i / counters_of s

    abbrev counter : ℕ → ℕ
    counter i = i % counters_of s

    stands : (i : ℕ) → i < length fs → (row i < length es) × (counter i < counters_of s)
    stands i h =
        let there = place_counter (record { heads = length es; widths = s.widths }) i (omega (arith, h, ties_length s es)) in
        (there.0.0, there.0.1)

    tie_is : (i : ℕ) → i < length fs → nth_equation fs i ≡ tie_of s (nth_row es (row i)) (counter i)
    tie_is i h = ties_at s es i (omega (arith, h, ties_length s es))

    -- who solves the table meets each sound tie of it
    solves_meets :
        (x : Assignment)
        → SolvesTable m s es x
        → (i : ℕ)
        → i < length fs
        → Sound m s (nth_equation fs i)
        → Meets m s (nth_equation fs i) x
    solves_meets x solves i h sound =
        let at = stands i h in
        let e = nth_row es (row i) in
        let c = counter i in
        subst (λ (t : Equation). Meets m s t x) (sym (tie_is i h))
        ((tie_meets e c (subst (Sound m s) (tie_is i h) sound) x solves.0).1 (solves.1 (row i) _ at.0 c at.1))

    module _ (sound : (i : ℕ) → i < length fs → Sound m s (nth_equation fs i)) where
      pub solves_same : (x : Assignment) → Solves m s fs x ↔ SolvesTable m s es x
      solves_same x = (
        λ solves. (
          solves.0,
          All-from_get_or (λ e. Holds m s e x) es _
              (λ i h c hc.
              let n = i * counters_of s + c in
              let inside : n < length fs =
              let below : n < length es * counters_of s = digits_lt h hc in omega (arith, ties_length s es)
              in
              let is = tie_at s es i c h hc in
              (tie_meets (nth_row es i) c (subst (Sound m s) is (sound n inside)) x solves.0).0
              (subst (λ (t : Equation). Meets m s t x) is (solves.1 n _ inside))),
        ),
        λ solves. (
          solves.0,
          All-from_get_or (λ e. Meets m s e x) fs _ (λ i h. solves_meets x solves i h (sound i h)),
        ),
      )

    -- where the first ties contradict each other, none solves the table
    pub insoluble :
        (n : ℕ)
        → n < length fs
        → ((i : ℕ) → i < n + 1 → Sound m s (nth_equation fs i))
        → Contradictory m s (take n fs ++ (nth_equation fs n ∷ []))
        → Insoluble m s es
    insoluble n h sound never x solves =
        let long : length (take (n + 1) fs) ≡ n + 1 = length-take-le (n + 1) fs (omega (arith, h)) in
        never x (
          solves.0,
          subst (λ (q : List Equation). MeetsAll m s q x) (take_more fs n _ h)
              (All-from_get_or (λ e. Meets m s e x) (take (n + 1) fs) _
              (λ i k.
              let below : i < n + 1 = omega arith in
              subst (λ (t : Equation). Meets m s t x) (sym (get_or-take (n + 1) fs i _ below))
              (solves_meets x solves i (omega (arith, h)) (sound i below)))),
        )

    pub taken_sound : (ys : List ℕ) (n : ℕ) → Taken m s [] fs ys n → (i : ℕ) → i < n → Sound m s (nth_equation fs i)
    taken_sound ys n taken i h = (taken.accepted i h).1.sound

    -- all ties of a table over the group are sound
    pub all_sound : All (OverGroup m s) es → (i : ℕ) → i < length fs → Sound m s (nth_equation fs i)
    all_sound over i h =
        let at = stands i h in
        subst (Sound m s) (sym (tie_is i h)) (over_sound (nth_row es (row i)) (over (row i) _ at.0) (counter i) at.1)
