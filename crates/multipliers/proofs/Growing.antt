-- One more term added to the totals.
use Rattle.std.proofs.Common.{◌≡◌, ℕ, suc, ◌+◌, ◌-◌, ◌<◌, Bool, true, false, cond, ◌&&◌, eqb, List, length, get_or, set, sym, refl, ap, ◌∙◌, subst, ap₂, add-one, arith, length-set, get_or-set_other, get_or-set_same, eq-eqb, ne_eqb}
use native.Mathlib.Decide.{ℕ_discrete}
use Rattle.scale.specs.Meaning.{Meaning, Laws, Code, digits, power, reading, summed}
use Rattle.scale.proofs.Codes.{power_code, reading_code, reading_of, zero_code}
use Rattle.scale.proofs.Coded.{summed_code}
use Rattle.scale.proofs.Levels.{product_zero}
use Rattle.ties.specs.declared.tie.Term.{Term}
use Rattle.ties.specs.Layouts.{Shape, Has, place, shape}
use Rattle.ties.specs.Equations.{Equation, depth, term_at}
use Rattle.ties.specs.declared.layout.Layout.{Layout}
use Rattle.ties.proofs.Places.{layout_sized, place_apart, place_below, places_most}
use Rattle.multipliers.specs.Refuting.{factor_in, weight}
use Rattle.multipliers.specs.Totals.{Codes, Shares}

-- a code stored among codes
pub codes_set : (m : Meaning) (xs : List ℕ) (i v : ℕ) → i < length xs → Codes m xs → Code m v → Codes m (set xs i v)
codes_set m xs i v inside codes vc k = go (ℕ_discrete k i)
  where
    go : Dec (k ≡ i) → Code m (get_or (set xs i v) k 0)
    go (yes e) = subst (Code m) (sym (ap (λ q. get_or (set xs i v) q 0) e ∙ get_or-set_same xs i v 0 inside)) vc
    go (no d) = subst (Code m) (sym (get_or-set_other xs i k v 0 d)) (codes k)

factor_in_code : (m : Meaning) (l : Laws m) (t : Term) (h c : ℕ) → Code m t.factor → Code m (factor_in t h c)
factor_in_code m l t h c f = go (eqb h t.head && eqb c t.counter)
  where
    go : (b : Bool) → Code m (cond b t.factor 0)
    go true = f
    go false = zero_code m l

factor_here : (t : Term) → factor_in t t.head t.counter ≡ t.factor
factor_here t =
    ap (λ b. cond (b && eqb t.counter t.counter) t.factor 0) (eq-eqb t.head t.head refl)
    ∙ ap (λ b. cond b t.factor 0) (eq-eqb t.counter t.counter refl)

factor_elsewhere : (t : Term) (h c : ℕ) → ((h ≡ t.head) × (c ≡ t.counter) → ⊥) → factor_in t h c ≡ 0
factor_elsewhere t h c d = go (ℕ_discrete h t.head)
  where
    go : Dec (h ≡ t.head) → factor_in t h c ≡ 0
    go (yes e) =
        ap (λ b. cond (b && eqb c t.counter) t.factor 0) (eq-eqb h t.head e)
        ∙ ap (λ b. cond b t.factor 0) (ne_eqb c t.counter (λ k. d (e, k)))
    go (no n) = ap (λ b. cond (b && eqb c t.counter) t.factor 0) (ne_eqb h t.head n)

module _ (m : Meaning) (l : Laws m) (s : Shape) (by : ℕ) (by-is-code : Code m by) (ts : List Term) where
  -- the share of the first j terms
  abbrev share : ℕ → ℕ → ℕ → ℕ
  share j h c = m.product by (summed m j (λ i. factor_in (term_at ts i) h c))

  -- no term yet
  pub shares_none : (old : List ℕ) → Codes m old → Shares m s (share 0) old old
  shares_none old codes h c has =
      sym (ap (m.sum (get_or old (place s h c) 0)) (product_zero m l by by-is-code) ∙ l.sum_zero _ (codes (place s h c)))

  module _ (j : ℕ) (factors : (i : ℕ) → i < suc j → Code m (term_at ts i).factor) where
    sum_code : (h c : ℕ) → Code m (summed m j (λ i. factor_in (term_at ts i) h c))
    sum_code h c = summed_code m l j _ (λ i k. factor_in_code m l (term_at ts i) h c (factors i (omega arith)))

    share_code : (h c : ℕ) → Code m (share j h c)
    share_code h c = l.product_code by _ by-is-code (sum_code h c)

    -- one more term: its counter's total grows, the others stay
    share_more :
        (h c a : ℕ)
        → Code m a
        → m.sum (m.sum a (share j h c)) (m.product by (factor_in (term_at ts j) h c)) ≡ m.sum a (share (suc j) h c)
    share_more h c a ac =
        let f = factor_in (term_at ts j) h c in
        let fc : Code m f = factor_in_code m l (term_at ts j) h c (factors j (omega arith)) in
        l.sum_assoc a (share j h c) (m.product by f) ac (share_code h c) (l.product_code by f by-is-code fc)
        ∙ ap (m.sum a) (sym (l.product_sum by _ f by-is-code (sum_code h c) fc))

    pub shares_more :
        (old cur : List ℕ) (v : ℕ)
        → Codes m old
        → Codes m cur
        → Has s (term_at ts j).head (term_at ts j).counter
        → place s (term_at ts j).head (term_at ts j).counter < length cur
        → v ≡ m.sum (get_or cur (place s (term_at ts j).head (term_at ts j).counter) 0) (m.product by (term_at ts j).factor)
        → Shares m s (share j) old cur
        → Shares m s (share (suc j)) old (set cur (place s (term_at ts j).head (term_at ts j).counter) v)
    shares_more old cur v oc cur_codes there inside is before h c has =
        go (ℕ_discrete (place s h c) p) ∙ ap (λ a. m.sum a (m.product by (factor_in t h c))) (before h c has) ∙ share_more h c _ (oc (place s h c))
      where
        t : Term
        t = term_at ts j

        p : ℕ
        p = place s (term_at ts j).head (term_at ts j).counter

        go :
            Dec (place s h c ≡ p)
            → get_or (set cur p v) (place s h c) 0 ≡ m.sum (get_or cur (place s h c) 0) (m.product by (factor_in t h c))
        go (yes e) =
            let same = place_apart s h c t.head t.counter has.1 there.1 e in
            let here : factor_in t h c ≡ t.factor = ap₂ (factor_in t) same.0 same.1 ∙ factor_here t in
            ap (λ q. get_or (set cur p v) q 0) e
            ∙ get_or-set_same cur p v 0 inside
            ∙ is
            ∙ ap₂ (λ q f. m.sum (get_or cur q 0) (m.product by f)) (sym e) (sym here)
        go (no d) =
            let gone = factor_elsewhere t h c (λ k. d (ap₂ (place s) k.0 k.1)) in
            get_or-set_other cur p (place s h c) v 0 d
            ∙ sym (l.sum_zero _ (cur_codes (place s h c)))
            ∙ ap (m.sum (get_or cur (place s h c) 0)) (sym (product_zero m l by by-is-code) ∙ ap (m.product by) (sym gone))

    -- the same, as the code computes it
    pub one_more :
        (old cur : List ℕ) (p v : ℕ)
        → Codes m old
        → Has s (term_at ts j).head (term_at ts j).counter
        → p ≡ place s (term_at ts j).head (term_at ts j).counter
        → p < length cur
        → v ≡ m.sum (reading m (get_or cur p 0)) (m.product (reading m by) (reading m (term_at ts j).factor))
        → (length cur ≡ 32) × Codes m cur × Shares m s (share j) old cur
        → (length (set cur p v) ≡ 32) × Codes m (set cur p v) × Shares m s (share (j + 1)) old (set cur p v)
    one_more old cur p v oc there at inside v-is inv =
        let f = (term_at ts j).factor in
        let f_code : Code m f = factors j (omega arith) in
        let v_now : v ≡ m.sum (get_or cur p 0) (m.product by f) =
        v-is ∙ ap₂ m.sum (reading_of m l _ (inv.1 p)) (ap₂ m.product (reading_of m l by by-is-code) (reading_of m l f f_code))
        in
        let v_code : Code m v =
        subst (Code m) (sym v_now) (l.sum_code _ _ (inv.1 p) (l.product_code by f by-is-code f_code)) in
        let q = place s (term_at ts j).head (term_at ts j).counter in
        let more : Shares m s (share (suc j)) old (set cur q v) =
        shares_more old cur v oc inv.1 there (subst (λ (i : ℕ). i < length cur) at inside)
        (v_now ∙ ap (λ i. m.sum (get_or cur i 0) (m.product by f)) at) inv.2
        in (
          length-set cur p v ∙ inv.0,
          codes_set m cur p v inside inv.1 v_code,
          subst (λ (n : ℕ). Shares m s (share n) old (set cur p v)) (sym (add-one j))
              (subst (λ (i : ℕ). Shares m s (share (suc j)) old (set cur i v)) (sym at) more),
        )

-- a whole tie, as the code computes it
module _ (m : Meaning) (l : Laws m) (s : Shape) (e : Equation) (y : ℕ) where
  weight_code : Code m (weight m s e y)
  weight_code = l.product_code _ _ (reading_code m l y) (power_code m l (digits m - depth s e))

  pub weight_is :
      (k raise by : ℕ)
      → k ≡ digits m - depth s e
      → raise ≡ power m k
      → by ≡ m.product (reading m y) (reading m raise)
      → by ≡ weight m s e y
  weight_is k raise by k-is raise_is by-is =
      by-is
      ∙ ap (λ p. m.product (reading m y) (reading m p)) (raise_is ∙ ap (power m) k-is)
      ∙ ap (m.product (reading m y)) (reading_of m l _ (power_code m l (digits m - depth s e)))

  pub right_is :
      (by right v : ℕ)
      → by ≡ weight m s e y
      → Code m right
      → Code m e.right
      → v ≡ m.sum (reading m right) (m.product (reading m by) (reading m e.right))
      → Code m v × (v ≡ m.sum right (m.product (weight m s e y) e.right))
  right_is by right v by-is rc ec v-is =
      let share = m.product (weight m s e y) e.right in
      let share_code : Code m share = l.product_code _ _ weight_code ec in
      let share_is : m.product (reading m by) (reading m e.right) ≡ share =
      ap₂ m.product (ap (reading m) by-is ∙ reading_of m l _ weight_code) (reading_of m l e.right ec)
      in
      let v_now : v ≡ m.sum right share = v-is ∙ ap₂ m.sum (reading_of m l right rc) share_is in
      (subst (Code m) (sym v_now) (l.sum_code right share rc share_code), v_now)

-- a term's place is within the totals
pub inside :
    (d : Layout) (h k p : ℕ) (xs : List ℕ) → Has (shape d) h k → p ≡ place (shape d) h k → length xs ≡ 32 → p < length xs
inside d h k p xs has at room =
    let below = place_below (shape d) h k has in
    let most = places_most (shape d) (layout_sized d) in
    omega arith
