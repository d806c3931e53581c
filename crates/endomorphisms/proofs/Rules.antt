-- The rule on factors holds just where the numbers act on the group.
use Rattle.std.proofs.Common.{◌≡◌, ℕ, zero, suc, ◌<◌, ◌≤◌, ◌↔◌, min, sym, refl, ap, ◌∙◌, subst, ap₂, arith}
use native.Mathlib.Decide.{ℕ_discrete}
use Rattle.scale.specs.Meaning.{Meaning, Laws, Code, digits, power, summed}
use Rattle.scale.proofs.Codes.{power_code, zero_code}
use Rattle.scale.proofs.Coded.{codes, summed_code}
use Rattle.scale.proofs.Levels.{power_level, product_zero}
use Rattle.scale.proofs.Ring.{add_cross}
use Rattle.ties.specs.Layouts.{Shape, Within, counters_of, less, width_of}
use Rattle.endomorphisms.specs.Groups.{Acts, Coded, Element, Endomorphism, Fine, Fits, IsElement, Numbers, SameElement, act, part, plus}
use Rattle.endomorphisms.proofs.Alike.{equal_same, less_zero, near_product, near_summed, part_else, part_here, plus_element, same_element_turn}

module _ (m : Meaning) (l : Laws m) where
  summed_none : (n : ℕ) (f : ℕ → ℕ) → ((i : ℕ) → i < n → f i ≡ 0) → summed m n f ≡ 0
  summed_none zero f h = refl
  summed_none (suc n) f h =
      ap₂ m.sum (summed_none n f (λ i k. h i (omega arith))) (h n (omega arith)) ∙ l.sum_zero 0 (zero_code m l)

  -- a sum of which only one summand is there
  pub summed_only :
      (n : ℕ) (f : ℕ → ℕ) (j : ℕ)
      → j < n
      → Code m (f j)
      → ((i : ℕ) → i < n → (i ≡ j → ⊥) → f i ≡ 0)
      → summed m n f ≡ f j
  summed_only zero f j k hj h = absurd (omega arith)
  summed_only (suc n) f j k hj h = go (ℕ_discrete n j) (λ d. summed_only n f j (omega arith) hj (λ i i_n. h i (omega arith)))
    where
      go : Dec (n ≡ j) → ((n ≡ j → ⊥) → summed m n f ≡ f j) → summed m (suc n) f ≡ f j
      go (yes e) before =
          ap₂ m.sum (summed_none n f (λ i i_n. h i (omega arith) (λ d. omega arith))) (ap f e)
          ∙ l.sum_comm 0 (f j) (zero_code m l) hj
          ∙ l.sum_zero (f j) hj
      go (no d) before = ap₂ m.sum (before d) (h n (omega arith) d) ∙ l.sum_zero (f j) hj

  -- a code at one counter, and 0 elsewhere
  pub part_element : (s : Shape) (r v : ℕ) → Code m v → IsElement m s (part r v)
  part_element s r v hv c h = elim (ℕ_discrete c r) [
    | yes e ↦ subst (Code m) (sym (ap (part r v) e ∙ part_here r v)) hv
    | no d ↦ subst (Code m) (sym (part_else r v c d)) (zero_code m l)
  ]

  module _ (s : Shape) (a : Numbers) (coded : Coded m s a) where
    pub act_element : (g : Element) → IsElement m s g → IsElement m s (act m s a g)
    act_element g eg c h =
        summed_code m l (counters_of s) (λ r. m.product (a c r) (g r)) (λ r k. l.product_code (a c r) (g r) (coded c r h k) (eg r k))

    pub act_part :
        (r v c : ℕ) → Code m v → r < counters_of s → c < counters_of s → act m s a (part r v) c ≡ m.product (a c r) v
    act_part r v c hv hr hc =
        let here : m.product (a c r) (part r v r) ≡ m.product (a c r) v = ap (m.product (a c r)) (part_here r v) in
        summed_only (counters_of s) (λ j. m.product (a c j) (part r v j)) r hr
        (subst (Code m) (sym here) (l.product_code (a c r) v (coded c r hc hr) hv))
        (λ i k d. ap (m.product (a c i)) (part_else r v i d) ∙ product_zero m l (a c i) (coded c i hc k))
        ∙ here

    -- units are taken to columns, and sums to sums
    pub act_unit : (r c : ℕ) → r < counters_of s → c < counters_of s → act m s a (part r m.one) c ≡ a c r
    act_unit r c hr hc = act_part r m.one c l.one_code hr hc ∙ l.product_one (a c r) (coded c r hc hr)

    pub act_plus :
        (g h : Element) (c : ℕ)
        → IsElement m s g
        → IsElement m s h
        → c < counters_of s
        → act m s a (plus m g h) c ≡ m.sum (act m s a g c) (act m s a h c)
    act_plus g h c eg eh hc = go (counters_of s) (omega arith)
      where
        products : (g : Element) → IsElement m s g → (r : ℕ) → r < counters_of s → Code m (m.product (a c r) (g r))
        products g eg r k = l.product_code (a c r) (g r) (coded c r hc k) (eg r k)

        sums : (g : Element) → IsElement m s g → (n : ℕ) → n ≤ counters_of s → Code m (summed m n (λ r. m.product (a c r) (g r)))
        sums g eg n most = summed_code m l n (λ r. m.product (a c r) (g r)) (λ r k. products g eg r (omega arith))

        go :
            (n : ℕ)
            → n ≤ counters_of s
            → summed m n (λ r. m.product (a c r) (m.sum (g r) (h r)))
            ≡ m.sum (summed m n (λ r. m.product (a c r) (g r))) (summed m n (λ r. m.product (a c r) (h r)))
        go zero most = sym (l.sum_zero 0 (zero_code m l))
        go (suc n) most =
            ap₂ m.sum (go n (omega arith))
            (l.product_sum (a c n) (g n) (h n) (coded c n hc (omega arith)) (eg n (omega arith)) (eh n (omega arith)))
            ∙ ap (λ x. x.0)
            (add_cross (codes m l) (_, sums g eg n (omega arith)) (_, sums h eh n (omega arith))
            (_, products g eg n (omega arith)) (_, products h eh n (omega arith)))

    module _ (within : Within m s) where
      -- by the rule the products differ by the width of the target or more
      pub fine_acts : Fine m s a → Acts m s a
      fine_acts fine g h eg eh same c k =
          near_summed m l (width_of s c) (counters_of s) (λ r. m.product (a c r) (g r)) (λ r. m.product (a c r) (h r))
          (within c k).1
          (λ r j. l.product_code (a c r) (g r) (coded c r k j) (eg r j))
          (λ r j. l.product_code (a c r) (h r) (coded c r k j) (eh r j))
          (λ r j.
          near_product m l (width_of s c) (width_of s r) (a c r) (g r) (h r) (coded c r k j) (eg r j) (eh r j) (within c k).1
          (fine c r k j) (same r j))

      -- the step to the power w(r) at counter r is the same as 0, and so is what becomes of it
      pub acts_fine : Acts m s a → Fine m s a
      acts_fine acts c r hc hr =
          let w = width_of s r in
          let v = power m w in
          let code : Code m v = power_code m l w in
          let level = power_level m l w in
          let zero_element : IsElement m s (λ j. 0) = λ j k. zero_code m l in
          let same : SameElement m s (part r v) (λ j. 0) =
          λ j k.
          subst (λ (z : ℕ). width_of s j ≤ m.level z) (sym (less_zero m l (part r v j) (part_element s r v code j k)))
          (low j k level (ℕ_discrete j r))
          in
          let result = acts (part r v) (λ j. 0) (part_element s r v code) zero_element same c hc in
          let left : act m s a (part r v) c ≡ m.product (a c r) v = act_part r v c code hr hc in
          let right : act m s a (λ j. 0) c ≡ 0 =
          summed_none (counters_of s) (λ j. m.product (a c j) 0) (λ j k. product_zero m l (a c j) (coded c j hc k))
          in
          let product : Code m (m.product (a c r) v) = l.product_code (a c r) v (coded c r hc hr) code in
          let is : less m (act m s a (part r v) c) (act m s a (λ j. 0) c) ≡ m.product (a c r) v =
          ap₂ (less m) left right ∙ less_zero m l (m.product (a c r) v) product
          in
          let whole : width_of s c ≤ m.level (m.product (a c r) v) = subst (λ (z : ℕ). width_of s c ≤ m.level z) is result in
          let levels = l.level_product (a c r) v (coded c r hc hr) code in
          let most = (within r hr).1 in
          omega arith
        where
          low :
              (j : ℕ)
              → j < counters_of s
              → m.level (power m (width_of s r)) ≡ min (digits m) (width_of s r)
              → Dec (j ≡ r)
              → width_of s j ≤ m.level (part r (power m (width_of s r)) j)
          low j k level (yes e) =
              subst (λ (i : ℕ). width_of s i ≤ m.level (part r (power m (width_of s r)) i)) (sym e)
              (subst (λ (z : ℕ). width_of s r ≤ m.level z) (sym (part_here r (power m (width_of s r))))
              (let most = (within r hr).1 in omega arith))
          low j k level (no d) =
              subst (λ (z : ℕ). width_of s j ≤ m.level z) (sym (part_else r (power m (width_of s r)) j d))
              (let most = (within j k).1 in let top = l.level_zero in omega arith)

  -- codes that act on the group act as an additive map
  pub acting : (s : Shape) (a : Numbers) → Within m s → Coded m s a → Acts m s a → Endomorphism m s a
  acting s a within coded acts =
      let e = act_element s a coded in
      record {
        codes = coded;
        additive =
            record {
              within = within;
              elements = e;
              respects = acts;
              adds = λ g h eg eh.
                  let both = plus_element m l s (act m s a g) (act m s a h) (e g eg) (e h eh) in
                  same_element_turn m l s (plus m (act m s a g) (act m s a h)) (act m s a (plus m g h)) both
                  (e (plus m g h) (plus_element m l s g h eg eh))
                  (equal_same m l s (plus m (act m s a g) (act m s a h)) (act m s a (plus m g h)) within both
                  (λ c k. act_plus s a coded g h c eg eh k));
            };
      }

  -- an endomorphism is told by the rule
  pub endomorphism_of :
      (s : Shape) (a : Numbers)
      → Within m s
      → ((c r : ℕ) → c < counters_of s → r < counters_of s → Fits m s a c r)
      → Endomorphism m s a
  endomorphism_of s a within fits =
      let coded : Coded m s a = λ c r hc hr. (fits c r hc hr).0 in
      acting s a within coded (fine_acts s a coded within (λ c r hc hr. (fits c r hc hr).1))

  pub endomorphism_fits :
      (s : Shape) (a : Numbers)
      → Endomorphism m s a
      → (c r : ℕ)
      → c < counters_of s
      → r < counters_of s
      → Fits m s a c r
  endomorphism_fits s a e c r hc hr = (e.codes c r hc hr, acts_fine s a e.codes e.additive.within e.additive.respects c r hc hr)

  pub rule_is : (s : Shape) (a : Numbers) → Within m s → Coded m s a → Acts m s a ↔ Fine m s a
  rule_is s a within coded = (acts_fine s a coded within, fine_acts s a coded within)
