-- Where every code is a sum of ones, an additive map of the group into itself is told by its images of the units.
use Rattle.std.proofs.Common.{◌≡◌, Bool, true, false, Decides, MatchOption, ℕ, zero, suc, ◌+◌, ◌%◌, ◌<◌, ◌≤◌, List, mod-eq_of_lt, sym, refl, ap, ◌∙◌, subst, ap₂, arith}
use Rattle.std.specs.Bool.{then_some}
use borrow.Author.Tests.{clash}
use native.Mathlib.Decide.{ℕ_discrete}
use Rattle.scale.specs.declared.Mark.{Mark}
use Rattle.scale.specs.Meaning.{Meaning, Laws, Code, size, summed}
use Rattle.scale.proofs.Codes.{zero_code}
use Rattle.scale.proofs.Coded.{summed_code}
use Rattle.scale.proofs.Levels.{product_zero}
use Rattle.ties.specs.Layouts.{Shape, counters_of, width_of}
use Rattle.endomorphisms.specs.Groups.{Additive, Coded, Element, Endomorphism, IsElement, Map, Numbers, SameElement, act, numbers, part, plus}
use Rattle.endomorphisms.specs.Maps.{AllAreMatrices, IsAct, NoMap, TakesUnits, Told, image, unit}
use Rattle.scales.specs.Counting.{counting}
use Rattle.endomorphisms.proofs.Alike.{
  Near,
  equal_same,
  near_refl,
  near_sum,
  near_turn,
  part_else,
  part_here,
  plus_element,
  same_element_join,
  same_element_turn,
}
use Rattle.endomorphisms.proofs.Rules.{act_element, act_unit, acting, part_element, summed_only}

-- a sum of ones
abbrev pub ones : Meaning → ℕ → ℕ
ones m n = summed m n (λ i. m.one)

abbrev nothing : Element
nothing c = 0

module _ (m : Meaning) (l : Laws m) (s : Shape) where
  -- a map is told up to sameness: from here on it is an additive one, with given images of the units
  module _ (f : Map) (additive : Additive m s f) (a : Numbers) (coded : Coded m s a)
      (units : (r : ℕ) → r < counters_of s → SameElement m s (f (unit m r)) (λ c. a c r)) where
    nothing_element : IsElement m s nothing
    nothing_element c k = zero_code m l

    -- code v times the image of the unit of counter r
    abbrev times : ℕ → ℕ → Element
    times r v c = m.product (a c r) v

    times_element : (r v : ℕ) → r < counters_of s → Code m v → IsElement m s (times r v)
    times_element r v h hv c k = l.product_code (a c r) v (coded c r k h) hv

    ones_code : (n : ℕ) → Code m (ones m n)
    ones_code n = summed_code m l n (λ i. m.one) (λ i k. l.one_code)

    -- what is the same as its double is the same as 0
    double_none : (w v : ℕ) → w ≤ m.mark.length → Code m v → Near m w v (m.sum v v) → Near m w v 0
    double_none w v most hv near =
        let n = m.negative v in
        let hn : Code m n = l.negative_code v hv in
        let both = near_sum m l w v n (m.sum v v) n hv hn (l.sum_code v v hv hv) hn near (near_refl m l w n most hn) in
        let left : m.sum v n ≡ 0 = l.sum_negative v hv in
        let right : m.sum (m.sum v v) n ≡ v = l.sum_assoc v v n hv hv hn ∙ ap (m.sum v) left ∙ l.sum_zero v hv in
        near_turn m l w 0 v (zero_code m l) hv (subst (λ (z : ℕ). Near m w z v) left (subst (Near m w (m.sum v n)) right both))

    f_nothing : SameElement m s (f nothing) nothing
    f_nothing =
        let e0 = nothing_element in
        let ef = additive.elements nothing e0 in
        let e2 = plus_element m l s nothing nothing e0 e0 in
        let twice : SameElement m s nothing (plus m nothing nothing) =
        equal_same m l s nothing (plus m nothing nothing) additive.within e0 (λ c k. l.sum_zero 0 (zero_code m l))
        in
        let doubled : SameElement m s (f nothing) (plus m (f nothing) (f nothing)) =
        same_element_join m l s (f nothing) (f (plus m nothing nothing)) (plus m (f nothing) (f nothing)) ef
        (additive.elements (plus m nothing nothing) e2) (plus_element m l s (f nothing) (f nothing) ef ef)
        (additive.respects nothing (plus m nothing nothing) e0 e2 twice) (additive.adds nothing nothing e0 e0)
        in
        λ c k. double_none (width_of s c) (f nothing c) (additive.within c k).1 (ef c k) (doubled c k)

    -- the image of a sum, where those of its parts are known
    f_plus :
        (g h p q : Element)
        → IsElement m s g
        → IsElement m s h
        → IsElement m s p
        → IsElement m s q
        → SameElement m s (f g) p
        → SameElement m s (f h) q
        → SameElement m s (f (plus m g h)) (plus m p q)
    f_plus g h p q eg eh ep eq fg fh =
        let fe = additive.elements in
        same_element_join m l s (f (plus m g h)) (plus m (f g) (f h)) (plus m p q)
        (fe (plus m g h) (plus_element m l s g h eg eh)) (plus_element m l s (f g) (f h) (fe g eg) (fe h eh))
        (plus_element m l s p q ep eq) (additive.adds g h eg eh)
        (λ c k.
        near_sum m l (width_of s c) (f g c) (f h c) (p c) (q c) (fe g eg c k) (fe h eh c k) (ep c k) (eq c k) (fg c k) (fh c k))

    -- the image of an element, where that of one equal to it is known, and in other words
    f_equal :
        (g h p q : Element)
        → IsElement m s g
        → IsElement m s h
        → IsElement m s p
        → ((c : ℕ) → c < counters_of s → h c ≡ g c)
        → ((c : ℕ) → c < counters_of s → q c ≡ p c)
        → SameElement m s (f g) p
        → SameElement m s (f h) q
    f_equal g h p q eg eh ep hg qp same =
        let fe = additive.elements in
        let eq : IsElement m s q = λ c k. subst (Code m) (sym (qp c k)) (ep c k) in
        let turned = same_element_turn m l s g h eg eh (equal_same m l s g h additive.within eg hg) in
        same_element_join m l s (f h) (f g) q (fe h eh) (fe g eg) eq (additive.respects h g eh eg turned)
        (same_element_join m l s (f g) p q (fe g eg) ep eq same (equal_same m l s p q additive.within ep qp))

    part_none : (r c : ℕ) → part r 0 c ≡ 0
    part_none r c = elim (ℕ_discrete c r) [
      | yes e ↦ ap (part r 0) e ∙ part_here r 0
      | no d ↦ part_else r 0 c d
    ]

    part_sum : (r u v c : ℕ) → part r (m.sum u v) c ≡ m.sum (part r u c) (part r v c)
    part_sum r u v c = elim (ℕ_discrete c r) [
      | yes e ↦
          ap (part r (m.sum u v)) e ∙ part_here r (m.sum u v)
          ∙ sym (ap₂ m.sum (ap (part r u) e ∙ part_here r u) (ap (part r v) e ∙ part_here r v))
      | no d ↦
          part_else r (m.sum u v) c d
          ∙ sym (ap₂ m.sum (part_else r u c d) (part_else r v c d) ∙ l.sum_zero 0 (zero_code m l))
    ]

    -- a sum of ones at one counter
    f_ones : (r : ℕ) → r < counters_of s → (n : ℕ) → SameElement m s (f (part r (ones m n))) (times r (ones m n))
    f_ones r h zero =
        f_equal nothing (part r 0) nothing (times r 0) nothing_element (part_element m l s r 0 (zero_code m l)) nothing_element
        (λ c k. part_none r c) (λ c k. product_zero m l (a c r) (coded c r k h)) f_nothing
    f_ones r h (suc n) =
        let v = ones m n in
        let hv : Code m v = ones_code n in
        let ev = part_element m l s r v hv in
        let eu = part_element m l s r m.one l.one_code in
        let image : Element = λ c. a c r in
        let ei : IsElement m s image = λ c k. coded c r k h in
        let et = times_element r v h hv in
        f_equal (plus m (part r v) (unit m r)) (part r (m.sum v m.one)) (plus m (times r v) image) (times r (m.sum v m.one))
        (plus_element m l s (part r v) (unit m r) ev eu) (part_element m l s r (m.sum v m.one) (ones_code (suc n)))
        (plus_element m l s (times r v) image et ei) (λ c k. part_sum r v m.one c)
        (λ c k.
        l.product_sum (a c r) v m.one (coded c r k h) hv l.one_code
        ∙ ap (m.sum (times r v c)) (l.product_one (a c r) (coded c r k h)))
        (f_plus (part r v) (unit m r) (times r v) image ev eu et ei (f_ones r h n) (units r h))

    module _ (cyclic : (v : ℕ) → Code m v → (n : ℕ) × (v ≡ ones m n)) where
      f_part : (r v : ℕ) → r < counters_of s → Code m v → SameElement m s (f (part r v)) (times r v)
      f_part r v h hv =
          let n = cyclic v hv in
          subst (λ (v : ℕ). SameElement m s (f (part r v)) (times r v)) (sym n.1) (f_ones r h n.0)

      -- the first n counters of an element, gathered
      abbrev gathered : Element → ℕ → Element
      gathered g n c = summed m n (λ r. part r (g r) c)

      abbrev added : Element → ℕ → Element
      added g n c = summed m n (λ r. times r (g r) c)

      gathered_element : (g : Element) (n : ℕ) → IsElement m s g → n ≤ counters_of s → IsElement m s (gathered g n)
      gathered_element g n eg most c k =
          summed_code m l n (λ r. part r (g r) c) (λ r h. part_element m l s r (g r) (eg r (omega arith)) c k)

      added_element : (g : Element) (n : ℕ) → IsElement m s g → n ≤ counters_of s → IsElement m s (added g n)
      added_element g n eg most c k =
          summed_code m l n (λ r. times r (g r) c) (λ r h. times_element r (g r) (omega arith) (eg r (omega arith)) c k)

      f_gathered :
          (g : Element) (n : ℕ) → IsElement m s g → n ≤ counters_of s → SameElement m s (f (gathered g n)) (added g n)
      f_gathered g zero eg most = f_nothing
      f_gathered g (suc n) eg most =
          let hn : Code m (g n) = eg n (omega arith) in
          f_plus (gathered g n) (part n (g n)) (added g n) (times n (g n)) (gathered_element g n eg (omega arith))
          (part_element m l s n (g n) hn) (added_element g n eg (omega arith)) (times_element n (g n) (omega arith) hn)
          (f_gathered g n eg (omega arith)) (f_part n (g n) (omega arith) hn)

      pub is_act : IsAct m s f a
      is_act g eg =
          let k = counters_of s in
          f_equal (gathered g k) g (added g k) (added g k) (gathered_element g k eg (omega arith)) eg
          (added_element g k eg (omega arith))
          (λ c h.
          sym
          (summed_only m l k (λ r. part r (g r) c) c h (subst (Code m) (sym (part_here c (g c))) (eg c h))
          (λ r i d. part_else r (g r) c (λ e. d (sym e)))
          ∙ part_here c (g c)))
          (λ c h. refl) (f_gathered g k eg (omega arith))

      -- so the numbers are an endomorphism
      pub images_endomorphism : Endomorphism m s a
      images_endomorphism =
          let e = act_element m l s a coded in
          let fe = additive.elements in
          acting m l s a additive.within coded
          (λ g h eg eh same.
          same_element_join m l s (act m s a g) (f g) (act m s a h) (e g eg) (fe g eg) (e h eh)
          (same_element_turn m l s (f g) (act m s a g) (fe g eg) (e g eg) (is_act g eg))
          (same_element_join m l s (f g) (f h) (act m s a h) (fe g eg) (fe h eh) (e h eh)
          (additive.respects g h eg eh same) (is_act h eh)))

-- every code is a sum of ones
abbrev pub Cyclic : Meaning → Type 0
Cyclic m = (v : ℕ) → Code m v → (n : ℕ) × (v ≡ ones m n)

module _ (m : Meaning) (l : Laws m) (s : Shape) (cyclic : Cyclic m) where
  pub all_matrices : AllAreMatrices m s
  all_matrices f additive =
      let a : Numbers = λ c r. f (unit m r) c in
      let coded : Coded m s a = λ c r hc hr. additive.elements (unit m r) (part_element m l s r m.one l.one_code) c hc in
      let units : (r : ℕ) → r < counters_of s → SameElement m s (f (unit m r)) (λ c. a c r) =
      λ r h c k. near_refl m l (width_of s c) (a c r) (additive.within c k).1 (coded c r k h)
      in
      (a, images_endomorphism m l s f additive a coded units cyclic, is_act m l s f additive a coded units cyclic)

  module _ (images : List (List ℕ)) where
    abbrev columns : Numbers
    columns c r = image images r c

    taken : (f : Map) → TakesUnits m s images f → Coded m s columns
    taken f takes c r hc hr = takes.elements r hr c hc

    pub told : Endomorphism m s columns → Told m s images columns
    told e =
        record {
          endomorphism = e;
          takes =
              record {
                elements = λ r hr c hc. e.codes c r hc hr;
                units = λ r hr c hc.
                    subst (λ (z : ℕ). Near m (width_of s c) z (columns c r)) (sym (act_unit m l s columns e.codes r c hr hc))
                    (near_refl m l (width_of s c) (columns c r) (e.additive.within c hc).1 (e.codes c r hc hr));
              };
          only = λ f additive takes. is_act m l s f additive columns (taken f takes) takes.units cyclic;
        }

    pub no_map : (Endomorphism m s columns → ⊥) → NoMap m s images
    no_map never f additive takes = never (images_endomorphism m l s f additive columns (taken f takes) takes.units cyclic)

    -- what is answered by whether the columns are an endomorphism
    pub answered :
        (t : Bool)
        → Decides t (Endomorphism m s columns)
        → MatchOption (then_some t (record { columns = images })) (NoMap m s images) (λ a. Told m s images (numbers a))
    answered true d = told (d.0 refl)
    answered false d = no_map (λ e. clash (d.1 e))

-- counting, each code is the sum of as many ones
pub counting_cyclic : (k : Mark) → Cyclic (counting k)
counting_cyclic k v h = (v, sym (go v h))
  where
    go : (v : ℕ) → v < size (counting k) → ones (counting k) v ≡ v
    go zero h = refl
    go (suc v) h =
        ap (λ (x : ℕ). (x + 1) % size (counting k)) (go v (omega arith)) ∙ mod-eq_of_lt (omega arith) ∙ omega arith
