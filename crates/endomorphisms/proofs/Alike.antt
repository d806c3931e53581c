-- Codes that differ by a level or more, and elements that are the same.
use Rattle.std.proofs.Common.{◌≡◌, ℕ, zero, suc, ◌+◌, ◌<◌, ◌≤◌, [], ◌∷◌, cond, sym, refl, ap, ◌∙◌, subst, arith, eq-eqb, ne_eqb}
use Rattle.scale.specs.Meaning.{Meaning, Laws, Code, digits, summed}
use Rattle.scale.proofs.Codes.{zero_code}
use Rattle.scale.proofs.Coded.{Coded as CodedNumber, codes, summed_code}
use Rattle.scale.proofs.Ring.{Ring, add_cross, neg_unique}
use Rattle.ties.specs.Layouts.{Shape, Within, counters_of, less, width_of}
use Rattle.linear.proofs.Moves.{less_code, product_less, same_join, same_turn}
use Rattle.linear.proofs.Rows.{neg_both}
use Rattle.endomorphisms.specs.Groups.{Element, IsElement, SameElement, part, plus}

module _ {C : Type 0} (R : Ring C) where
  open R use {zero as none, add, neg, add_zero}

  sum_difference : (a b c d : C) → add (add a b) (neg (add c d)) ≡ add (add a (neg c)) (add b (neg d))
  sum_difference a b c d = ap (add (add a b)) (neg_both R c d) ∙ add_cross R a b (neg c) (neg d)

  zero_difference : (a : C) → add a (neg none) ≡ a
  zero_difference a = ap (add a) (sym (neg_unique R none none (add_zero none))) ∙ add_zero a

-- an element with a code at one counter
pub part_here : (r v : ℕ) → part r v r ≡ v
part_here r v = ap (λ b. cond b v 0) (eq-eqb r r refl)

pub part_else : (r v c : ℕ) → (c ≡ r → ⊥) → part r v c ≡ 0
part_else r v c d = ap (λ b. cond b v 0) (ne_eqb c r d)

-- two codes differ by level w or more
abbrev pub Near : Meaning → ℕ → ℕ → ℕ → Type 0
Near m w a b = w ≤ m.level (less m a b)

module _ (m : Meaning) (l : Laws m) where
  abbrev R : Ring (CodedNumber m)
  R = codes m l

  pub less_zero : (a : ℕ) → Code m a → less m a 0 ≡ a
  less_zero a h = ap (λ x. x.0) (zero_difference R (a, h))

  -- codes as elements of a group with one counter
  abbrev single : ℕ → Shape
  single w = record { heads = 1; widths = w ∷ [] }

  pub near_refl : (w a : ℕ) → w ≤ digits m → Code m a → Near m w a a
  near_refl w a most h = subst (λ (z : ℕ). w ≤ m.level z) (sym (l.sum_negative a h)) (omega (arith, l.level_zero))

  pub near_turn : (w a b : ℕ) → Code m a → Code m b → Near m w a b → Near m w b a
  near_turn w a b ha hb near =
      same_turn m l (single w) (λ h c. a) (λ h c. b) (λ h c k. ha) (λ h c k. hb) (λ h c k. only w c k.1 near) 0 0 (omega arith, omega arith)
    where
      only : (w c : ℕ) → c < 1 → w ≤ m.level (less m a b) → width_of (single w) c ≤ m.level (less m a b)
      only w zero h near = near
      only w (suc c) h near = absurd (omega arith)

  pub near_join : (w a b c : ℕ) → Code m a → Code m b → Code m c → Near m w a b → Near m w b c → Near m w a c
  near_join w a b c ha hb hc p q =
      same_join m l (single w) (λ h i. a) (λ h i. b) (λ h i. c) (λ h i k. ha) (λ h i k. hb) (λ h i k. hc)
      (λ h i k. only i a b k.1 p) (λ h i k. only i b c k.1 q) 0 0 (omega arith, omega arith)
    where
      only : (i a b : ℕ) → i < 1 → w ≤ m.level (less m a b) → width_of (single w) i ≤ m.level (less m a b)
      only zero a b h near = near
      only (suc i) a b h near = absurd (omega arith)

  pub near_sum :
      (w a b c d : ℕ)
      → Code m a
      → Code m b
      → Code m c
      → Code m d
      → Near m w a c
      → Near m w b d
      → Near m w (m.sum a b) (m.sum c d)
  near_sum w a b c d ha hb hc hd p q =
      let e : less m (m.sum a b) (m.sum c d) ≡ m.sum (less m a c) (less m b d) =
      ap (λ x. x.0) (sum_difference R (a, ha) (b, hb) (c, hc) (d, hd))
      in
      let both = l.level_sum (less m a c) (less m b d) (less_code m l a c ha hc) (less_code m l b d hb hd) in
      subst (λ (z : ℕ). w ≤ m.level z) (sym e) (omega arith)

  -- the products of a code f with codes that differ by level v or more
  pub near_product :
      (w v f a b : ℕ)
      → Code m f
      → Code m a
      → Code m b
      → w ≤ digits m
      → w ≤ m.level f + v
      → Near m v a b
      → Near m w (m.product f a) (m.product f b)
  near_product w v f a b hf ha hb most fine near =
      let p = l.level_product f (less m a b) hf (less_code m l a b ha hb) in
      subst (λ (z : ℕ). w ≤ m.level z) (product_less m l f a b hf ha hb) (omega arith)

  pub near_summed :
      (w n : ℕ) (f g : ℕ → ℕ)
      → w ≤ digits m
      → ((i : ℕ) → i < n → Code m (f i))
      → ((i : ℕ) → i < n → Code m (g i))
      → ((i : ℕ) → i < n → Near m w (f i) (g i))
      → Near m w (summed m n f) (summed m n g)
  near_summed w zero f g most hf hg near = near_refl w 0 most (zero_code m l)
  near_summed w (suc n) f g most hf hg near =
      near_sum w (summed m n f) (f n) (summed m n g) (g n)
      (summed_code m l n f (λ i k. hf i (omega arith)))
      (hf n (omega arith))
      (summed_code m l n g (λ i k. hg i (omega arith)))
      (hg n (omega arith))
      (near_summed w n f g most (λ i k. hf i (omega arith)) (λ i k. hg i (omega arith)) (λ i k. near i (omega arith)))
      (near n (omega arith))

  -- elements
  module _ (s : Shape) where
    pub same_element_turn :
        (g h : Element) → IsElement m s g → IsElement m s h → SameElement m s g h → SameElement m s h g
    same_element_turn g h eg eh same c k = near_turn (width_of s c) (g c) (h c) (eg c k) (eh c k) (same c k)

    pub same_element_join :
        (f g h : Element)
        → IsElement m s f
        → IsElement m s g
        → IsElement m s h
        → SameElement m s f g
        → SameElement m s g h
        → SameElement m s f h
    same_element_join f g h ef eg eh p q c k =
        near_join (width_of s c) (f c) (g c) (h c) (ef c k) (eg c k) (eh c k) (p c k) (q c k)

    pub plus_element : (g h : Element) → IsElement m s g → IsElement m s h → IsElement m s (plus m g h)
    plus_element g h eg eh c k = l.sum_code (g c) (h c) (eg c k) (eh c k)

    -- elements that are equal at each counter are the same
    pub equal_same :
        (g h : Element)
        → Within m s
        → IsElement m s g
        → ((c : ℕ) → c < counters_of s → h c ≡ g c)
        → SameElement m s g h
    equal_same g h within eg e c k =
        subst (λ (z : ℕ). width_of s c ≤ m.level (less m (g c) z)) (sym (e c k))
        (near_refl (width_of s c) (g c) (within c k).1 (eg c k))
