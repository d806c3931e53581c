-- What becomes of an equation's value where an assignment is moved, or replaced by one that is the same.
use Rattle.std.proofs.Common.{◌≡◌, ℕ, zero, suc, ◌-◌, ◌<◌, ◌≤◌, ◌↔◌, length, sym, refl, ap, ◌∙◌, subst, ap₂, arith}
use Rattle.scale.specs.Meaning.{Meaning, Laws, Code, digits, power, summed}
use Rattle.scale.proofs.Codes.{power_code, zero_code}
use Rattle.scale.proofs.Coded.{Coded, codes, same_code, summed_code}
use Rattle.scale.proofs.Levels.{product_zero, raised_zero}
use Rattle.scale.proofs.Ring.{Ring, equal, add_cross, add_left_comm, add_mul, zero_add, zero_mul}
use Rattle.scale.proofs.Ring.{neg_add, neg_unique, mul_neg}
use Rattle.ties.specs.Layouts.{Shape, Within, Assignment, Assigns, Same, less, width_of}
use Rattle.ties.specs.Equations.{Equation, Meets, code_at, depth, term_at, total, value}
use Rattle.ties.specs.Faults.{Sound}

-- an assignment moved by t times a direction u
abbrev pub slid : Meaning → Assignment → ℕ → Assignment → Assignment
slid m x t u = λ h c. m.sum (x h c) (m.product t (u h c))

-- raised to full length: an equation's value at an assignment, and its change along a direction
abbrev pub raised : Meaning → Shape → Equation → Assignment → ℕ
raised m s e x = m.product (power m (digits m - depth s e)) (value m e x)

abbrev pub slope : Meaning → Shape → Equation → Assignment → ℕ
slope m s e u = m.product (power m (digits m - depth s e)) (total m e.terms u)

module _ {C : Type 0} (R : Ring C) where
  open R use {zero as none, one, add, neg, mul}
  open R use {add_assoc, add_comm, add_zero, add_neg, mul_assoc, mul_comm, mul_one, mul_add}

  mul_move : (f x t u : C) → mul f (add x (mul t u)) ≡ add (mul f x) (mul t (mul f u))
  mul_move f x t u =
      mul_add f x (mul t u)
      ∙ ap (add (mul f x)) (sym (mul_assoc f t u) ∙ ap (λ a. mul a u) (mul_comm f t) ∙ mul_assoc t f u)

  -- one more term of a moved sum
  move_more :
      (A B f x t u : C)
      → add (add A (mul t B)) (mul f (add x (mul t u))) ≡ add (add A (mul f x)) (mul t (add B (mul f u)))
  move_more A B f x t u =
      ap (add (add A (mul t B))) (mul_move f x t u)
      ∙ add_cross R A (mul t B) (mul f x) (mul t (mul f u))
      ∙ ap (add (add A (mul f x))) (sym (mul_add t B (mul f u)))

  raised_move :
      (f x b t u : C) → mul f (add (add x (mul t u)) b) ≡ add (mul f (add x b)) (mul t (mul f u))
  raised_move f x b t u =
      ap (mul f) (add_assoc x (mul t u) b ∙ ap (add x) (add_comm (mul t u) b) ∙ sym (add_assoc x b (mul t u)))
      ∙ mul_move f (add x b) t u

  neg_both : (a b : C) → neg (add a b) ≡ add (neg a) (neg b)
  neg_both a b =
      sym
      (neg_unique R (add a b) (add (neg a) (neg b))
      (add_cross R a b (neg a) (neg b) ∙ ap₂ add (add_neg a) (add_neg b) ∙ add_zero none))

  -- the difference of two that are moved alike
  moved_difference : (a b w : C) → add (add a w) (neg (add b w)) ≡ add a (neg b)
  moved_difference a b w =
      ap (add (add a w)) (neg_both b w)
      ∙ add_cross R a w (neg b) (neg w)
      ∙ ap (add (add a (neg b))) (add_neg w)
      ∙ add_zero (add a (neg b))

  -- the difference that one step makes
  step_difference : (a u w : C) → add (add (add a (mul one u)) w) (neg (add a w)) ≡ u
  step_difference a u w =
      moved_difference (add a (mul one u)) a w
      ∙ ap (λ x. add x (neg a)) (add_comm a (mul one u))
      ∙ add_assoc (mul one u) a (neg a)
      ∙ ap (add (mul one u)) (add_neg a)
      ∙ add_zero (mul one u)
      ∙ mul_comm one u
      ∙ mul_one u

  two_differences : (a b c : C) → add (add a (neg b)) (add b (neg c)) ≡ add a (neg c)
  two_differences a b c =
      add_assoc a (neg b) (add b (neg c))
      ∙ ap (add a) (sym (add_assoc (neg b) b (neg c)) ∙ ap (λ x. add x (neg c)) (neg_add R b) ∙ zero_add R (neg c))

  turned_difference : (a b : C) → mul (add a (neg b)) (neg one) ≡ add b (neg a)
  turned_difference a b =
      mul_neg R (add a (neg b)) one
      ∙ ap neg (mul_one (add a (neg b)))
      ∙ sym
      (neg_unique R (add a (neg b)) (add b (neg a)) (two_differences a b a ∙ add_neg a))

  mul_difference : (f a b : C) → mul f (add a (neg b)) ≡ add (mul f a) (neg (mul f b))
  mul_difference f a b = mul_add f a (neg b) ∙ ap (add (mul f a)) (mul_neg R f b)

  -- moved back and forth
  moved_back : (a t u : C) → add (add a (mul (neg t) u)) (mul t u) ≡ a
  moved_back a t u =
      add_assoc a (mul (neg t) u) (mul t u)
      ∙ ap (add a) (sym (add_mul R (neg t) t u) ∙ ap (λ x. mul x u) (neg_add R t) ∙ zero_mul R u)
      ∙ add_zero a

  away : (t u : C) → add (mul t u) (mul (neg t) u) ≡ none
  away t u = sym (add_mul R t (neg t) u) ∙ ap (λ x. mul x u) (add_neg t) ∙ zero_mul R u

  onto_first : (a b : C) → add b (mul one (add a (neg b))) ≡ a
  onto_first a b =
      ap (add b) (mul_comm one (add a (neg b)) ∙ mul_one (add a (neg b)))
      ∙ add_left_comm R b a (neg b)
      ∙ ap (add a) (add_neg b)
      ∙ add_zero a

module _ (m : Meaning) (l : Laws m) where
  abbrev R : Ring (Coded m)
  R = codes m l

  pub less_code : (a b : ℕ) → Code m a → Code m b → Code m (less m a b)
  less_code a b ha hb = l.sum_code a (m.negative b) ha (l.negative_code b hb)

  -- codes that differ by a level, the other way round and one after the other
  less_turn : (w a b : ℕ) → Code m a → Code m b → w ≤ m.level (less m a b) → w ≤ m.level (less m b a)
  less_turn w a b ha hb h =
      let c = less m a b in
      let o = m.negative m.one in
      let e : m.product c o ≡ less m b a = ap (λ x. x.0) (turned_difference R (a, ha) (b, hb)) in
      let p = l.level_product c o (less_code a b ha hb) (l.negative_code m.one l.one_code) in
      let most = l.level_most c (less_code a b ha hb) in
      subst (λ (z : ℕ). w ≤ m.level z) e (omega arith)

  less_join :
      (w a b c : ℕ)
      → Code m a
      → Code m b
      → Code m c
      → w ≤ m.level (less m a b)
      → w ≤ m.level (less m b c)
      → w ≤ m.level (less m a c)
  less_join w a b c ha hb hc h k =
      let e : m.sum (less m a b) (less m b c) ≡ less m a c =
      ap (λ x. x.0) (two_differences R (a, ha) (b, hb) (c, hc))
      in
      let p = l.level_sum (less m a b) (less m b c) (less_code a b ha hb) (less_code b c hb hc) in
      subst (λ (z : ℕ). w ≤ m.level z) e (omega arith)

  pub less_none : (a b : ℕ) → Code m a → Code m b → less m a b ≡ 0 → a ≡ b
  less_none a b ha hb e = ap (λ x. x.0) (equal R (a, ha) (b, hb) (same_code m _ _ e))

  pub product_less :
      (f a b : ℕ)
      → Code m f
      → Code m a
      → Code m b
      → m.product f (less m a b) ≡ less m (m.product f a) (m.product f b)
  product_less f a b hf ha hb = ap (λ x. x.0) (mul_difference R (f, hf) (a, ha) (b, hb))

  -- sums of factors times codes
  summed_same : (n : ℕ) (f g : ℕ → ℕ) → ((i : ℕ) → i < n → f i ≡ g i) → summed m n f ≡ summed m n g
  summed_same zero f g h = refl
  summed_same (suc n) f g h = ap₂ m.sum (summed_same n f g (λ i k. h i (omega arith))) (h n (omega arith))

  summed_level :
      (n : ℕ) (f : ℕ → ℕ) (d : ℕ)
      → d ≤ digits m
      → ((i : ℕ) → i < n → Code m (f i))
      → ((i : ℕ) → i < n → d ≤ m.level (f i))
      → d ≤ m.level (summed m n f)
  summed_level zero f d most code low = omega (arith, l.level_zero)
  summed_level (suc n) f d most code low =
      let rest = summed_level n f d most (λ i k. code i (omega arith)) (λ i k. low i (omega arith)) in
      let last = low n (omega arith) in
      let before = summed_code m l n f (λ i k. code i (omega arith)) in
      let both = l.level_sum (summed m n f) (f n) before (code n (omega arith)) in
      omega arith

  summed_move :
      (n : ℕ) (f x u : ℕ → ℕ) (t : ℕ)
      → Code m t
      → ((i : ℕ) → i < n → Code m (f i))
      → ((i : ℕ) → i < n → Code m (x i))
      → ((i : ℕ) → i < n → Code m (u i))
      → summed m n (λ i. m.product (f i) (m.sum (x i) (m.product t (u i))))
      ≡ m.sum (summed m n (λ i. m.product (f i) (x i))) (m.product t (summed m n (λ i. m.product (f i) (u i))))
  summed_move zero f x u t ht hf hx hu =
      sym (ap (m.sum 0) (product_zero m l t ht) ∙ l.sum_zero 0 (zero_code m l))
  summed_move (suc n) f x u t ht hf hx hu =
      let products : (y : ℕ → ℕ)
      → ((i : ℕ) → i < suc n → Code m (y i))
      → Code m (summed m n (λ i. m.product (f i) (y i))) =
      λ y hy.
      summed_code m l n (λ i. m.product (f i) (y i))
      (λ i k. l.product_code (f i) (y i) (hf i (omega arith)) (hy i (omega arith)))
      in
      ap (λ (z : ℕ). m.sum z (m.product (f n) (m.sum (x n) (m.product t (u n)))))
      (summed_move n f x u t ht (λ i k. hf i (omega arith)) (λ i k. hx i (omega arith)) (λ i k. hu i (omega arith)))
      ∙ ap (λ c. c.0)
      (move_more R (_, products x hx) (_, products u hu) (f n, hf n (omega arith)) (x n, hx n (omega arith)) (t, ht)
      (u n, hu n (omega arith)))

  -- an assignment moved back and forth, and two that are moved alike
  pub slid_back :
      (x u : Assignment) (t h c : ℕ)
      → Code m (x h c)
      → Code m (u h c)
      → Code m t
      → slid m (slid m x (m.negative t) u) t u h c ≡ x h c
  slid_back x u t h c hx hu ht = ap (λ a. a.0) (moved_back R (x h c, hx) (t, ht) (u h c, hu))

  pub slid_less :
      (x y u : Assignment) (t h c : ℕ)
      → Code m (x h c)
      → Code m (y h c)
      → Code m (u h c)
      → Code m t
      → less m (slid m x t u h c) (slid m y t u h c) ≡ less m (x h c) (y h c)
  slid_less x y u t h c hx hy hu ht =
      ap (λ a. a.0)
      (moved_difference R (x h c, hx) (y h c, hy) (m.product t (u h c), l.product_code t (u h c) ht hu))

  pub product_away : (t u : ℕ) → Code m t → Code m u → m.sum (m.product t u) (m.product (m.negative t) u) ≡ 0
  product_away t u ht hu = ap (λ a. a.0) (away R (t, ht) (u, hu))

  module _ (s : Shape) where
    pub same_turn : (x y : Assignment) → Assigns m s x → Assigns m s y → Same m s x y → Same m s y x
    same_turn x y ax ay same h c has = less_turn (width_of s c) (x h c) (y h c) (ax h c has) (ay h c has) (same h c has)

    pub same_join :
        (x y z : Assignment)
        → Assigns m s x
        → Assigns m s y
        → Assigns m s z
        → Same m s x y
        → Same m s y z
        → Same m s x z
    same_join x y z ax ay az p q h c has =
        less_join (width_of s c) (x h c) (y h c) (z h c) (ax h c has) (ay h c has) (az h c has) (p h c has) (q h c has)

    module _ (within : Within m s) (e : Equation) (sound : Sound m s e) where
      abbrev raise : ℕ
      raise = power m (digits m - depth s e)

      deep : depth s e ≤ digits m
      deep = (within e.target sound.target).1

      factor_code : (j : ℕ) → j < length e.terms → Code m (term_at e.terms j).factor
      factor_code j h = (sound.codes j (omega arith)).0 h

      right_code : Code m (m.negative e.right)
      right_code = l.negative_code e.right ((sound.codes (length e.terms) (omega arith)).1 refl)

      term_code :
          (x : Assignment)
          → Assigns m s x
          → (j : ℕ)
          → j < length e.terms
          → Code m (code_at x (term_at e.terms j))
      term_code x ax j h = ax _ _ (sound.exist j h)

      total_code : (x : Assignment) → Assigns m s x → Code m (total m e.terms x)
      total_code x ax =
          summed_code m l (length e.terms)
          (λ j. m.product (term_at e.terms j).factor (code_at x (term_at e.terms j)))
          (λ j k. l.product_code _ _ (factor_code j k) (term_code x ax j k))

      value_code : (x : Assignment) → Assigns m s x → Code m (value m e x)
      value_code x ax = l.sum_code (total m e.terms x) (m.negative e.right) (total_code x ax) right_code

      -- two values differ as the totals do
      pub value_less :
          (x y : Assignment)
          → Assigns m s x
          → Assigns m s y
          → less m (value m e x) (value m e y) ≡ less m (total m e.terms x) (total m e.terms y)
      value_less x y ax ay =
          ap (λ a. a.0)
          (moved_difference R (_, total_code x ax) (_, total_code y ay) (m.negative e.right, right_code))

      total_slid :
          (x u : Assignment) (t : ℕ)
          → Assigns m s x
          → Assigns m s u
          → Code m t
          → total m e.terms (slid m x t u) ≡ m.sum (total m e.terms x) (m.product t (total m e.terms u))
      total_slid x u t ax au ht =
          summed_move (length e.terms) (λ j. (term_at e.terms j).factor) (λ j. code_at x (term_at e.terms j))
          (λ j. code_at u (term_at e.terms j)) t ht factor_code (term_code x ax) (term_code u au)

      -- one step along a direction changes the value by the direction's total
      pub value_slid :
          (x u : Assignment)
          → Assigns m s x
          → Assigns m s u
          → less m (value m e (slid m x m.one u)) (value m e x) ≡ total m e.terms u
      value_slid x u ax au =
          ap (λ (z : ℕ). less m (less m z e.right) (value m e x)) (total_slid x u m.one ax au l.one_code)
          ∙ ap (λ a. a.0)
          (step_difference R (_, total_code x ax) (_, total_code u au) (m.negative e.right, right_code))

      pub raised_code : (x : Assignment) → Assigns m s x → Code m (raised m s e x)
      raised_code x ax = l.product_code raise (value m e x) (power_code m l _) (value_code x ax)

      pub slope_code : (u : Assignment) → Assigns m s u → Code m (slope m s e u)
      slope_code u au = l.product_code raise (total m e.terms u) (power_code m l _) (total_code u au)

      -- an equation is met where its raised value is 0
      pub raised_meets : (x : Assignment) → Assigns m s x → (raised m s e x ≡ 0) ↔ Meets m s e x
      raised_meets x ax = raised_zero m l (value m e x) (depth s e) (value_code x ax) deep

      pub raised_slid :
          (x u : Assignment) (t : ℕ)
          → Assigns m s x
          → Assigns m s u
          → Code m t
          → raised m s e (slid m x t u) ≡ m.sum (raised m s e x) (m.product t (slope m s e u))
      raised_slid x u t ax au ht =
          let X : Coded m = (total m e.terms x, total_code x ax) in
          let U : Coded m = (total m e.terms u, total_code u au) in
          let b : Coded m = (m.negative e.right, right_code) in
          ap (λ (z : ℕ). m.product raise (less m z e.right)) (total_slid x u t ax au ht)
          ∙ ap (λ a. a.0) (raised_move R (raise, power_code m l _) X b (t, ht) U)

      -- the raised values at two that are the same are equal
      pub raised_same :
          (x y : Assignment) → Assigns m s x → Assigns m s y → Same m s x y → raised m s e x ≡ raised m s e y
      raised_same x y ax ay same =
          let ts = e.terms in
          let n = length ts in
          let gap : Assignment = λ h c. less m (x h c) (y h c) in
          let ag : Assigns m s gap = λ h c has. less_code (x h c) (y h c) (ax h c has) (ay h c has) in
          let over : total m ts x ≡ total m ts (slid m y m.one gap) =
          summed_same n _ _
          (λ j k.
          let a : Coded m = (code_at x (term_at ts j), term_code x ax j k) in
          let b : Coded m = (code_at y (term_at ts j), term_code y ay j k) in
          ap (m.product (term_at ts j).factor) (sym (ap (λ z. z.0) (onto_first R a b)))
          )
          in
          let low : depth s e ≤ m.level (total m ts gap) =
          summed_level n _ (depth s e) deep (λ j k. l.product_code _ _ (factor_code j k) (term_code gap ag j k))
          (λ j k.
          let p = l.level_product _ _ (factor_code j k) (term_code gap ag j k) in
          let f = sound.fine j k in
          let g = same _ _ (sound.exist j k) in
          omega (arith, deep)
          )
          in
          let gone : slope m s e gap ≡ 0 =
          (raised_zero m l (total m ts gap) (depth s e) (total_code gap ag) deep).1 low
          in
          ap (λ (z : ℕ). m.product raise (less m z e.right)) over
          ∙ raised_slid y gap m.one ay ag l.one_code
          ∙ ap (λ (z : ℕ). m.sum (raised m s e y) (m.product m.one z)) gone
          ∙ ap (m.sum (raised m s e y)) (product_zero m l m.one l.one_code)
          ∙ l.sum_zero (raised m s e y) (raised_code y ay)
