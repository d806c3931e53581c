-- Rows of n numbers, and what is reached from a row by adding multiples of others.
-- A row is a function of which only the places below n matter, so rows are compared place by place.
use Rattle.std.proofs.Common.{◌≡◌, ℕ, ◌<◌, ◌≤◌, cond, eqb, sym, refl, ap, ◌∙◌, ap₂, arith, eq-eqb, ne_eqb}
use Rattle.scale.proofs.Ring.{Ring, add_cross, add_left_comm, add_mul, mul_neg, mul_zero, neg_unique, zero_add}
use Rattle.scale.proofs.Sums.{ring_sum, sum_add, sum_cong, sum_only, sum_swap, mul_sum}
use Rattle.linear.proofs.Valued.{Valued, level_neg, level_sum, multiple_level}

module _ {C : Type 0} (R : Ring C) where
  open R use {zero, one, add, neg, mul, add_assoc, add_zero, add_neg, mul_assoc, mul_comm, mul_one, mul_add}

  pub mul_left_comm : (a b c : C) → mul a (mul b c) ≡ mul b (mul a c)
  mul_left_comm a b c = sym (mul_assoc a b c) ∙ ap (λ x. mul x c) (mul_comm a b) ∙ mul_assoc b a c

  pub neg_mul : (a b : C) → mul (neg a) b ≡ neg (mul a b)
  neg_mul a b = mul_comm (neg a) b ∙ mul_neg R b a ∙ ap neg (mul_comm b a)

  pub neg_both : (a b : C) → neg (add a b) ≡ add (neg a) (neg b)
  neg_both a b =
      sym (neg_unique R (add a b) (add (neg a) (neg b))
      (add_cross R a b (neg a) (neg b) ∙ ap₂ add (add_neg a) (add_neg b) ∙ add_zero zero))

  -- what is taken away and added again
  pub more_less : (a b : C) → add b (add a (neg b)) ≡ a
  more_less a b = add_left_comm R b a (neg b) ∙ ap (add a) (add_neg b) ∙ add_zero a

  abbrev pub Agree : ℕ → (ℕ → C) → (ℕ → C) → Type 0
  Agree n a b = (j : ℕ) → j < n → a j ≡ b j

  abbrev pub dot : ℕ → (ℕ → C) → (ℕ → C) → C
  dot n a x = ring_sum R n (λ j. mul (a j) (x j))

  -- t 0 times row g 0, and so on to t (k - 1) times row g (k - 1)
  abbrev pub combo : ℕ → (ℕ → C) → (ℕ → ℕ → C) → ℕ → C
  combo k t g j = ring_sum R k (λ i. mul (t i) (g i j))

  -- y is x and a combination of n rows
  abbrev pub On : ℕ → (ℕ → C) → (ℕ → ℕ → C) → (ℕ → C) → Type 0
  On n x g y = (t : ℕ → C) × Agree n y (λ j. add (x j) (combo n t g j))

  -- t with u at place p
  abbrev pub placed : ℕ → C → (ℕ → C) → ℕ → C
  placed p u t i = cond (eqb p i) u (t i)

  pub placed_here : (p : ℕ) (u : C) (t : ℕ → C) → placed p u t p ≡ u
  placed_here p u t = ap (λ b. cond b u (t p)) (eq-eqb p p refl)

  pub placed_else : (p : ℕ) (u : C) (t : ℕ → C) (i : ℕ) → (i ≡ p → ⊥) → placed p u t i ≡ t i
  placed_else p u t i d = ap (λ b. cond b u (t i)) (ne_eqb p i (λ e. d (sym e)))

  abbrev pub unit : ℕ → ℕ → C
  unit i = placed i one (λ j. zero)

  pub dot_cong : (n : ℕ) (a b x y : ℕ → C) → Agree n a b → Agree n x y → dot n a x ≡ dot n b y
  dot_cong n a b x y ab xy = sum_cong R n _ _ (λ j h. ap₂ mul (ab j h) (xy j h))

  pub dot_comm : (n : ℕ) (a x : ℕ → C) → dot n a x ≡ dot n x a
  dot_comm n a x = sum_cong R n _ _ (λ j h. mul_comm (a j) (x j))

  pub dot_add : (n : ℕ) (a x y : ℕ → C) → dot n a (λ j. add (x j) (y j)) ≡ add (dot n a x) (dot n a y)
  dot_add n a x y = sum_cong R n _ _ (λ j h. mul_add (a j) (x j) (y j)) ∙ sum_add R n _ _

  pub add_dot : (n : ℕ) (a b x : ℕ → C) → dot n (λ j. add (a j) (b j)) x ≡ add (dot n a x) (dot n b x)
  add_dot n a b x = sum_cong R n _ _ (λ j h. add_mul R (a j) (b j) (x j)) ∙ sum_add R n _ _

  pub dot_mul : (n : ℕ) (c : C) (a x : ℕ → C) → dot n a (λ j. mul c (x j)) ≡ mul c (dot n a x)
  dot_mul n c a x = sum_cong R n _ _ (λ j h. mul_left_comm (a j) c (x j)) ∙ sym (mul_sum R n c _)

  pub mul_dot : (n : ℕ) (c : C) (a x : ℕ → C) → dot n (λ j. mul c (a j)) x ≡ mul c (dot n a x)
  mul_dot n c a x = sum_cong R n _ _ (λ j h. mul_assoc c (a j) (x j)) ∙ sym (mul_sum R n c _)

  pub dot_combo :
      (n k : ℕ) (a t : ℕ → C) (g : ℕ → ℕ → C) → dot n a (combo k t g) ≡ ring_sum R k (λ i. mul (t i) (dot n a (g i)))
  dot_combo n k a t g =
      sum_cong R n _ _ (λ j h. mul_sum R k (a j) (λ i. mul (t i) (g i j)))
      ∙ sum_swap R n k (λ j i. mul (a j) (mul (t i) (g i j)))
      ∙ sum_cong R k _ _ (λ i h. dot_mul n (t i) a (g i))

  -- the row of one place picks that place
  pub dot_unit : (n : ℕ) (a : ℕ → C) (i : ℕ) → i < n → dot n a (unit i) ≡ a i
  dot_unit n a i below =
      sum_only R n _ i below (λ j h d. ap (mul (a j)) (placed_else i one (λ j. zero) j d) ∙ mul_zero R (a j))
      ∙ ap (mul (a i)) (placed_here i one (λ j. zero))
      ∙ mul_one (a i)

  -- from zero the rows of one place reach every row
  pub on_units :
      (n : ℕ) (x y : ℕ → C) (g : ℕ → ℕ → C)
      → Agree n x (λ j. zero)
      → ((i : ℕ) → i < n → Agree n (g i) (unit i))
      → On n x g y
  on_units n x y g none units = (
    y,
    λ j h.
        let picked : combo n y g j ≡ y j =
        sum_only R n _ j h
        (λ i k d.
        ap (mul (y i)) (units i k j h ∙ placed_else i one (λ j. zero) j (λ e. d (sym e))) ∙ mul_zero R (y i)
        )
        ∙ ap (mul (y j)) (units j h j h ∙ placed_here j one (λ j. zero))
        ∙ mul_one (y j)
        in
        sym (ap₂ add (none j h) picked ∙ zero_add R (y j)),
  )

  -- only the zero row takes them all to zero
  pub units_only_zero :
      (n : ℕ) (a : ℕ → C) (g : ℕ → ℕ → C)
      → ((i : ℕ) → i < n → Agree n (g i) (unit i))
      → ((i : ℕ) → i < n → dot n a (g i) ≡ zero)
      → Agree n a (λ j. zero)
  units_only_zero n a g units gone j h =
      sym (dot_unit n a j h) ∙ dot_cong n a a (unit j) (g j) (λ i k. refl) (λ i k. sym (units j h i k)) ∙ gone j h

  -- one more multiple of a row
  pub on_more :
      (n : ℕ) (x y : ℕ → C) (g : ℕ → ℕ → C) (p : ℕ) (u : C)
      → p < n
      → On n x g y
      → On n x g (λ j. add (y j) (mul u (g p j)))
  on_more n x y g p u below (t, is) = (
    λ i. add (t i) (mul u (unit p i)),
    λ j h.
        ap (λ z. add z (mul u (g p j))) (is j h)
        ∙ add_assoc (x j) (combo n t g j) (mul u (g p j))
        ∙ ap (add (x j))
        (sym (
        add_dot n t (λ i. mul u (unit p i)) (λ i. g i j)
        ∙ ap (add (combo n t g j))
        (mul_dot n u (unit p) (λ i. g i j)
        ∙ ap (mul u) (dot_comm n (unit p) (λ i. g i j) ∙ dot_unit n (λ i. g i j) p below))
        )),
  )

  -- what a takes it to
  pub on_dot :
      (n : ℕ) (a x y : ℕ → C) (g : ℕ → ℕ → C) (on : On n x g y)
      → dot n a y ≡ add (dot n a x) (ring_sum R n (λ i. mul (on.0 i) (dot n a (g i))))
  on_dot n a x y g (t, is) =
      dot_cong n a a _ _ (λ j h. refl) is
      ∙ dot_add n a x (combo n t g)
      ∙ ap (add (dot n a x)) (dot_combo n n a t g)

module _ {C : Type 0} {R : Ring C} {E : ℕ} (V : Valued R E) where
  open R use {add, neg, mul, add_neg, mul_comm}
  open V use {level, level_add, level_zero}

  -- where no row has a lower level, neither has a combination
  pub combo_level :
      (v n k : ℕ) (a t : ℕ → C) (g : ℕ → ℕ → C)
      → v ≤ E
      → ((i : ℕ) → i < k → v ≤ level (dot R n a (g i)))
      → v ≤ level (ring_sum R k (λ i. mul (t i) (dot R n a (g i))))
  combo_level v n k a t g most each =
      level_sum V v k _ most
      (λ i h.
      let one = multiple_level V _ (dot R n a (g i)) (t i) (mul_comm (dot R n a (g i)) (t i)) in
      let low = each i h in
      omega arith
      )

  -- then a row reached from x misses b by no lower level than x does
  pub on_level :
      (v n : ℕ) (a x y : ℕ → C) (g : ℕ → ℕ → C) (b : C)
      → v ≤ E
      → ((i : ℕ) → i < n → v ≤ level (dot R n a (g i)))
      → v ≤ level (add b (neg (dot R n a x)))
      → On R n x g y
      → v ≤ level (add (dot R n a y) (neg b))
  on_level v n a x y g b most each start on =
      let d = dot R n a x in
      let s = ring_sum R n (λ i. mul (on.0 i) (dot R n a (g i))) in
      let r = add b (neg d) in
      let parts : add (dot R n a y) (neg b) ≡ add s (neg r) =
      ap₂ (λ z w. add z (neg w)) (on_dot R n a x y g on) (sym (more_less R b d))
      ∙ ap (add (add d s)) (neg_both R d r)
      ∙ add_cross R d s (neg d) (neg r)
      ∙ ap (λ z. add z (add s (neg r))) (add_neg d)
      ∙ zero_add R (add s (neg r))
      in
      let first = combo_level v n n a on.0 g most each in
      let second = level_neg V r in
      let both = level_add s (neg r) in
      rw parts (omega arith)

  -- two rows reached from x differ by no lower level
  pub on_apart :
      (v n : ℕ) (a x y z : ℕ → C) (g : ℕ → ℕ → C)
      → v ≤ E
      → ((i : ℕ) → i < n → v ≤ level (dot R n a (g i)))
      → On R n x g y
      → On R n x g z
      → v ≤ level (add (dot R n a y) (neg (dot R n a z)))
  on_apart v n a x y z g most each on-y on-z =
      let d = dot R n a x in
      let same : level (add d (neg d)) ≡ E = ap level (add_neg d) ∙ level_zero in
      let start : v ≤ level (add d (neg d)) = omega arith in
      on_level v n a x y g (dot R n a z) most each (on_level v n a x z g d most each start on-z) on-y
