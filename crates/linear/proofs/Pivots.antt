-- One step of solving: from rows that reach the solutions so far, the rows that reach those that also meet an equation.
use Rattle.std.proofs.Common.{◌≡◌, ℕ, ◌-◌, ◌<◌, ◌≤◌, ◌↔◌, sym, refl, ap, ◌∙◌, ap₂, arith}
use native.Mathlib.Decide.{ℕ_discrete}
use Rattle.scale.proofs.Ring.{Ring, add_cancel, add_left_comm, add_mul, equal, mul_neg, mul_zero}
use Rattle.scale.proofs.Sums.{ring_sum, sum_add, sum_cong, sum_none, sum_only, mul_sum}
use Rattle.linear.proofs.Valued.{Valued, raiser_zero, multiple_level}
use Rattle.linear.proofs.Rows.{
  Agree,
  On,
  combo,
  dot,
  placed,
  add_dot,
  combo_level,
  dot_add,
  dot_cong,
  dot_mul,
  more_less,
  mul_dot,
  mul_left_comm,
  neg_mul,
  on_dot,
  on_more,
  placed_else,
  placed_here,
}

module _ {C : Type 0} {R : Ring C} {E : ℕ} (V : Valued R E) where
  open R use {zero, one, add, neg, mul}
  open R use {add_assoc, add_comm, add_zero, add_neg, mul_assoc, mul_comm, mul_one, mul_add}
  open V use {level, level_most, level_zero, level_mul, raiser, raiser_level}

  -- row p is the pivot: the equation a takes it to a divisor of what it takes the others to
  pub record Pivoted (n : ℕ) (a : ℕ → C) (p : ℕ) (cs : ℕ → C) (old new : ℕ → ℕ → C) : Type 0 where
    pub below : p < n
    pub divides : (i : ℕ) → i < n → (i ≡ p → ⊥) → mul (dot R n a (old p)) (cs i) ≡ dot R n a (old i)
    pub others : (i j : ℕ) → i < n → j < n → (i ≡ p → ⊥) → new i j ≡ add (old i j) (mul (neg (cs i)) (old p j))
    pub scaled : (j : ℕ) → j < n → new p j ≡ mul (raiser (E - level (dot R n a (old p)))) (old p j)

  -- two sums of which one summand differs
  sum_but_one :
      (n : ℕ) (f g : ℕ → C) (p : ℕ) (w : C)
      → p < n
      → ((i : ℕ) → i < n → (i ≡ p → ⊥) → f i ≡ g i)
      → add (f p) w ≡ g p
      → add (ring_sum R n f) w ≡ ring_sum R n g
  sum_but_one n f g p w below same here =
      let rest : ℕ → C = placed R p w (λ i. zero) in
      let only : ring_sum R n rest ≡ w =
      sum_only R n rest p below (λ i h d. placed_else R p w (λ i. zero) i d) ∙ placed_here R p w (λ i. zero)
      in
      ap (add (ring_sum R n f)) (sym only)
      ∙ sym (sum_add R n f rest)
      ∙ sum_cong R n _ _ (λ i h. each i h (ℕ_discrete i p))
    where
      each : (i : ℕ) → i < n → Dec (i ≡ p) → add (f i) (placed R p w (λ i. zero) i) ≡ g i
      each i h (yes e) =
          ap (λ k. add (f k) (placed R p w (λ i. zero) k)) e
          ∙ ap (add (f p)) (placed_here R p w (λ i. zero))
          ∙ here
          ∙ sym (ap g e)
      each i h (no d) = ap (add (f i)) (placed_else R p w (λ i. zero) i d) ∙ add_zero (f i) ∙ same i h d

  regain : (t k o q : C) → add (mul (mul t k) q) (mul t (add o (mul (neg k) q))) ≡ mul t o
  regain t k o q =
      ap₂ add (mul_assoc t k q) (ap (λ z. mul t (add o z)) (neg_mul R k q))
      ∙ sym (mul_add t (mul k q) (add o (neg (mul k q))))
      ∙ ap (mul t) (more_less R o (mul k q))

  -- where a takes no row to a lower level than row p, and x misses b by a lower level, no row reached from x meets b
  pub insoluble :
      (n : ℕ) (a x y : ℕ → C) (g : ℕ → ℕ → C) (p : ℕ) (b : C)
      → ((i : ℕ) → i < n → level (dot R n a (g p)) ≤ level (dot R n a (g i)))
      → level (add b (neg (dot R n a x))) < level (dot R n a (g p))
      → On R n x g y
      → dot R n a y ≡ b
      → ⊥
  insoluble n a x y g p b least misses on meets =
      let d = dot R n a x in
      let s = ring_sum R n (λ i. mul (on.0 i) (dot R n a (g i))) in
      let high = combo_level V (level (dot R n a (g p))) n n a on.0 g (level_most (dot R n a (g p))) least in
      let rest : add b (neg d) ≡ s =
      add_cancel R d (add b (neg d)) s (more_less R b d ∙ sym meets ∙ on_dot R n a x y g on)
      in
      let same = ap level rest in
      omega arith

  -- raised, the equation vanishes at every row
  pub vanishing :
      (n : ℕ) (a : ℕ → C) (g : ℕ → ℕ → C) (p : ℕ)
      → ((i : ℕ) → i < n → level (dot R n a (g p)) ≤ level (dot R n a (g i)))
      → (i : ℕ)
      → i < n
      → dot R n (λ j. mul (raiser (E - level (dot R n a (g p)))) (a j)) (g i) ≡ zero
  vanishing n a g p least i h =
      mul_dot R n (raiser (E - level (dot R n a (g p)))) a (g i)
      ∙ (raiser_zero V (dot R n a (g i)) (level (dot R n a (g p))) (level_most (dot R n a (g p)))).1 (least i h)

  module _ (n : ℕ) (a : ℕ → C) (p : ℕ) (cs : ℕ → C) (old new : ℕ → ℕ → C) (pivoted : Pivoted n a p cs old new) where
    open pivoted use {below, others, scaled}

    abbrev δ : C
    δ = dot R n a (old p)

    abbrev lift : C
    lift = raiser (E - level δ)

    -- what each old row has of the pivot row
    abbrev share : ℕ → C
    share = placed R p one cs

    scaled_dot : (r : ℕ → C) → dot R n r (new p) ≡ mul lift (dot R n r (old p))
    scaled_dot r = dot_cong R n r r _ _ (λ j h. refl) scaled ∙ dot_mul R n lift r (old p)

    others_dot :
        (r : ℕ → C) (i : ℕ) → i < n → (i ≡ p → ⊥)
        → dot R n r (new i) ≡ add (dot R n r (old i)) (neg (mul (cs i) (dot R n r (old p))))
    others_dot r i h d =
        dot_cong R n r r _ _ (λ j k. refl) (λ j k. others i j h k d)
        ∙ dot_add R n r (old i) (λ j. mul (neg (cs i)) (old p j))
        ∙ ap (add (dot R n r (old i))) (dot_mul R n (neg (cs i)) r (old p) ∙ neg_mul R (cs i) (dot R n r (old p)))

    share_of :
        (f : ℕ → C) (i : ℕ) → ((i ≡ p → ⊥) → f i ≡ mul (f p) (cs i)) → f i ≡ mul (f p) (share i)
    share_of f i other = go (ℕ_discrete i p)
      where
        go : Dec (i ≡ p) → f i ≡ mul (f p) (share i)
        go (yes e) = ap f e ∙ sym (mul_one (f p)) ∙ ap (mul (f p)) (sym (placed_here R p one cs) ∙ sym (ap share e))
        go (no d) = other d ∙ ap (mul (f p)) (sym (placed_else R p one cs i d))

    a_share : (i : ℕ) → i < n → dot R n a (old i) ≡ mul δ (share i)
    a_share i h = share_of (λ k. dot R n a (old k)) i (λ d. sym (pivoted.divides i h d))

    pub least : (i : ℕ) → i < n → level δ ≤ level (dot R n a (old i))
    least i h = multiple_level V (dot R n a (old i)) δ (share i) (sym (a_share i h))

    -- the equation takes every new row to zero
    pub new_zero : (i : ℕ) → i < n → dot R n a (new i) ≡ zero
    new_zero i h = go (ℕ_discrete i p)
      where
        go : Dec (i ≡ p) → dot R n a (new i) ≡ zero
        go (yes e) =
            ap (λ k. dot R n a (new k)) e
            ∙ scaled_dot a
            ∙ (raiser_zero V δ (level δ) (level_most δ)).1 (omega arith)
        go (no d) =
            others_dot a i h d
            ∙ ap (λ z. add (dot R n a (old i)) (neg z)) (mul_comm (cs i) δ ∙ pivoted.divides i h d)
            ∙ add_neg (dot R n a (old i))

    -- a combination of old rows as one of new rows
    exchange :
        (t : ℕ → C) (u : C) (j : ℕ)
        → j < n
        → add (combo R n t old j) (mul u (new p j))
        ≡ add (mul (dot R n t share) (old p j)) (combo R n (placed R p u t) new j)
    exchange t u j h =
        sum_but_one n (λ i. mul (t i) (old i j))
        (λ i. add (mul (mul (t i) (share i)) (old p j)) (mul (placed R p u t i) (new i j))) p (mul u (new p j)) below
        (λ i k d.
        sym (
        ap₂ (λ s v. add (mul (mul (t i) s) (old p j)) (mul v (new i j)))
        (placed_else R p one cs i d) (placed_else R p u t i d)
        ∙ ap (λ z. add (mul (mul (t i) (cs i)) (old p j)) (mul (t i) z)) (others i j k h d)
        ∙ regain (t i) (cs i) (old i j) (old p j)
        ))
        (sym (
        ap₂ (λ s v. add (mul (mul (t p) s) (old p j)) (mul v (new p j)))
        (placed_here R p one cs) (placed_here R p u t)
        ∙ ap (λ z. add (mul z (old p j)) (mul u (new p j))) (mul_one (t p))
        ))
        ∙ sum_add R n _ _
        ∙ ap (λ z. add z (combo R n (placed R p u t) new j))
        (sum_cong R n _ _ (λ i k. mul_comm (mul (t i) (share i)) (old p j))
        ∙ sym (mul_sum R n (old p j) (λ i. mul (t i) (share i)))
        ∙ mul_comm (old p j) (dot R n t share))

    -- the pivot row's own part
    lifted : (u : C) (j : ℕ) → j < n → mul u (new p j) ≡ mul (mul u lift) (old p j)
    lifted u j h = ap (mul u) (scaled j h) ∙ sym (mul_assoc u lift (old p j))

    module _ (x x' y : ℕ → C) (b c : C)
        (quotient : mul δ c ≡ add b (neg (dot R n a x)))
        (moved : Agree R n x' (λ j. add (x j) (mul c (old p j))))
      where
        start_meets : dot R n a x' ≡ b
        start_meets =
            dot_cong R n a a _ _ (λ j h. refl) moved
            ∙ dot_add R n a x (λ j. mul c (old p j))
            ∙ ap (add (dot R n a x)) (dot_mul R n c a (old p) ∙ mul_comm c δ ∙ quotient)
            ∙ more_less R b (dot R n a x)

        forth : On R n x old y → dot R n a y ≡ b → On R n x' new y
        forth (t, is) meets =
            let whole = dot R n t share in
            let spread : ring_sum R n (λ i. mul (t i) (dot R n a (old i))) ≡ mul δ whole =
            sum_cong R n _ _ (λ i h. ap (mul (t i)) (a_share i h) ∙ mul_left_comm R (t i) δ (share i))
            ∙ sym (mul_sum R n δ (λ i. mul (t i) (share i)))
            in
            let equals : mul δ whole ≡ mul δ c =
            add_cancel R (dot R n a x) (mul δ whole) (mul δ c)
            (ap (add (dot R n a x)) (sym spread)
            ∙ sym (on_dot R n a x y old (t, is))
            ∙ meets
            ∙ sym (more_less R b (dot R n a x))
            ∙ ap (add (dot R n a x)) (sym quotient))
            in
            let gone : mul δ (add whole (neg c)) ≡ zero =
            mul_add δ whole (neg c) ∙ ap₂ add equals (mul_neg R δ c) ∙ add_neg (mul δ c)
            in
            let high : level lift ≤ level (add whole (neg c)) =
            let e = level_mul δ (add whole (neg c)) in
            let top : level (mul δ (add whole (neg c))) ≡ E = ap level gone ∙ level_zero in
            let k = raiser_level (E - level δ) in
            omega arith
            in
            let q = V.divides (add whole (neg c)) lift high in
            let u = q.0 in
            let split : whole ≡ add c (mul u lift) =
            sym (more_less R whole c) ∙ ap (add c) (sym q.1 ∙ mul_comm lift u)
            in
            let kept : (j : ℕ) → j < n → combo R n t old j ≡ add (mul c (old p j)) (combo R n (placed R p u t) new j) =
            λ j h.
            let w = mul u (new p j) in
            let rest = combo R n (placed R p u t) new j in
            add_cancel R w (combo R n t old j) (add (mul c (old p j)) rest)
            (add_comm w (combo R n t old j)
            ∙ exchange t u j h
            ∙ ap (λ z. add z rest)
            (ap (λ z. mul z (old p j)) (split ∙ add_comm c (mul u lift))
            ∙ add_mul R (mul u lift) c (old p j)
            ∙ ap (λ z. add z (mul c (old p j))) (sym (lifted u j h)))
            ∙ add_assoc w (mul c (old p j)) rest)
            in (
              placed R p u t,
              λ j h.
                  is j h
                  ∙ ap (add (x j)) (kept j h)
                  ∙ sym (add_assoc (x j) (mul c (old p j)) (combo R n (placed R p u t) new j))
                  ∙ ap (λ z. add z (combo R n (placed R p u t) new j)) (sym (moved j h)),
            )

        back_meets : On R n x' new y → dot R n a y ≡ b
        back_meets on =
            on_dot R n a x' y new on
            ∙ ap₂ add start_meets (sum_none R n _ (λ i h. ap (mul (on.0 i)) (new_zero i h) ∙ mul_zero R (on.0 i)))
            ∙ add_zero b

        back_on : On R n x' new y → On R n x old y
        back_on (t, is) =
            let whole = dot R n t share in
            let u = t p in
            let v = add (add c (mul u lift)) (neg whole) in
            let q = on_more R n x (λ j. add (x j) (combo R n t old j)) old p v below (t, λ j h. refl) in
            let kept : (j : ℕ) → j < n
            → add (mul c (old p j)) (combo R n t new j) ≡ add (combo R n t old j) (mul v (old p j)) =
            λ j h.
            let P = old p j in
            let before = combo R n t old j in
            let after = combo R n t new j in
            let same : combo R n (placed R p u t) new j ≡ after =
            sum_cong R n _ _ (λ i k. ap (λ z. mul z (new i j)) (unplaced i))
            in
            add_cancel R (mul whole P) (add (mul c P) after) (add before (mul v P))
            (add_left_comm R (mul whole P) (mul c P) after
            ∙ ap (add (mul c P))
            (ap (add (mul whole P)) (sym same) ∙ sym (exchange t u j h) ∙ ap (add before) (lifted u j h))
            ∙ add_left_comm R (mul c P) before (mul (mul u lift) P)
            ∙ ap (add before)
            (sym (add_mul R c (mul u lift) P)
            ∙ ap (λ z. mul z P) (sym (more_less R (add c (mul u lift)) whole))
            ∙ add_mul R whole v P)
            ∙ add_left_comm R before (mul whole P) (mul v P))
            in (
              q.0,
              λ j h.
                  is j h
                  ∙ ap (λ z. add z (combo R n t new j)) (moved j h)
                  ∙ add_assoc (x j) (mul c (old p j)) (combo R n t new j)
                  ∙ ap (add (x j)) (kept j h)
                  ∙ sym (add_assoc (x j) (combo R n t old j) (mul v (old p j)))
                  ∙ q.1 j h,
            )
          where
            unplaced : (i : ℕ) → placed R p (t p) t i ≡ t i
            unplaced i = go (ℕ_discrete i p)
              where
                go : Dec (i ≡ p) → placed R p (t p) t i ≡ t i
                go (yes e) = ap (placed R p (t p) t) e ∙ placed_here R p (t p) t ∙ ap t (sym e)
                go (no d) = placed_else R p (t p) t i d

        pub solutions : (On R n x old y × (dot R n a y ≡ b)) ↔ On R n x' new y
        solutions = (λ both. forth both.0 both.1, λ on. (back_on on, back_meets on))

    module _ (r : ℕ → C) (gone : (i : ℕ) → i < n → dot R n r (new i) ≡ zero) where
      pub factor : level δ ≤ level (dot R n r (old p))
      factor =
          (raiser_zero V (dot R n r (old p)) (level δ) (level_most δ)).0 (sym (scaled_dot r) ∙ gone p below)

      pub mended :
          (k : C) → mul δ k ≡ dot R n r (old p) → (i : ℕ) → i < n
          → dot R n (λ j. add (r j) (mul (neg k) (a j))) (old i) ≡ zero
      mended k e i h =
          let r_share : dot R n r (old i) ≡ mul (dot R n r (old p)) (share i) =
          share_of (λ k. dot R n r (old k)) i
          (λ d.
          equal R (dot R n r (old i)) (mul (cs i) (dot R n r (old p))) (sym (others_dot r i h d) ∙ gone i h)
          ∙ mul_comm (cs i) (dot R n r (old p))
          )
          in
          add_dot R n r (λ j. mul (neg k) (a j)) (old i)
          ∙ ap₂ add (r_share ∙ ap (λ z. mul z (share i)) (sym e))
          (mul_dot R n (neg k) a (old i)
          ∙ neg_mul R k (dot R n a (old i))
          ∙ ap neg
          (ap (mul k) (a_share i h) ∙ sym (mul_assoc k δ (share i)) ∙ ap (λ z. mul z (share i)) (mul_comm k δ)))
          ∙ add_neg (mul (mul δ k) (share i))
