-- Sums over the numbers below one, and their order.
use Rattle.std.specs.Prelude.{◌≡◌, ℕ, zero, suc, ◌+◌, ◌<◌, ◌≤◌, Bool, true, false, cond, ◌==◌, refl}
use Rattle.std.proofs.Common.{sym, ap, ap₂, ◌∙◌, add-zero, zero-add, eq-or-lt_of_le, inl, inr, arith, eqb-true, eq-eqb, ne_eqb}
use Rattle.std.proofs.lemmas.Bool.{eqb-false}

-- f 0 + .. + f (n - 1)
abbrev pub sum : (ℕ → ℕ) → ℕ → ℕ
sum f zero = 0
sum f (suc n) = f n + sum f n

pub sum_same : (f g : ℕ → ℕ) (n : ℕ) → ((i : ℕ) → i < n → f i ≡ g i) → sum f n ≡ sum g n
sum_same f g zero h = refl
sum_same f g (suc n) h = ap₂ (λ (x y : ℕ). x + y) (h n (omega arith)) (sum_same f g n (λ i k. h i (omega arith)))

sum_none : (n : ℕ) → sum (λ i. 0) n ≡ 0
sum_none zero = refl
sum_none (suc n) = zero-add (sum (λ i. 0) n) ∙ sum_none n

sum_both : (f g : ℕ → ℕ) (n : ℕ) → sum f n + sum g n ≡ sum (λ i. f i + g i) n
sum_both f g zero = refl
sum_both f g (suc n) = omega (arith, sum_both f g n)

-- a double sum, the other way round
sum_turned : (g : ℕ → ℕ → ℕ) (n m : ℕ) → sum (λ i. sum (g i) m) n ≡ sum (λ j. sum (λ i. g i j) n) m
sum_turned g zero m = sym (sum_none m)
sum_turned g (suc n) m =
    ap (λ (x : ℕ). sum (g n) m + x) (sum_turned g n m) ∙ sum_both (g n) (λ j. sum (λ i. g i j) n) m

-- of a sum in which all but one are 0, that one
pick : (f : ℕ → ℕ) (j n : ℕ) → j < n → sum (λ i. cond (j == i) (f i) 0) n ≡ f j
pick f j zero h = absurd (omega arith)
pick f j (suc n) h = elim (eq-or-lt_of_le h) [ inl e ↦ last (omega arith) | inr k ↦ before (omega arith) (pick f j n (omega arith)) ]
  where
    none : (m : ℕ) → m ≤ j → sum (λ i. cond (j == i) (f i) 0) m ≡ 0
    none m l =
        sum_same (λ i. cond (j == i) (f i) 0) (λ i. 0) m (λ i k. ap (λ (t : Bool). cond t (f i) 0) (ne_eqb j i (λ e. omega arith))) ∙ sum_none m

    last : j ≡ n → cond (j == n) (f n) 0 + sum (λ i. cond (j == i) (f i) 0) n ≡ f j
    last e =
        ap₂ (λ (x y : ℕ). x + y) (ap (λ (t : Bool). cond t (f n) 0) (eq-eqb j n e)) (none n (omega arith)) ∙ add-zero (f n) ∙ ap f (sym e)

    before : j < n → sum (λ i. cond (j == i) (f i) 0) n ≡ f j → cond (j == n) (f n) 0 + sum (λ i. cond (j == i) (f i) 0) n ≡ f j
    before k rest =
        ap₂ (λ (x y : ℕ). x + y) (ap (λ (t : Bool). cond t (f n) 0) (ne_eqb j n (λ e. omega arith))) rest ∙ zero-add (f j)

eqb_same : (a b c d : ℕ) → (a ≡ b → c ≡ d) → (c ≡ d → a ≡ b) → (a == b) ≡ (c == d)
eqb_same a b c d there back = go (a == b) refl
  where
    go : (t : Bool) → (a == b) ≡ t → t ≡ (c == d)
    go true s = sym (eq-eqb c d (there (eqb-true a b s)))
    go false s = sym (ne_eqb c d (λ e. eqb-false a b s (back e)))

-- a sum in another order
pub sum_moved :
    (to from : ℕ → ℕ) (n : ℕ)
    → ((i : ℕ) → i < n → to i < n)
    → ((i : ℕ) → i < n → from i < n)
    → ((i : ℕ) → i < n → from (to i) ≡ i)
    → ((i : ℕ) → i < n → to (from i) ≡ i)
    → (f : ℕ → ℕ)
    → sum (λ i. f (to i)) n ≡ sum f n
sum_moved to from n to_below from-below from-to to-from f =
    sum_same (λ i. f (to i)) (λ i. sum (λ j. cond (to i == j) (f j) 0) n) n (λ i h. sym (pick f (to i) n (to_below i h)))
    ∙ sum_turned (λ i j. cond (to i == j) (f j) 0) n n
    ∙ sum_same (λ j. sum (λ i. cond (to i == j) (f j) 0) n) f n
    (λ j h.
    sum_same (λ i. cond (to i == j) (f j) 0) (λ i. cond (from j == i) (f j) 0) n
    (λ i k. ap (λ (t : Bool). cond t (f j) 0)
    (eqb_same (to i) j (from j) i (λ e. ap from (sym e) ∙ from-to i k) (λ e. ap to (sym e) ∙ to-from j h)))
    ∙ pick (λ i. f j) (from j) n (from-below j h))
