-- Finite sums in a commutative ring.
use Rattle.std.proofs.Common.{◌≡◌, ℕ, zero, suc, ◌<◌, sym, refl, ap, ◌∙◌, ap₂, arith}
use native.Mathlib.Decide.{ℕ_discrete}
use Rattle.scale.proofs.Ring.{Ring, add_cross, mul_zero, zero_add}

module _ {C : Type 0} (R : Ring C) where
  open R use {zero as none, add, mul, add_zero, mul_add}

  -- f 0 + f 1 + .. + f (n - 1)
  abbrev pub ring_sum : ℕ → (ℕ → C) → C
  ring_sum zero f = none
  ring_sum (suc n) f = add (ring_sum n f) (f n)

  pub sum_cong : (n : ℕ) (f g : ℕ → C) → ((i : ℕ) → i < n → f i ≡ g i) → ring_sum n f ≡ ring_sum n g
  sum_cong zero f g h = refl
  sum_cong (suc n) f g h = ap₂ add (sum_cong n f g (λ i k. h i (omega arith))) (h n (omega arith))

  pub sum_none : (n : ℕ) (f : ℕ → C) → ((i : ℕ) → i < n → f i ≡ none) → ring_sum n f ≡ none
  sum_none zero f h = refl
  sum_none (suc n) f h = ap₂ add (sum_none n f (λ i k. h i (omega arith))) (h n (omega arith)) ∙ add_zero none

  pub sum_add : (n : ℕ) (f g : ℕ → C) → ring_sum n (λ i. add (f i) (g i)) ≡ add (ring_sum n f) (ring_sum n g)
  sum_add zero f g = sym (add_zero none)
  sum_add (suc n) f g = ap (λ x. add x (add (f n) (g n))) (sum_add n f g) ∙ add_cross R (ring_sum n f) (ring_sum n g) (f n) (g n)

  pub mul_sum : (n : ℕ) (a : C) (f : ℕ → C) → mul a (ring_sum n f) ≡ ring_sum n (λ i. mul a (f i))
  mul_sum zero a f = mul_zero R a
  mul_sum (suc n) a f = mul_add a (ring_sum n f) (f n) ∙ ap (λ x. add x (mul a (f n))) (mul_sum n a f)

  -- the order of two sums does not matter
  pub sum_swap : (n k : ℕ) (f : ℕ → ℕ → C) → ring_sum n (λ i. ring_sum k (f i)) ≡ ring_sum k (λ j. ring_sum n (λ i. f i j))
  sum_swap zero k f = sym (sum_none k (λ j. none) (λ j h. refl))
  sum_swap (suc n) k f =
      ap (λ x. add x (ring_sum k (f n))) (sum_swap n k f) ∙ sym (sum_add k (λ j. ring_sum n (λ i. f i j)) (f n))

  -- a sum of which only one summand is there
  pub sum_only :
      (n : ℕ) (f : ℕ → C) (j : ℕ) → j < n → ((i : ℕ) → i < n → (i ≡ j → ⊥) → f i ≡ none) → ring_sum n f ≡ f j
  sum_only zero f j k h = absurd (omega arith)
  sum_only (suc n) f j k h = go (ℕ_discrete n j) (λ d. sum_only n f j (omega arith) (λ i l. h i (omega arith)))
    where
      go : Dec (n ≡ j) → ((n ≡ j → ⊥) → ring_sum n f ≡ f j) → ring_sum (suc n) f ≡ f j
      go (yes e) before =
          ap (λ x. add x (f n)) (sum_none n f (λ i l. h i (omega arith) (λ d. omega arith)))
          ∙ zero_add R (f n)
          ∙ ap f e
      go (no d) before = ap₂ add (before d) (h n (omega arith) d) ∙ add_zero (f j)
