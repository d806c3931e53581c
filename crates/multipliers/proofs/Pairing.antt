-- The product of a row of factors with a row of codes, over all heads and counters.
use Rattle.std.proofs.Common.{◌≡◌, ℕ, ◌<◌, cond, ◌&&◌, eqb, sym, refl, ap, ◌∙◌, eq-eqb, ne_eqb}
use Rattle.scale.proofs.Ring.{Ring, zero_mul}
use Rattle.scale.proofs.Sums.{ring_sum, sum_cong, sum_none, sum_swap, sum_only, mul_sum}

module _ {C : Type 0} (R : Ring C) (H K : ℕ) (X : ℕ → ℕ → C) where
  open R use {zero, mul, mul_assoc, mul_comm}

  abbrev pub ring_pair : (ℕ → ℕ → C) → C
  ring_pair r = ring_sum R H (λ h. ring_sum R K (λ c. mul (r h c) (X h c)))

  pub pair_none : (r : ℕ → ℕ → C) → ((h c : ℕ) → h < H → c < K → r h c ≡ zero) → ring_pair r ≡ zero
  pair_none r none =
      sum_none R H _ (λ h hH. sum_none R K _ (λ c cK. ap (λ a. mul a (X h c)) (none h c hH cK) ∙ zero_mul R (X h c)))

  pub pair_mul : (a : C) (r : ℕ → ℕ → C) → ring_pair (λ h c. mul a (r h c)) ≡ mul a (ring_pair r)
  pair_mul a r =
      sum_cong R H _ _
      (λ h hH. sum_cong R K _ _ (λ c cK. mul_assoc a (r h c) (X h c)) ∙ sym (mul_sum R K a (λ c. mul (r h c) (X h c))))
      ∙ sym (mul_sum R H a (λ h. ring_sum R K (λ c. mul (r h c) (X h c))))

  sum_mul : (n : ℕ) (f : ℕ → C) (a : C) → mul (ring_sum R n f) a ≡ ring_sum R n (λ i. mul (f i) a)
  sum_mul n f a =
      mul_comm (ring_sum R n f) a ∙ mul_sum R n a f ∙ sum_cong R n _ _ (λ i h. mul_comm a (f i))

  pub pair_sum : (n : ℕ) (r : ℕ → ℕ → ℕ → C) → ring_pair (λ h c. ring_sum R n (λ i. r i h c)) ≡ ring_sum R n (λ i. ring_pair (r i))
  pair_sum n r =
      sum_cong R H _ _
      (λ h hH.
      sum_cong R K _ _ (λ c cK. sum_mul n (λ i. r i h c) (X h c)) ∙ sum_swap R K n (λ c i. mul (r i h c) (X h c))
      )
      ∙ sum_swap R H n (λ h i. ring_sum R K (λ c. mul (r i h c) (X h c)))

  -- a row with one factor
  pub pair_only :
      (a : C) (h₀ c₀ : ℕ)
      → h₀ < H
      → c₀ < K
      → ring_pair (λ h c. cond (eqb h h₀ && eqb c c₀) a zero) ≡ mul a (X h₀ c₀)
  pair_only a h₀ c₀ hH cK =
      sum_only R H _ h₀ hH
      (λ h _ d. sum_none R K _ (λ c _. ap (λ b. mul (cond (b && eqb c c₀) a zero) (X h c)) (ne_eqb h h₀ d) ∙ zero_mul R (X h c)))
      ∙ sum_only R K _ c₀ cK
      (λ c _ d.
      ap (λ b. mul (cond (b && eqb c c₀) a zero) (X h₀ c)) (eq-eqb h₀ h₀ refl)
      ∙ ap (λ b. mul (cond b a zero) (X h₀ c)) (ne_eqb c c₀ d)
      ∙ zero_mul R (X h₀ c)
      )
      ∙ ap (λ b. mul (cond (b && eqb c₀ c₀) a zero) (X h₀ c₀)) (eq-eqb h₀ h₀ refl)
      ∙ ap (λ b. mul (cond b a zero) (X h₀ c₀)) (eq-eqb c₀ c₀ refl)
