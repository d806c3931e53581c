-- First facts of codes, for every scale.
use Rattle.std.proofs.Common.{◌≡◌, ℕ, zero, suc, ◌+◌, ◌*◌, ◌/◌, ◌%◌, ◌^◌, ◌<◌, ◌≤◌, ap, ◌∙◌, ap₂, subst, le_trans, lt_of_not-le, mod-lt, mod-eq_of_lt, arith}
use Rattle.std.proofs.Math.Nat.{div-add-mod, pow-le-pow_left, pow-le-pow_right}
use native.Mathlib.Nat.{zero-mod, one-le-pow}
use Rattle.scale.specs.Meaning.{Meaning, Laws, Code, reading, size, base, digits, power}

-- a base of 2 or more has no power that is 0
pub power_pos : (q e : ℕ) → 2 ≤ q → 0 < q ^ e
power_pos q e h = one-le-pow e q (omega arith)

module _ (m : Meaning) (l : Laws m) where
  pub size_pos : 0 < size m
  size_pos = power_pos (base m) (digits m) l.base_least

  pub zero_code : Code m 0
  zero_code = size_pos

  -- a code is its own reading, and each reading is a code
  pub reading_code : (a : ℕ) → Code m (reading m a)
  reading_code a = mod-lt a size_pos

  pub reading_of : (a : ℕ) → Code m a → reading m a ≡ a
  reading_of a h = mod-eq_of_lt h

  pub reading_zero : reading m 0 ≡ 0
  reading_zero = zero-mod (size m)

  -- a code has 31 digits at most, and a number of no more bits than these is a code in any base
  pub length_most : digits m < 32
  length_most =
      let more : 2 ^ digits m ≤ size m = pow-le-pow_left l.base_least (digits m) in
      lt_of_not-le (λ (long : 32 ≤ digits m).
      let high : 2 ^ 32 ≤ 2 ^ digits m = pow-le-pow_right (omega arith) long in
      omega (arith, le_trans high (le_trans more l.size_most)))

  pub bits_code : (a : ℕ) → a / 2 ^ digits m ≡ 0 → Code m a
  bits_code a short =
      let n : ℕ = 2 ^ digits m in
      let whole : n * 0 + a % n ≡ a = subst (λ (k : ℕ). n * k + a % n ≡ a) short (div-add-mod a n) in
      let below : a % n < n = mod-lt a (power_pos 2 (digits m) (omega arith)) in
      let more : n ≤ size m = pow-le-pow_left l.base_least (digits m) in
      omega (arith, whole, below, more)

  pub power_code : (k : ℕ) → Code m (power m k)
  power_code zero = l.one_code
  power_code (suc k) = l.product_code m.step (power m k) l.step_code (power_code k)

  pub sum_zero_reading : (a : ℕ) → m.sum (reading m a) (reading m 0) ≡ reading m a
  sum_zero_reading a = ap (m.sum (reading m a)) reading_zero ∙ l.sum_zero (reading m a) (reading_code a)

  -- one more power, as the functions compute it
  pub power_more : (k : ℕ) → m.product (reading m m.step) (reading m (power m k)) ≡ power m (suc k)
  power_more k = ap₂ m.product (reading_of m.step l.step_code) (reading_of (power m k) (power_code k))
