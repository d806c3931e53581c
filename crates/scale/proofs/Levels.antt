-- What follows from the laws of levels.
use Rattle.std.proofs.Common.{◌≡◌, ℕ, zero, suc, ◌+◌, ◌-◌, ◌*◌, ◌^◌, ◌<◌, ◌≤◌, min, ◌↔◌, Some, sym, ap, ◌∙◌, one-mul, pow-suc, arith}
use native.Mathlib.Nat.{pow-le-pow_right, pow-zero}
use Rattle.scale.specs.Meaning.{Meaning, Laws, Code, Divided, size, base, digits, power}
use Rattle.scale.proofs.Codes.{power_code, zero_code}
use Rattle.scale.proofs.Coded.{codes}
use Rattle.scale.proofs.Ring.{mul_zero}

module _ (m : Meaning) (l : Laws m) where
  -- there are two codes at least
  pub two_codes : 1 < size m
  two_codes =
      let first : base m ^ 1 ≡ base m = pow-suc (base m) 0 ∙ ap (λ x. x * base m) (pow-zero (base m)) ∙ one-mul (base m) in
      let grows : base m ^ 1 ≤ size m = pow-le-pow_right (omega (arith, l.base_least)) l.length_least in
      omega (arith, l.base_least)

  pub product_zero : (a : ℕ) → Code m a → m.product a 0 ≡ 0
  product_zero a h = ap (λ c. c.0) (mul_zero (codes m l) (a, h))

  -- 0 is a quotient of 0 by any code
  pub zero_divided : (b : ℕ) → Code m b → Divided m 0 b (Some 0)
  zero_divided b h = (omega (arith, l.level_zero, l.level_most b h), (zero_code m l, product_zero b h))

  pub one_not_zero : m.one ≡ 0 → ⊥
  one_not_zero e =
      let none : ◌≡◌ {A = ℕ} 1 0 = sym (l.product_one 1 two_codes) ∙ ap (m.product 1) e ∙ product_zero 1 two_codes in
      omega arith

  pub one_level : m.level m.one ≡ 0
  one_level =
      let v = m.level m.one in
      let twice : v ≡ min (digits m) (v + v) =
      sym (ap m.level (l.product_one m.one l.one_code)) ∙ l.level_product m.one m.one l.one_code l.one_code
      in
      let low : v ≡ digits m → ⊥ = λ e. one_not_zero (l.zero_only m.one l.one_code e) in
      omega arith

  pub power_level : (k : ℕ) → m.level (power m k) ≡ min (digits m) k
  power_level zero = one_level ∙ omega arith
  power_level (suc k) =
      let e = l.level_product m.step (power m k) l.step_code (power_code m l k) in
      let s = l.step_level in
      let p = power_level k in
      omega arith

  -- multiplied by the step to the power E - v, just the codes of level v or more become 0
  pub raised_level :
      (z v : ℕ) → Code m z → v ≤ digits m
      → m.level (m.product (power m (digits m - v)) z) ≡ min (digits m) (digits m - v + m.level z)
  raised_level z v h k =
      let e = l.level_product (power m (digits m - v)) z (power_code m l (digits m - v)) h in
      let p = power_level (digits m - v) in
      omega arith

  pub raised_zero :
      (z v : ℕ) → Code m z → v ≤ digits m → (m.product (power m (digits m - v)) z ≡ 0) ↔ (v ≤ m.level z)
  raised_zero z v h k =
      let w = power m (digits m - v) in
      let e = raised_level z v h k in (
        λ zero. let top : m.level (m.product w z) ≡ digits m = ap m.level zero ∙ l.level_zero in omega arith,
        λ low.
            let top : m.level (m.product w z) ≡ digits m = omega arith in
            l.zero_only (m.product w z) (l.product_code w z (power_code m l (digits m - v)) h) top,
      )
