-- Division by a power of the base.
use Rattle.std.proofs.Common.{◌≡◌, ℕ, zero, suc, ◌*◌, ◌%◌, ◌^◌, ◌<◌, ◌≤◌, Option, None, Some, sym, ap, ◌∙◌, subst, mod-eq_of_lt, mul_comm, pow-suc, lt_of_not-le, lt_of_le_of_lt, le_refl, le-mul_of_pos_right, mul-le-mul, arith}
use Rattle.std.proofs.lemmas.Nat.{mul-mod, mul-mod_first}
use Rattle.std.proofs.Math.Nat.{pow-zero, pow-le-pow_right, mul-mod_right}
use Rattle.scale.specs.declared.Mark.{Mark}
use Rattle.scale.specs.Meaning.{Laws, Divided, power}
use Rattle.scale.proofs.Codes.{power_code, power_pos}
use Rattle.scale.proofs.Levels.{power_level}
use Rattle.scales.specs.Counting.{counting}
use Rattle.scales.specs.Inverses.{one_mod}
use Rattle.scales.specs.Parting.{Lowered}
use Rattle.scales.specs.Zeros.{zeros_divide, divide_zeros}

module _ (m : Mark) (l : Laws (counting m)) where
  abbrev q : ℕ
  q = m.base

  abbrev e : ℕ
  e = m.length

  abbrev n : ℕ
  n = q ^ e

  -- a power of the step is the remainder of that of the base
  power_is : (k : ℕ) → power (counting m) k ≡ q ^ k % n
  power_is zero = sym (one_mod q e l.base_least l.length_least) ∙ ap (λ (y : ℕ). y % n) (sym (pow-zero q))
  power_is (suc k) =
      ap (λ (y : ℕ). (q % n * y) % n) (power_is k)
      ∙ sym (mul-mod q (q ^ k) n)
      ∙ ap (λ (y : ℕ). y % n) (mul_comm q (q ^ k) ∙ sym (pow-suc q k))

  -- below the length it is the base's own
  pub low_small : (k : ℕ) → k < e → q ^ k < n
  low_small k short =
      let grows : q ^ suc k ≤ n = pow-le-pow_right (omega (arith, l.base_least)) short in
      let more : q ^ k * 2 ≤ q ^ suc k = subst (λ y. q ^ k * 2 ≤ y) (sym (pow-suc q k)) (mul-le-mul (le_refl (q ^ k)) l.base_least) in
      omega (arith, power_pos q k l.base_least, more, grows)

  pub low_power : (k : ℕ) → k < e → power (counting m) k ≡ q ^ k
  low_power k short = power_is k ∙ mod-eq_of_lt (low_small k short)

  -- from the length on it is 0
  pub high_power : (k : ℕ) → e ≤ k → power (counting m) k ≡ 0
  high_power k long =
      let level = power_level (counting m) l k in
      l.zero_only _ (power_code (counting m) l k) (omega (arith, level))

  -- below the length it is known by the last digits
  pub low_divided :
      (a k : ℕ) (r : Option ℕ) → a < n → k < e → Lowered q a k r → Divided (counting m) a (power (counting m) k) r
  low_divided a k None code short never =
      let level = power_level (counting m) l k in
      lt_of_not-le (λ h. never (zeros_divide q e k a (omega (arith, l.base_least)) (omega (arith, level))).1)
  low_divided a k (Some c) code short is =
      let level = power_level (counting m) l k in
      let pos = power_pos q k l.base_least in
      let least : c ≤ a = subst (λ y. c ≤ y) (mul_comm c (q ^ k) ∙ sym is) (le-mul_of_pos_right c pos) in (
        omega (arith, level, divide_zeros q e k a (omega (arith, l.base_least)) (omega arith) (ap (λ (y : ℕ). y % q ^ k) is ∙ mul-mod_right (q ^ k) c)),
        (
          lt_of_le_of_lt least code,
          ap (λ (y : ℕ). (y * c) % n) (power_is k) ∙ mul-mod_first (q ^ k) c n ∙ ap (λ (y : ℕ). y % n) (sym is)
              ∙ mod-eq_of_lt code,
        ),
      )

  -- from the length on it is 0, which divides only 0
  pub high_divided :
      (a k : ℕ) → a < n → 0 < a → e ≤ k → Divided (counting m) a (power (counting m) k) None
  high_divided a k code some long =
      let level = power_level (counting m) l k in
      let most = l.level_most a code in
      lt_of_not-le (λ h. omega (arith, some, l.zero_only a code (omega (arith, level))))
