-- Remainders: what a sum and a product keep, and Newton's step.
use Rattle.std.specs.Prelude.{◌≡◌, ℕ, zero, suc, ◌+◌, ◌-◌, ◌*◌, ◌/◌, ◌%◌, ◌^◌, ◌<◌, ◌≤◌}
use Rattle.std.specs.Int.{◌∣◌}
use Rattle.std.proofs.Common.{sym, ap, ◌∙◌, subst, add_comm, add-zero, mul-add, mul_comm, mul-suc, suc-mul, mul-zero, mod-lt, pow-suc, add-sub_of_le, lt_of_lt_of_le, arith, pow-add}
use Rattle.std.proofs.lemmas.Nat.{mul-mod_second}
use Rattle.std.proofs.Math.Nat.{add-mod-mod, mul-div_cancel', dvd_of_mod-eq-zero, zero-mod, mul-mod_right, mod-mod_of_dvd, dvd-mul_right, le_dest}

pub remainder_below : (n x r m : ℕ) → 0 < n → n ≤ m → r ≡ x % n → r < m
remainder_below n x r m hn h e = subst (λ (y : ℕ). y < m) (sym e) (lt_of_lt_of_le (mod-lt x hn) h)

-- a remainder of a number that is known by another name
pub read : (n : ℕ) {x y r : ℕ} → r ≡ x % n → x ≡ y → r ≡ y % n
read n e f = e ∙ ap (λ (x : ℕ). x % n) f

-- a multiple is the divisor times the quotient
pub multiple : (d a : ℕ) → a % d ≡ 0 → a ≡ d * (a / d)
multiple d a h = sym (mul-div_cancel' d (dvd_of_mod-eq-zero d h))

pub of_multiple : (d k a : ℕ) → a ≡ d * k → a % d ≡ 0
of_multiple d k a e = ap (λ (x : ℕ). x % d) e ∙ mul-mod_right d k

-- a power of at most the size divides the size
pub power_divides : (q v e : ℕ) → v ≤ e → q ^ v ∣ q ^ e
power_divides q v e h =
    let k = le_dest h in
    subst (λ (x : ℕ). q ^ v ∣ x) (sym (pow-add q v k.0) ∙ ap (λ (x : ℕ). q ^ x) k.1) (dvd-mul_right (q ^ v) (q ^ k.0))

pub power_mod : (q v e a : ℕ) → v ≤ e → (a % q ^ e) % q ^ v ≡ a % q ^ v
power_mod q v e a h = mod-mod_of_dvd (q ^ v) a (power_divides q v e h)

-- what a higher power divides, a lower one does
pub lower_power : (q v w a : ℕ) → v ≤ w → a % q ^ w ≡ 0 → a % q ^ v ≡ 0
lower_power q v w a h z = sym (power_mod q v w a h) ∙ ap (λ (x : ℕ). x % q ^ v) z ∙ zero-mod (q ^ v)

-- agreeing by a higher power, two numbers agree by a lower one
pub lower_same : (q v w a b : ℕ) → v ≤ w → a % q ^ w ≡ b % q ^ w → a % q ^ v ≡ b % q ^ v
lower_same q v w a b h s = sym (power_mod q v w a h) ∙ ap (λ (x : ℕ). x % q ^ v) s ∙ power_mod q v w b h

-- a power of 2 or more is above its exponent
pub above_exponent : (e : ℕ) → e < 2 ^ e
above_exponent zero = omega arith
above_exponent (suc e) = omega (arith, above_exponent e, pow-suc 2 e)

-- Newton's step on a product p that is 1 up to a multiple of a square root of d
square_step : (r s : ℕ) → suc r * (2 + s) + r * r ≡ suc r * (suc r + s) + 1
square_step r s = simp (suc-mul, mul-add, mul-suc) (omega (arith, mul_comm r s))

pub newton : (d n r : ℕ) → n % d ≡ 0 → (r * r) % d ≡ 0 → suc r ≤ n → (suc r * (n + 2 - suc r)) % d ≡ 1 % d
newton d n r hn hr h =
    let s : ℕ = n - suc r in
    let back : suc r + s ≡ n = add-sub_of_le h in
    let there : n + 2 - suc r ≡ 2 + s = omega arith in
    let drop : (k : ℕ) → k % d ≡ 0 → (x : ℕ) → (x + k) % d ≡ x % d =
    λ k z x. sym (add-mod-mod x k d) ∙ ap (λ (y : ℕ). (x + y) % d) z ∙ ap (λ (y : ℕ). y % d) (add-zero x) in
    let whole : (suc r * n) % d ≡ 0 = sym (mul-mod_second (suc r) n d) ∙ ap (λ (y : ℕ). (suc r * y) % d) hn ∙ ap (λ (y : ℕ). y % d) (mul-zero (suc r)) ∙ zero-mod d in
    ap (λ (y : ℕ). (suc r * y) % d) there
    ∙ sym (drop (r * r) hr (suc r * (2 + s)))
    ∙ ap (λ (y : ℕ). y % d) (square_step r s ∙ ap (λ (y : ℕ). suc r * y + 1) back ∙ add_comm (suc r * n) 1)
    ∙ drop (suc r * n) whole 1
