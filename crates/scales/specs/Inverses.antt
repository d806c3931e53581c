-- Inverses modulo a power of the base: a digit's, by a table, and a number's, by Newton's doubling.
use Rattle.std.specs.Prelude.{◌≡◌, ℕ, zero, suc, ◌+◌, ◌-◌, ◌*◌, ◌/◌, ◌%◌, ◌^◌, ◌<◌, ◌≤◌, min, Bool, true, false, ◌&&◌, T, ◌==◌}
use Rattle.std.proofs.Common.{sym, ap, ap₂, ◌∙◌, subst, subst₂, mul_assoc, mul_comm, one-mul, mul-zero, div-add-mod', mod-lt, mod-eq_of_lt, pow-suc, eq-or-lt_of_le, mul-le-mul, lt_of_le_of_lt, le_trans, inl, inr, arith, eqb→eq, lit<, pow-add}
use Rattle.std.proofs.Math.Nat.{mul-mul-mul_comm, zero-mod, mod-eq-zero_of_dvd, pow-zero, min-eq_left, min-eq_right, two-pow-succ, one-le-pow, pow-le-pow_left, pow-le-pow_right}
use Rattle.std.proofs.lemmas.Nat.{mul-mod, mul-mod_first, mul-mod_second}
use Rattle.scales.specs.Remainders.{of_multiple, power_divides, power_mod, lower_power, above_exponent, newton}

-- every digit of base q but 0 has its power q - 2 for an inverse
abbrev pub Inverted : ℕ → Type 0
Inverted q = (d : ℕ) → 0 < d → d < q → (d * d ^ (q - 2)) % q ≡ 1

-- the table of that, for the digits from 1 to d
abbrev pub tabled : ℕ → ℕ → Bool
tabled q zero = true
tabled q (suc d) = (suc d * suc d ^ (q - 2)) % q == 1 && tabled q d

-- two tests that pass
pub both : (a b : Bool) → T (a && b) → T a × T b
both true true t = (tt, tt)
both true false t = absurd t
both false b t = absurd t

look_up : (q m : ℕ) → T (tabled q m) → (d : ℕ) → 0 < d → d ≤ m → (d * d ^ (q - 2)) % q ≡ 1
look_up q zero t d h l = absurd (omega arith)
look_up q (suc m) t d h l =
    let here = both ((suc m * suc m ^ (q - 2)) % q == 1) (tabled q m) t in
    elim (eq-or-lt_of_le l) [
      | inl e ↦ subst (λ (k : ℕ). (k * k ^ (q - 2)) % q ≡ 1) (sym e) (eqb→eq ((suc m * suc m ^ (q - 2)) % q) 1 here.0)
      | inr k ↦ look_up q m here.1 d h (omega arith)
    ]

pub by_table : (q : ℕ) → T (tabled q (q - 1)) → Inverted q
by_table q t d h l = look_up q (q - 1) t d h (omega arith)

-- so a number's last digit gives an inverse as far as that digit
pub last_inverse : (q w : ℕ) → 2 ≤ q → Inverted q → 0 < w % q → (w * (w % q) ^ (q - 2)) % q ≡ 1
last_inverse q w hq inverted h =
    sym (mul-mod_first w ((w % q) ^ (q - 2)) q) ∙ inverted (w % q) h (mod-lt w (omega arith))

-- that power is small in a small base
pub small_power : (d q : ℕ) → d < q → q ≤ 7 → d ^ (q - 2) < 2 ^ 31
small_power d q h l =
    lt_of_le_of_lt
    (le_trans (pow-le-pow_left {n = d} {m = 7} (omega arith) (q - 2)) (pow-le-pow_right {n = 7} (omega arith) {i = q - 2} {j = 5} (omega arith)))
    (lit< tt)

-- and a product is no multiple of q unless a factor is
pub prime_like : (q : ℕ) → 2 ≤ q → Inverted q → (x y : ℕ) → 0 < x % q → (x * y) % q ≡ 0 → y % q ≡ 0
prime_like q hq inverted x y hx z =
    let i : ℕ = (x % q) ^ (q - 2) in
    let one : (x * i) % q ≡ 1 = last_inverse q x hq inverted hx in
    let again : (x * i) * y ≡ i * (x * y) = ap (λ (k : ℕ). k * y) (mul_comm x i) ∙ mul_assoc i x y in
    ap (λ (k : ℕ). k % q) (sym (one-mul y)) ∙ ap (λ (k : ℕ). (k * y) % q) (sym one) ∙ mul-mod_first (x * i) y q
    ∙ ap (λ (k : ℕ). k % q) again ∙ sym (mul-mod_second i (x * y) q) ∙ ap (λ (k : ℕ). (i * k) % q) z
    ∙ ap (λ (k : ℕ). k % q) (mul-zero i) ∙ zero-mod q

-- `x` is an inverse of `w` as far as the low m digits
abbrev pub Inverse : ℕ → ℕ → ℕ → ℕ → Type 0
Inverse q m w x = (w * x) % q ^ m ≡ 1 % q ^ m

-- Newton's step, from an inverse of `w` that is right in the low j digits
abbrev pub stepped : ℕ → ℕ → ℕ → ℕ
stepped n w x = (x * (n + 2 - (w * x) % n)) % n

pub power_two : (q m : ℕ) → 2 ≤ q → 1 ≤ m → 2 ≤ q ^ m
power_two q zero hq h = absurd (omega arith)
power_two q (suc m) hq h =
    let p = one-le-pow m q (omega arith) in
    omega (arith, pow-suc q m, mul-le-mul p hq)

pub one_mod : (q m : ℕ) → 2 ≤ q → 1 ≤ m → 1 % q ^ m ≡ 1
one_mod q m hq h = mod-eq_of_lt (power_two q m hq h)

low_digits : (q m e w y : ℕ) → m ≤ e → (w * (y % q ^ e)) % q ^ m ≡ (w * y) % q ^ m
low_digits q m e w y h =
    sym (mul-mod_second w (y % q ^ e) (q ^ m)) ∙ ap (λ (k : ℕ). (w * k) % q ^ m) (power_mod q m e y h) ∙ mul-mod_second w y (q ^ m)

-- the product less 1 is a multiple of the power so far, and its square one of the power to come
less_one : (q m p : ℕ) → 1 ≤ p → p % q ^ m ≡ 1 → ((p - 1) * (p - 1)) % q ^ (m + m) ≡ 0
less_one q m p h e =
    let k = p / q ^ m in
    let is : p - 1 ≡ q ^ m * k = omega (arith, div-add-mod' p (q ^ m), mul_comm (q ^ m) k) in
    of_multiple (q ^ (m + m)) (k * k) ((p - 1) * (p - 1))
    (ap (λ (y : ℕ). y * y) is ∙ mul-mul-mul_comm (q ^ m) k (q ^ m) k ∙ ap (λ (y : ℕ). y * (k * k)) (sym (pow-add q m m)))

doubles : (q e m d w x : ℕ) → 2 ≤ q → 1 ≤ m → m ≤ e → d ≤ m + m → d ≤ e → Inverse q m w x → Inverse q d w (stepped (q ^ e) w x)
doubles q e m d w x hq hm me dm de inv =
    let n : ℕ = q ^ e in
    let p : ℕ = (w * x) % n in
    let one : p % q ^ m ≡ 1 = power_mod q m e (w * x) me ∙ inv ∙ one_mod q m hq hm in
    let pos : 1 ≤ p = positive p (q ^ m) one in
    let back : suc (p - 1) ≡ p = omega arith in
    let most : p < n = mod-lt (w * x) (one-le-pow e q (omega arith)) in
    let step : (suc (p - 1) * (n + 2 - suc (p - 1))) % q ^ d ≡ 1 % q ^ d =
    newton (q ^ d) n (p - 1) (mod-eq-zero_of_dvd (q ^ d) (power_divides q d e de))
    (lower_power q d (m + m) ((p - 1) * (p - 1)) dm (less_one q m p pos one)) (omega arith) in
    low_digits q d e w (x * (n + 2 - p)) de
    ∙ ap (λ (y : ℕ). y % q ^ d) (sym (mul_assoc w x (n + 2 - p)))
    ∙ sym (mul-mod_first (w * x) (n + 2 - p) (q ^ d))
    ∙ ap (λ (y : ℕ). (y * (n + 2 - p)) % q ^ d) (sym (power_mod q d e (w * x) de))
    ∙ mul-mod_first p (n + 2 - p) (q ^ d)
    ∙ subst (λ (y : ℕ). (y * (n + 2 - y)) % q ^ d ≡ 1 % q ^ d) back step
  where
    positive : (p d : ℕ) → p % d ≡ 1 → 1 ≤ p
    positive zero d e = absurd (omega (arith, zero-mod d, e))
    positive (suc p) d e = omega arith

-- what is right in j of at most e digits is right in twice as many after a step
pub doubled :
    (q e j w x : ℕ) → 2 ≤ q → 1 ≤ e → 1 ≤ j → Inverse q (min j e) w x → Inverse q (min (j + j) e) w (stepped (q ^ e) w x)
doubled q e j w x hq he hj inv =
    doubles q e (min j e) (min (j + j) e) w x hq (omega arith) (omega arith) (omega arith) (omega arith) inv

-- the same step, as code takes it: each number is known by an equation
pub turned :
    (q e j w x : ℕ) {u v near t r s y : ℕ}
    → 2 ≤ q
    → 1 ≤ e
    → 1 ≤ j
    → u ≡ w
    → v ≡ x
    → near ≡ (u * v) % q ^ e
    → t ≡ near
    → r ≡ x
    → s ≡ q ^ e
    → y ≡ (r * (s + 2 - t)) % q ^ e
    → Inverse q (min j e) w x
    → Inverse q (min (j * 2) e) w y
turned q e j w x {u} {v} {near} {t} {r} {s} {y} hq he hj eu ev en et er es ey inv =
    let product : t ≡ (w * x) % q ^ e = et ∙ en ∙ ap₂ (λ (a b : ℕ). (a * b) % q ^ e) eu ev in
    let is : y ≡ stepped (q ^ e) w x =
    ey ∙ ap₂ (λ (a b : ℕ). (a * (b + 2 - t)) % q ^ e) er es ∙ ap (λ (k : ℕ). (x * (q ^ e + 2 - k)) % q ^ e) product in
    let two : j + j ≡ j * 2 = omega arith in
    subst (λ (m : ℕ). Inverse q (min m e) w y) two
    (subst (λ (z : ℕ). Inverse q (min (j + j) e) w z) (sym is) (doubled q e j w x hq he hj inv))

-- the same step by factors that are read first
pub turned_reading :
    (q e j w x : ℕ) {size near y : ℕ}
    → 2 ≤ q
    → 1 ≤ e
    → 1 ≤ j
    → size ≡ q ^ e
    → near ≡ ((w % q ^ e) * (x % q ^ e)) % q ^ e
    → y ≡ ((x % q ^ e) * ((size + 2 - near) % q ^ e)) % q ^ e
    → Inverse q (min j e) w x
    → Inverse q (min (j * 2) e) w y
turned_reading q e j w x {size} {near} {y} hq he hj es en ey inv =
    let n : ℕ = q ^ e in
    let is : stepped n w x ≡ y =
    sym
    (ey ∙ sym (mul-mod x (size + 2 - near) n)
    ∙ ap₂ (λ (a b : ℕ). (x * (a + 2 - b)) % n) es (en ∙ sym (mul-mod w x n))) in
    let two : j + j ≡ j * 2 = omega arith in
    subst₂ (λ (k z : ℕ). Inverse q (min k e) w z) two is (doubled q e j w x hq he hj inv)

-- an inverse of the last digit
pub begun : (q e w x : ℕ) → 1 ≤ e → 2 ≤ q → (w * x) % q ≡ 1 → Inverse q (min 1 e) w x
begun q e w x he hq h =
    let one : q ^ 1 ≡ q = pow-suc q 0 ∙ ap (λ (y : ℕ). y * q) (pow-zero q) ∙ one-mul q in
    subst (λ (m : ℕ). Inverse q m w x) (sym (min-eq_left he))
    (subst (λ (y : ℕ). (w * x) % y ≡ 1 % y) (sym one) (h ∙ sym (mod-eq_of_lt hq)))

-- all digits
pub ended : (q e j w x : ℕ) → e ≤ j → Inverse q (min j e) w x → Inverse q e w x
ended q e j w x h inv = subst (λ (m : ℕ). Inverse q m w x) (min-eq_right h) inv

-- a number whose last digit is not 0 has an inverse
pub inverse : (q e w : ℕ) → 2 ≤ q → 1 ≤ e → Inverted q → 0 < w % q → (x : ℕ) × Inverse q e w x
inverse q e w hq he inverted hw =
    let last = rounds e in
    (last.0, ended q e (2 ^ e) w last.0 (omega (arith, above_exponent e)) last.1)
  where
    rounds : (f : ℕ) → (x : ℕ) × Inverse q (min (2 ^ f) e) w x
    rounds zero =
        ((w % q) ^ (q - 2), begun q e w ((w % q) ^ (q - 2)) he hq (last_inverse q w hq inverted hw))
    rounds (suc f) =
        let x = rounds f in (
          stepped (q ^ e) w x.0,
          subst (λ (m : ℕ). Inverse q (min m e) w (stepped (q ^ e) w x.0)) (sym (two-pow-succ f))
              (doubled q e (2 ^ f) w x.0 hq he (one-le-pow f 2 (omega arith)) x.1),
        )
