-- The zeros at a number's end, by divisibility.
use Rattle.std.specs.Prelude.{◌≡◌, ℕ, zero, suc, ◌+◌, ◌*◌, ◌/◌, ◌%◌, ◌^◌, ◌<◌, ◌≤◌, Bool, true, false, cond, ◌==◌, ◌≢◌, refl}
use Rattle.std.specs.Int.{◌∣◌}
use Rattle.std.proofs.Common.{sym, ap, ap₂, ◌∙◌, subst, zero-mul, pow-suc, le_antisymm, le_refl, eq-zero-or-pos, mul-pos, mul_assoc, le_of_suc-le-suc, lt_of_not-le, pos_of_ne-zero, le_trans, le-mul_of_pos_right, mul-le-mul_left, lt_of_le_of_lt, inl, inr, arith, pow-add, eqb-true, eq-eqb}
use Rattle.std.proofs.Math.Nat.{mod-one, one-le-pow, pow-zero, mul-mod_right, mod-eq-zero_of_dvd, dvd_of_mod-eq-zero, dvd_of_mul-dvd-mul_left, not-suc-le_self, mod-le, pow-le-pow_right, le_of_dvd}
use Rattle.std.proofs.Math.Arith.{mod-mul}
use Rattle.scales.specs.Counting.{zeros}
use Rattle.scales.specs.Parting.{Parted}
use Rattle.scales.specs.declared.digits.Parts.{Parts}
use Rattle.scales.specs.Remainders.{multiple, of_multiple}

digit_first : (q v a : ℕ) → 0 < q → a % q ^ suc v ≡ ((a / q) % q ^ v) * q + a % q
digit_first q v a h = ap (λ (y : ℕ). a % y) (pow-suc q v) ∙ mod-mul a (one-le-pow v q h) h

-- that many zeros end a number only if the power divides it
pub zeros_divide : (q e v a : ℕ) → 0 < q → v ≤ zeros q e a → (v ≤ e) × (a % q ^ v ≡ 0)
unfolding zeros
zeros_divide q e zero a hq h = (omega arith, ap (λ (y : ℕ). a % y) (pow-zero q) ∙ mod-one a)
zeros_divide q zero (suc v) a hq h = absurd (omega arith)
zeros_divide q (suc e) (suc v) a hq h = go (a % q == 0) refl h (zeros_divide q e v (a / q) hq)
  where
    go : (t : Bool) → (a % q == 0) ≡ t → suc v ≤ cond t (suc (zeros q e (a / q))) 0 → (v ≤ zeros q e (a / q) → (v ≤ e) × ((a / q) % q ^ v ≡ 0)) → (suc v ≤ suc e) × (a % q ^ suc v ≡ 0)
    go false s k below = absurd (omega arith)
    go true s k below =
        let rest = below (omega arith) in
        (omega arith, digit_first q v a hq ∙ ap (λ (y : ℕ). y * q + a % q) rest.1 ∙ omega (arith, eqb-true (a % q) 0 s, zero-mul q))

pub divide_zeros : (q e v a : ℕ) → 0 < q → v ≤ e → a % q ^ v ≡ 0 → v ≤ zeros q e a
unfolding zeros
divide_zeros q e zero a hq h z = omega arith
divide_zeros q zero (suc v) a hq h z = absurd (omega arith)
divide_zeros q (suc e) (suc v) a hq h z =
    let s : ((a / q) % q ^ v) * q + a % q ≡ 0 = sym (digit_first q v a hq) ∙ z in
    let last : a % q ≡ 0 = omega arith in
    let front : (a / q) % q ^ v ≡ 0 = factor ((a / q) % q ^ v) (omega arith) in
    subst (λ (t : Bool). suc v ≤ cond t (suc (zeros q e (a / q))) 0) (sym (eq-eqb (a % q) 0 last))
    (omega (arith, divide_zeros q e v (a / q) hq (omega arith) front))
  where
    factor : (y : ℕ) → y * q ≡ 0 → y ≡ 0
    factor y f = elim (eq-zero-or-pos y) [ inl e ↦ e | inr k ↦ absurd (omega (arith, mul-pos k hq)) ]

-- so the zeros are known by any two facts that only they meet
pub zeros_are : (q e v a : ℕ) → 0 < q → v ≤ e → a % q ^ v ≡ 0 → (suc v ≤ e → a % q ^ suc v ≢ 0) → zeros q e a ≡ v
zeros_are q e v a hq h z never =
    le_antisymm
    (lt_or (zeros q e a) (λ k. let d = zeros_divide q e (suc v) a hq k in never d.0 d.1))
    (divide_zeros q e v a hq h z)
  where
    lt_or : (y : ℕ) → (suc v ≤ y → ⊥) → y ≤ v
    lt_or y f = le_of_suc-le-suc (lt_of_not-le f)

-- a power of the base, and a number whose last digit is not 0
pub zeros_split : (q e v u : ℕ) → 2 ≤ q → v ≤ e → 0 < u % q → zeros q e (q ^ v * u) ≡ v
zeros_split q e v u hq h hu =
    zeros_are q e v (q ^ v * u) (omega arith) h (mul-mod_right (q ^ v) u) (λ k z. omega (arith, last z))
  where
    last : (q ^ v * u) % q ^ suc v ≡ 0 → u % q ≡ 0
    last z =
        mod-eq-zero_of_dvd q (dvd_of_mul-dvd-mul_left q (one-le-pow v q (omega arith))
        (subst (λ (y : ℕ). y ∣ q ^ v * u) (pow-suc q v) (dvd_of_mod-eq-zero (q ^ suc v) z)))

-- every number with fewer than e zeros is one such
pub split_zeros :
    (q e a : ℕ) → 2 ≤ q → zeros q e a < e → (a ≡ q ^ zeros q e a * (a / q ^ zeros q e a)) × (0 < (a / q ^ zeros q e a) % q)
split_zeros q e a hq h =
    let v : ℕ = zeros q e a in
    let is = multiple (q ^ v) a (zeros_divide q e v a (omega arith) (le_refl v)).1 in
    (is, pos_of_ne-zero (λ z. not-suc-le_self v (divide_zeros q e (suc v) a (omega arith) h (more v (a / q ^ v) is z))))
  where
    more : (v u : ℕ) → a ≡ q ^ v * u → u % q ≡ 0 → a % q ^ suc v ≡ 0
    more v u e z =
        of_multiple (q ^ suc v) (u / q) a
        (e ∙ ap (λ (y : ℕ). q ^ v * y) (multiple q u z) ∙ sym (mul_assoc (q ^ v) q (u / q)) ∙ ap (λ (y : ℕ). y * (u / q)) (sym (pow-suc q v)))

-- the level of a number below the size, by any way to part it
pub parted_level : (q e a : ℕ) (p : Parts) → 2 ≤ q → a < q ^ e → Parted q q a p → (p.level < e) × (zeros q e a ≡ p.level)
parted_level q e a p hq ha parts =
    let is : a ≡ q ^ p.level * p.unit = parts.0 ∙ ap (λ (y : ℕ). y * p.unit) parts.1 in
    let low : p.level < e = lt_of_not-le (λ h. omega (arith, ha, is, most h)) in
    (low, ap (zeros q e) is ∙ zeros_split q e p.level p.unit hq (omega arith) parts.2)
  where
    some : (u : ℕ) → 0 < u % q → 1 ≤ u
    some u h = omega (arith, mod-le u q)

    most : e ≤ p.level → q ^ e ≤ q ^ p.level * p.unit
    most h = le_trans (pow-le-pow_right (omega arith) h) (le-mul_of_pos_right (q ^ p.level) (some p.unit parts.2))

-- one step of parting: a power that divides what is left goes out of it
pub shed_some :
    (q d k : ℕ) (p : Parts)
    → 0 < d
    → d ≡ q ^ k
    → Parted q (d * d) (p.power * p.unit) p
    → p.unit % d ≡ 0
    → Parted q d (p.power * p.unit) (record { level = p.level + k; power = p.power * d; unit = p.unit / d })
shed_some q d k p hd ed parts z = (
  ap (λ (y : ℕ). p.power * y) (multiple d p.unit z) ∙ sym (mul_assoc p.power d (p.unit / d)),
  ap₂ (λ (x y : ℕ). x * y) parts.1 ed ∙ sym (pow-add q p.level k),
  pos_of_ne-zero (λ w. omega (arith, parts.2, twice w)),
)
  where
    twice : (p.unit / d) % d ≡ 0 → p.unit % (d * d) ≡ 0
    twice w = mod-mul p.unit hd hd ∙ ap₂ (λ (x y : ℕ). x * d + y) w z ∙ ap (λ (x : ℕ). x + 0) (zero-mul d)

-- what goes out is no more than the number
pub shed_small : (p d u : ℕ) → u % d ≡ 0 → 0 < u → p * u < 2 ^ 32 → p * d < 2 ^ 32
shed_small p d u z h l = lt_of_le_of_lt (mul-le-mul_left p (le_of_dvd h (dvd_of_mod-eq-zero d z))) l
