-- Base 2: a number's trailing zeros, and its parts.
use Rattle.std.proofs.Common.{◌≡◌, ℕ, zero, suc, ◌*◌, ◌/◌, ◌%◌, ◌^◌, ◌<◌, Bool, cond, eqb, sym, refl, ap, ◌∙◌, subst, mod-eq_of_lt, one-mul, lt_of_not-le, arith, ne_eqb}
use lib.Count.{count_trailing_zeros, under}
use lib.Pow.{pow-lt}
use Rattle.scales.specs.Counting.{zeros}
use Rattle.scales.specs.Parting.{Parted}
use Rattle.scales.specs.Zeros.{zeros_divide, split_zeros}

trailing_zeros : (k a : ℕ) → count_trailing_zeros k a ≡ zeros 2 k a
unfolding count_trailing_zeros zeros
trailing_zeros zero a = refl
trailing_zeros (suc k) a = ap (under (a % 2)) (trailing_zeros k (a / 2)) ∙ digit (a % 2) (zeros 2 k (a / 2))
  where
    digit : (d t : ℕ) → under d t ≡ cond (eqb d 0) (suc t) 0
    digit zero t = refl
    digit (suc d) t = ap (λ (b : Bool). cond b (suc t) 0) (sym (ne_eqb (suc d) 0 (λ e. omega arith)))

trailing_low : (a : ℕ) → 0 < a → a < 2 ^ 32 → count_trailing_zeros 32 a < 32
trailing_low a h l =
    subst (λ (v : ℕ). v < 32) (sym (trailing_zeros 32 a))
    (lt_of_not-le (λ k. omega (arith, sym (mod-eq_of_lt l) ∙ (zeros_divide 2 32 32 a (omega arith) k).1)))

-- the parts of a number in base 2, as shifts make them
pub trailing_parts :
    (a : ℕ) → 0 < a → a < 2 ^ 32
    → Parted 2 2 a (record { level = count_trailing_zeros 32 a; power = (1 * 2 ^ count_trailing_zeros 32 a) % 2 ^ 32; unit = a / 2 ^ count_trailing_zeros 32 a })
trailing_parts a h l =
    let low = trailing_low a h l in
    let e = sym (trailing_zeros 32 a) in
    let s = split_zeros 2 32 a (omega arith) (subst (λ (v : ℕ). v < 32) (sym e) low) in
    let t : (a ≡ 2 ^ count_trailing_zeros 32 a * (a / 2 ^ count_trailing_zeros 32 a)) × (0 < (a / 2 ^ count_trailing_zeros 32 a) % 2) =
    subst (λ (v : ℕ). (a ≡ 2 ^ v * (a / 2 ^ v)) × (0 < (a / 2 ^ v) % 2)) e s in
    let power : (1 * 2 ^ count_trailing_zeros 32 a) % 2 ^ 32 ≡ 2 ^ count_trailing_zeros 32 a =
    ap (λ (y : ℕ). y % 2 ^ 32) (one-mul (2 ^ count_trailing_zeros 32 a)) ∙ mod-eq_of_lt (pow-lt low) in
    (t.0 ∙ ap (λ (y : ℕ). y * (a / 2 ^ count_trailing_zeros 32 a)) (sym power), power, t.1)
