-- A quotient by one multiplication: with a ratio that is rounded down, it is right or one too small.
use Rattle.std.proofs.Common.{◌≡◌, ℕ, ◌+◌, ◌-◌, ◌*◌, ◌/◌, ◌%◌, ◌<◌, ◌≤◌, sym, ap, ◌∙◌, subst, arith, one-mul}
use Rattle.std.proofs.Math.Nat.{div-mul-le_self, le_of_mul-le-mul_right, mul-le-mul_left, mul-le-mul_right, mul-lt-mul_of_pos_right, lt-div-mul-add, lt_of_mul-lt-mul_right, mul-add-mod_self_right}

-- what a quotient n of p by d leaves is the remainder, or d more
pub record Near (p d n : ℕ) : Type 0 where
  pub most : n * d ≤ p
  pub small : p - n * d < d + d
  pub same : (p - n * d) % d ≡ p % d

-- `r` is how often d goes into b times w, rounded down, and n the quotient of b times x that it gives
pub near :
    (w d r b x p n : ℕ)
    → 0 < d
    → x < w
    → r * d ≤ b * w
    → b * w ≤ r * d + d
    → p ≡ b * x
    → n ≡ x * r / w
    → Near p d n
near w d r b x p n some within low high product is =
    let above : 0 < w = omega (arith, within) in
    let floor : n * w ≤ x * r = subst (λ (q : ℕ). q * w ≤ x * r) (sym is) (div-mul-le_self (x * r) w) in
    let ceiling : x * r < n * w + w =
    let h = lt-div-mul-add {a = x * r} {b = w} above in subst (λ (q : ℕ). x * r < q * w + w) (sym is) h
    in
    let least : n * d ≤ b * x =
    let a : n * w * d ≤ x * r * d = mul-le-mul_right d floor in
    let c : x * (r * d) ≤ x * (b * w) = mul-le-mul_left x low in
    le_of_mul-le-mul_right {k = w} (grind (arith, a, c)) above
    in
    let most : b * x < n * d + (d + d) =
    let a : x * (b * w) ≤ x * (r * d + d) = mul-le-mul_left x high in
    let c : (x * r + x) * d < (n * w + w + w) * d = mul-lt-mul_of_pos_right (omega (arith, ceiling, within)) some in
    lt_of_mul-lt-mul_right w (grind (arith, a, c))
    in
    record {
      most = omega (arith, least, product);
      small = omega (arith, least, most, product);
      same = sym (mul-add-mod_self_right n d (p - n * d)) ∙ ap (λ (y : ℕ). y % d) (omega (arith, least, product));
    }

-- the ratio of b is exact up to what division leaves
pub ratio_low : (w d r b : ℕ) → r ≡ b * w / d → r * d ≤ b * w
ratio_low w d r b is = subst (λ (q : ℕ). q * d ≤ b * w) (sym is) (div-mul-le_self (b * w) d)

pub ratio_high : (w d r b : ℕ) → 0 < d → r ≡ b * w / d → b * w ≤ r * d + d
ratio_high w d r b some is =
    let h = lt-div-mul-add {a = b * w} {b = d} some in
    subst (λ (q : ℕ). b * w ≤ q * d + d) (sym is) (omega (arith, h))

-- and that of 1 may be one below it
pub reciprocal_low : (w d r : ℕ) → r ≡ (w - 1) / d → r * d ≤ 1 * w
reciprocal_low w d r is =
    let h = div-mul-le_self (w - 1) d in
    let one = one-mul w in
    subst (λ (q : ℕ). q * d ≤ 1 * w) (sym is) (omega (arith, h, one))

pub reciprocal_high : (w d r : ℕ) → 0 < d → 0 < w → r ≡ (w - 1) / d → 1 * w ≤ r * d + d
reciprocal_high w d r some above is =
    let h = lt-div-mul-add {a = w - 1} {b = d} some in
    let one = one-mul w in
    subst (λ (q : ℕ). 1 * w ≤ q * d + d) (sym is) (omega (arith, h, one, above))
