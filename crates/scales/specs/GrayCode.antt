-- The reflected Gray code and its positions undo each other.
use Rattle.std.specs.Prelude.{◌≡◌, ℕ, zero, suc, ◌+◌, ◌/◌, ◌%◌, ◌^◌, ◌<◌, ◌≤◌, bit_xor, refl}
use Rattle.std.proofs.Common.{sym, ap, ap₂, ◌∙◌, subst, add-zero, add-suc, pow-suc, div-lt_iff_lt-mul, div-le_self, mul_comm, div-one, lt_of_le_of_lt, mod-eq_of_lt, mod-lt, zero-add, suc-add, le-add_right, lt_of_lt_of_le, one-add, arith, pow_mono, pow_pos, shr-shr}
use Rattle.std.proofs.Math.Nat.{zero-div, div-div-eq-div-mul, le_dest}
use Rattle.std.proofs.Math.Arith.{lt-one}
use Rattle.std.specs.Int.Bits.{xor_assoc, xor_self, xor_zero_r}
use Rattle.std.proofs.lemmas.Nat.{xor_comm, xor_shr, xor_lt}
use Rattle.scales.specs.Numbering.{gray, ungray}

half_below : (k c : ℕ) → c < 2 ^ suc k → c / 2 < 2 ^ k
half_below k c h = (div-lt_iff_lt-mul (omega arith)).1 (subst (λ (x : ℕ). c < x) (pow-suc 2 k) h)

-- one digit more changes nothing
pub ungray_more : (k c : ℕ) → c < 2 ^ k → ungray k c ≡ ungray (suc k) c
unfolding ungray
ungray_more zero c h = sym (ap (λ (x : ℕ). bit_xor x 0) (lt-one h))
ungray_more (suc k) c h = ap (bit_xor c) (ungray_more k (c / 2) (half_below k c h))

-- nor do more
pub ungray_most : (k j c : ℕ) → c < 2 ^ k → ungray k c ≡ ungray (k + j) c
ungray_most k zero c h = ap (λ (x : ℕ). ungray x c) (sym (add-zero k))
ungray_most k (suc j) c h =
    ungray_most k j c h
    ∙ ungray_more (k + j) c (below k j c h)
    ∙ ap (λ (x : ℕ). ungray x c) (sym (add-suc k j))
  where
    below : (k j c : ℕ) → c < 2 ^ k → c < 2 ^ (k + j)
    below k j c h = lt_of_lt_of_le h (pow_mono (le-add_right k j))

-- a Gray code's position is itself, with the position of its half taken out
position_half : (k c : ℕ) → c < 2 ^ k → ungray k c ≡ bit_xor c (ungray k (c / 2))
unfolding ungray
position_half k c h = ungray_more k c h

ungray_xor : (k a b : ℕ) → ungray k (bit_xor a b) ≡ bit_xor (ungray k a) (ungray k b)
unfolding ungray
ungray_xor zero a b = refl
ungray_xor (suc k) a b =
    ap (bit_xor (bit_xor a b)) (ap (ungray k) (xor_shr a b 1) ∙ ungray_xor k (a / 2) (b / 2))
    ∙ xor_swap a b (ungray k (a / 2)) (ungray k (b / 2))
  where
    xor_swap : (a b c d : ℕ) → bit_xor (bit_xor a b) (bit_xor c d) ≡ bit_xor (bit_xor a c) (bit_xor b d)
    xor_swap a b c d =
        xor_assoc a b (bit_xor c d)
        ∙ ap (bit_xor a) (sym (xor_assoc b c d) ∙ ap (λ (x : ℕ). bit_xor x d) (xor_comm b c) ∙ xor_assoc c b d)
        ∙ sym (xor_assoc a c (bit_xor b d))

ungray_half : (k c : ℕ) → ungray k c / 2 ≡ ungray k (c / 2)
unfolding ungray
ungray_half zero c = refl
ungray_half (suc k) c = xor_shr c (ungray k (c / 2)) 1 ∙ ap (bit_xor (c / 2)) (ungray_half k (c / 2))

twice_out : (a b : ℕ) → bit_xor (bit_xor a b) b ≡ a
twice_out a b = xor_assoc a b b ∙ ap (bit_xor a) (xor_self b) ∙ xor_zero_r a

pub gray_ungray : (k c : ℕ) → c < 2 ^ k → gray (ungray k c) ≡ c
gray_ungray k c h =
    ap₂ bit_xor (position_half k c h) (ungray_half k c) ∙ twice_out c (ungray k (c / 2))

pub ungray_gray : (k p : ℕ) → p < 2 ^ k → ungray k (gray p) ≡ p
ungray_gray k p h =
    ungray_xor k p (p / 2) ∙ ap (λ (x : ℕ). bit_xor x (ungray k (p / 2))) (position_half k p h) ∙ twice_out p (ungray k (p / 2))

pub gray_below : (k p : ℕ) → p < 2 ^ k → gray p < 2 ^ k
gray_below k p h = xor_lt k p (p / 2) h (lt_of_le_of_lt (div-le_self p 2) h)

pub ungray_below : (k c : ℕ) → c < 2 ^ k → ungray k c < 2 ^ k
unfolding ungray
ungray_below zero c h = omega arith
ungray_below (suc k) c h =
    xor_lt (suc k) c (ungray k (c / 2)) h (omega (arith, ungray_below k (c / 2) (half_below k c h), pow-suc 2 k))

-- the position of j + k digits, by the higher and the lower
ungray_add : (j k c : ℕ) → ungray (j + k) c ≡ bit_xor (ungray j c) (ungray k (c / 2 ^ j))
unfolding ungray
ungray_add zero k c = ap₂ ungray (zero-add k) (sym (div-one c))
ungray_add (suc j) k c =
    ap (λ (x : ℕ). ungray x c) (suc-add j k)
    ∙ ap (bit_xor c) (ungray_add j k (c / 2) ∙ ap (λ (x : ℕ). bit_xor (ungray j (c / 2)) (ungray k x)) (shr-shr c 1 j ∙ ap (λ (x : ℕ). c / 2 ^ x) (one-add j)))
    ∙ sym (xor_assoc c (ungray j (c / 2)) (ungray k (c / 2 ^ suc j)))

ungray_shr : (k c j : ℕ) → ungray k c / 2 ^ j ≡ ungray k (c / 2 ^ j)
unfolding ungray
ungray_shr zero c j = zero-div (2 ^ j)
ungray_shr (suc k) c j =
    xor_shr c (ungray k (c / 2)) j
    ∙ ap (bit_xor (c / 2 ^ j)) (ungray_shr k (c / 2) j ∙ ap (ungray k) (div-div-eq-div-mul c 2 (2 ^ j) ∙ ap (λ (x : ℕ). c / x) (mul_comm 2 (2 ^ j)) ∙ sym (div-div-eq-div-mul c (2 ^ j) 2)))

-- a step of the code: twice as many digits
pub ungray_double : (k c : ℕ) → bit_xor (ungray k c) (ungray k c / 2 ^ k) ≡ ungray (k + k) c
ungray_double k c = ap (bit_xor (ungray k c)) (ungray_shr k c k) ∙ sym (ungray_add k k c)

pub ungray_one : (c : ℕ) → ungray 1 c ≡ c
unfolding ungray
ungray_one c = xor_zero_r c

-- 32 digits in five steps
pub ungray_32 :
    (c : ℕ)
    → let p₂ : ℕ = bit_xor c (c / 2) in
    let p₄ : ℕ = bit_xor p₂ (p₂ / 4) in
    let p₈ : ℕ = bit_xor p₄ (p₄ / 16) in
    let p₁₆ : ℕ = bit_xor p₈ (p₈ / 256) in
    bit_xor p₁₆ (p₁₆ / 65536) ≡ ungray 32 c
ungray_32 c = step 16 (step 8 (step 4 (step 2 (step 1 (sym (ungray_one c))))))
  where
    step : (k : ℕ) {p : ℕ} → p ≡ ungray k c → bit_xor p (p / 2 ^ k) ≡ ungray (k + k) c
    step k e = ap (λ (x : ℕ). bit_xor x (x / 2 ^ k)) e ∙ ungray_double k c

-- which is the position of any code of fewer
pub ungray_of_32 : (k c : ℕ) → k ≤ 32 → c < 2 ^ k → ungray 32 c ≡ ungray k c
ungray_of_32 k c h l =
    let j = le_dest h in
    ap (λ (x : ℕ). ungray x c) (sym j.1) ∙ sym (ungray_most k j.0 c l)

-- a position is a code of counting
pub position_read : (k c p : ℕ) → p ≡ ungray k (c % 2 ^ k) → p % 2 ^ k ≡ ungray k (c % 2 ^ k)
position_read k c p e = ap (λ (x : ℕ). x % 2 ^ k) e ∙ mod-eq_of_lt (ungray_below k (c % 2 ^ k) (mod-lt c (pow_pos k)))
