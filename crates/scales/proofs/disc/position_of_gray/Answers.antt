use Rattle.std.proofs.Common.{◌≡◌, ℕ, zero, suc, ◌+◌, ◌/◌, ◌^◌, ◌<◌, [], ◌∷◌, get_or, bit_xor, sym, refl, ap, ap₂, ◌∙◌, pow-suc, add-one, arith}
use Rattle.scales.specs.Numbering.{ungray}
use Rattle.scales.specs.GrayCode.{ungray_one, ungray_double}
use Rattle.scales.proofs.disc.position_of_gray.Goals as goal

-- how many digits the position has when its turn begins
digits_at : (i : ℕ) → i < 5 → get_or {A = ℕ} (1 ∷ 2 ∷ 4 ∷ 8 ∷ 16 ∷ []) i 0 ≡ 2 ^ i
digits_at zero h = refl
digits_at (suc zero) h = refl
digits_at (suc (suc zero)) h = refl
digits_at (suc (suc (suc zero))) h = refl
digits_at (suc (suc (suc (suc zero)))) h = refl
digits_at (suc (suc (suc (suc (suc i))))) h = absurd (omega arith)

pub loop-digits-init : goal.loop-digits-init
loop-digits-init c = sym (ungray_one c.args.code)

pub loop-digits-preserved : goal.loop-digits-preserved
loop-digits-preserved c =
    let i : ℕ = c.loop-digits.digits-index in
    let double : 2 ^ i + 2 ^ i ≡ 2 ^ (i + 1) = omega (arith, pow-suc 2 i, ap (λ (n : ℕ). 2 ^ n) (add-one i)) in
    ap₂ (λ (p k : ℕ). bit_xor p (p / 2 ^ k)) c.loop-digits.invariant (digits_at i c.loop-digits-test.true)
    ∙ ungray_double (2 ^ i) c.args.code
    ∙ ap (λ (k : ℕ). ungray k c.args.code) double
