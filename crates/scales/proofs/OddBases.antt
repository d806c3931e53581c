-- The numbers of an odd base are fit.
use Rattle.std.specs.Prelude.{◌≡◌, ℕ, ◌+◌, ◌-◌, ◌%◌, ◌^◌, ◌<◌, ◌≤◌}
use Rattle.std.proofs.Common.{sym, subst, mod-lt, lt_of_lt_of_le, lit≤, arith}
use Rattle.std.proofs.Math.Nat.{one-le-pow}
use Rattle.scales.specs.declared.prime.OddBase.{OddBase}
use Rattle.scales.specs.Inverses.{small_power}
use Rattle.scales.specs.Kinds.{prime_mark}
use Rattle.scales.specs.Known.{fits}
use Rattle.scales.specs.Whole.{Fit}

pub odd_fit : (s : OddBase) → Fit (prime_mark s.base s.length) × (s.base ≤ 7)
odd_fit s = fits (prime_mark s.base s.length) s.numbers

pub odd_power : (s : OddBase) (digits : ℕ) {power : ℕ} → power ≡ s.base ^ digits → 0 < power
odd_power s digits is = subst (λ (n : ℕ). 0 < n) (sym is) (one-le-pow digits s.base (omega (arith, (odd_fit s).0.base_least)))

pub odd_size : (s : OddBase) → 0 < s.size
odd_size s = odd_power s s.length s.whole

-- twice the size is no more than 32 bits hold
pub odd_twice : (s : OddBase) → s.size + s.size ≤ 2 ^ 32
odd_twice s = omega (arith, (odd_fit s).0.size_most, s.whole)

-- the power of a digit that is its inverse is small
pub odd_inverse : (s : OddBase) (unit : ℕ) → (unit % s.base) ^ (s.base - 2) < 2 ^ 32
odd_inverse s unit =
    let fit = odd_fit s in
    let digit : unit % s.base < s.base = mod-lt unit (omega (arith, fit.0.base_least)) in
    let small = small_power (unit % s.base) s.base digit fit.1 in
    lt_of_lt_of_le small (lit≤ tt)
