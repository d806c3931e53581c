use Rattle.std.proofs.Common.{◌≡◌, ℕ, ◌^◌, ◌<◌, ◌≤◌, sym, subst₂, arith}
use Rattle.std.proofs.Math.Nat.{pow-le-pow_right}
use Rattle.scale.proofs.Codes.{power_pos}
use Rattle.scales.specs.Kinds.{Numbers, prime_mark}
use Rattle.scales.specs.Known.{named_laws}
use Rattle.scales.proofs.prime.OddBaseDigits.lowered.Goals as goal

pub pow-power-requires : goal.pow-power-requires
pow-power-requires c =
    let laws = named_laws (prime_mark c.args.self.now.base c.args.self.now.length) c.args.self.now.numbers in
    let base = c.args.self.now.base in
    let grows : base ^ c.args.k ≤ base ^ c.args.self.now.length =
    pow-le-pow_right (omega (arith, laws.base_least)) (omega (arith, c.requires))
    in
    subst₂ (λ (b k : ℕ). b ^ k < 2 ^ 32) (sym c.from.ensures) (sym c.from-2.ensures) (omega (arith, grows, laws.size_most))

-- a power of the base is not 0
some : (n e : ℕ) → Numbers (prime_mark n e) → (b k power : ℕ) → b ≡ n → power ≡ b ^ k → 0 < power
some n e numbers b k power base_is power_is =
    let laws = named_laws (prime_mark n e) numbers in
    let pos = power_pos b k (omega (arith, base_is, laws.base_least)) in
    omega (arith, pos, power_is)

pub nonzero_rem-a : goal.nonzero_rem-a
nonzero_rem-a c = some _ _ c.args.self.now.numbers _ _ _ c.from.ensures c.pow-power.ensures

pub nonzero_div-a : goal.nonzero_div-a
nonzero_div-a c = some _ _ c.args.self.now.numbers _ _ _ c.from.ensures c.pow-power.ensures
