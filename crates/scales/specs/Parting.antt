-- Numbers by their parts.
use Rattle.std.specs.Prelude.{◌≡◌, ℕ, ◌*◌, ◌%◌, ◌^◌, ◌<◌, ◌≢◌, Option, MatchOption}
use Rattle.scales.specs.declared.digits.Parts.{Parts}

-- a number as a power of q times what is left, of which d is no divisor
abbrev pub Parted : ℕ → ℕ → ℕ → Parts → Type 0
Parted q d a p = (a ≡ p.power * p.unit) × (p.power ≡ q ^ p.level) × (0 < p.unit % d)

-- what is left of a number without a power of q, where that divides it
abbrev pub Lowered : ℕ → ℕ → ℕ → Option ℕ → Type 0
Lowered q a k r = MatchOption r (a % q ^ k ≢ 0) (λ c. a ≡ q ^ k * c)
