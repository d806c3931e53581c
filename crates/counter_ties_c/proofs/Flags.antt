-- A yes goes out as 1, and nothing else does.
use Rattle.std.proofs.Common.{◌≡◌, ℕ, Bool, true, false, refl, arith}
use Rattle.std.specs.Int.{from_bool}

pub yes_is : (b : Bool) (n : ℕ) → n ≡ from_bool b → n ≡ 1 → b ≡ true
yes_is true n is one = refl
yes_is false n is one = absurd (omega (arith, is, one))
