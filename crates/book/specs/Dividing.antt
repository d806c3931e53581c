-- A pivot among products.
use Rattle.std.specs.Prelude.{◌≡◌, ℕ, ◌<◌, ◌≤◌, List, length, slice_index}
use Rattle.scale.specs.Meaning.{Meaning, Quotient, power}
use Rattle.book.specs.declared.dividing.Choice.{Choice}
use Rattle.book.specs.declared.dividing.Divisor.{Divisor}

-- the level of a code, the step to that power, and a cofactor that makes the code that power
pub record DividesBy (m : Meaning) (b : ℕ) (d : Divisor) : Type 0 where
  pub level : d.level ≡ m.level b
  pub at_level : d.power ≡ power m d.level
  pub cofactor : Quotient m (power m d.level) b d.cofactor

-- none of the first n has a lower level than the p-th
abbrev pub Lowest : Meaning → List ℕ → ℕ → ℕ → Type 0
Lowest m ds n p =
    (p < length ds) × ((i : ℕ) → i < n → m.level (slice_index ds p) ≤ m.level (slice_index ds i))

-- the p-th is chosen among the first n, and the quotients by it of those from it on are found
pub record Scanned (m : Meaning) (ds : List ℕ) (n p : ℕ) (qs : List ℕ) : Type 0 where
  pub lowest : Lowest m ds n p
  pub among : p ≤ n
  pub count : length qs ≡ n
  pub found : (i : ℕ) → p ≤ i → i < n → Quotient m (slice_index ds i) (slice_index ds p) (slice_index qs i)

-- one of them is chosen, with what divides by it, and the quotients by it of those from it on are found
pub record Chosen (m : Meaning) (ds : List ℕ) (c : Choice) (qs : List ℕ) : Type 0 where
  pub scanned : Scanned m ds (length ds) c.number qs
  pub divisor : DividesBy m (slice_index ds c.number) c.divisor

-- a number divides each of the first list, and these are the quotients
abbrev pub Divides : Meaning → List ℕ → ℕ → List ℕ → Type 0
Divides m ds d qs =
    (length qs ≡ length ds) × ((i : ℕ) → i < length ds → Quotient m (slice_index ds i) d (slice_index qs i))
