-- Rows of codes, and rows in one list, each named by where it begins.
use Rattle.std.specs.Prelude.{◌≡◌, ℕ, ◌+◌, ◌≤◌, List, slice_index}
pub use Rattle.multipliers.specs.Totals.{Codes}
use Rattle.ties.specs.Layouts.{Shape, Assignment, place}

-- a row gives each counter the code at its place
abbrev pub row_of : Shape → List ℕ → Assignment
row_of s row h c = slice_index row (place s h c)

-- so does the row at a place
abbrev pub row_at : Shape → List ℕ → ℕ → Assignment
row_at s xs at h c = slice_index xs (at + place s h c)

-- from place n on a list is kept
abbrev pub Keeps : ℕ → List ℕ → List ℕ → Type 0
Keeps n old new = (i : ℕ) → n ≤ i → slice_index new i ≡ slice_index old i
