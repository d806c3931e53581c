-- Drawing a sheet.
use Rattle.std.specs.Prelude.{◌≡◌, ℕ, ◌<◌, ◌≤◌, List, length, take, drop, vec_items, slice_index}
use Rattle.scale.specs.Meaning.{Code, Meaning}
use Rattle.ties.specs.Layouts.{Shape, shape}
use Rattle.ties.specs.Equations.{Count, Equation}
pub use Rattle.book.specs.Sheets.{sheet_size}
use Rattle.book.specs.Sheets.{Exact}
use Rattle.book.specs.Held.{Held}
use Rattle.book.specs.Standing.{ledger}

-- a sheet of equations is drawn into a list, with f free digits: all its numbers are codes, just the assignments on it
-- meet the equations, there are q^f of them, and the list is as long as it was and kept behind it
pub record Drawn (m : Meaning) (s : Shape) (es : List Equation) (old new : List ℕ) (f : ℕ) : Type 0 where
  pub room : sheet_size s ≤ length old
  pub long : length new ≡ length old
  pub codes : (i : ℕ) → i < sheet_size s → Code m (slice_index new i)
  pub exact : Exact m s es new
  pub count : Count m s es f
  pub kept : drop (sheet_size s) new ≡ drop (sheet_size s) old

-- the one sheet of the equations, with its free digits, is drawn
pub record SameSheet (m : Meaning) (s : Shape) (es : List Equation) (xs : List ℕ) (digits : ℕ) (old new : List ℕ) (f : ℕ) : Type 0
  where
    pub drawn : Drawn m s es old new f
    pub sheet : take (sheet_size s) new ≡ xs
    pub free : f ≡ digits

-- a list that has fewer numbers than are to be written is kept
abbrev pub TooShort : ℕ → List ℕ → List ℕ → Type 0
TooShort size old new = (length old < size) × (new ≡ old)

-- the same of a book, whose sheet and free digits are always the same
module _ {S : Type 0} where
  abbrev pub sheet_of : Held S → List ℕ
  sheet_of b = vec_items b.table.rows

  abbrev pub free_of : Held S → ℕ
  free_of b = b.table.free

  abbrev pub DrawnFrom : (S → Meaning) → Held S → List ℕ → List ℕ → ℕ → Type 0
  DrawnFrom meaning b = SameSheet (meaning b.scale) (shape b.layout) (ledger b.table) (sheet_of b) (free_of b)

  abbrev pub DrawStopped : Held S → List ℕ → List ℕ → Type 0
  DrawStopped b = TooShort (sheet_size (shape b.layout))
