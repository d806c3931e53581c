-- Querying a book: the value of a tie that is not posted, and how much of it the standing ties settle.
use Rattle.std.specs.Prelude.{◌≡◌, ℕ, ◌<◌, ◌≤◌, List, slice_index}
use Rattle.scale.specs.Meaning.{Meaning}
use Rattle.ties.specs.declared.fault.TieFault.{TieFault}
use Rattle.ties.specs.Layouts.{Assignment, Shape, less, shape}
use Rattle.ties.specs.Equations.{Equation, Solves, depth, value}
use Rattle.ties.specs.Faults.{Faulty, Sound}
use Rattle.book.specs.declared.reading.Reading.{Reading}
use Rattle.book.specs.Drawing.{sheet_of}
use Rattle.book.specs.Sheets.{Whole, point_of}
use Rattle.book.specs.Held.{Held}
use Rattle.book.specs.Standing.{ledger}

-- any two assignments that meet the equations give an equation values that differ by level k or more
abbrev pub Settles : Meaning → Shape → List Equation → Equation → ℕ → Type 0
Settles m s es e k =
    (x y : Assignment) → Solves m s es x → Solves m s es y → k ≤ m.level (less m (value m e x) (value m e y))

-- v digits of the value of an equation e are settled where the equations es stand: v is the greatest k up to e's depth
-- such that the values at any two solutions of es differ by level k or more
pub record SettledDigits (m : Meaning) (s : Shape) (es : List Equation) (e : Equation) (v : ℕ) : Type 0 where
  pub most : v ≤ depth s e
  pub agree : Settles m s es e v
  pub greatest : (k : ℕ) → k ≤ depth s e → Settles m s es e k → k ≤ v

-- an equation e is queried where the equations es stand, with their whole sheet xs: the value is the one at its point
pub record Queried (m : Meaning) (s : Shape) (es : List Equation) (xs : List ℕ) (e : Equation) (r : Reading) : Type 0
  where
    pub sound : Sound m s e
    pub whole : Whole m s es xs
    pub at_point : r.value ≡ value m e (point_of s xs)
    pub settled : SettledDigits m s es e r.settled

-- the same of a book; a tie that has a fault is refused with it
module _ {S : Type 0} (meaning : S → Meaning) (b : Held S) (e : Equation) where
  abbrev pub QueriedFrom : Reading → Type 0
  QueriedFrom = Queried (meaning b.scale) (shape b.layout) (ledger b.table) (sheet_of b) e

  abbrev pub QueryStopped : TieFault → Type 0
  QueryStopped = Faulty (meaning b.scale) (shape b.layout) e

-- v is the least among d and the levels of the first n numbers
pub record Least (m : Meaning) (d : ℕ) (xs : List ℕ) (n v : ℕ) : Type 0 where
  pub most : v ≤ d
  pub each : (i : ℕ) → i < n → v ≤ m.level (slice_index xs i)
  pub greatest : (k : ℕ) → k ≤ d → ((i : ℕ) → i < n → k ≤ m.level (slice_index xs i)) → k ≤ v
