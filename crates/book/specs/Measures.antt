-- What an equation asks of the rows of a table.
use Rattle.std.specs.Prelude.{◌≡◌, ℕ, ◌<◌, Option, List, [], length, slice_index}
use Rattle.scale.specs.Meaning.{Meaning, Divided}
use Rattle.ties.specs.Layouts.{Shape, places}
use Rattle.ties.specs.Equations.{Equation, total}
use Rattle.book.specs.declared.pivot.Pivot.{Pivot}
use Rattle.book.specs.Rows.{Codes}
use Rattle.book.specs.Sheets.{generator_of}
use Rattle.book.specs.Standing.{Pivots, rest}

-- the totals of an equation's terms at all generators
pub record Totals (m : Meaning) (s : Shape) (e : Equation) (xs ts : List ℕ) : Type 0 where
  pub codes : Codes m ts
  pub count : length ts ≡ places s
  pub each : (i : ℕ) → i < places s → slice_index ts i ≡ total m e.terms (generator_of s xs i)

-- a pivot is the equation's, and the point is to be moved by so much of it that nothing is missing: that can be done
-- exactly where the pivot's product divides what is missing
pub record Measures (m : Meaning) (s : Shape) (e : Equation) (xs : List ℕ) (k : Pivot) (moved : Option ℕ) : Type 0 where
  pub pivots : Pivots m s e xs k
  pub shift : Divided m (rest m s e xs) k.divisor moved

-- a pivot whose lists are empty
abbrev pub Blank : Pivot → Type 0
Blank k = (k.row.items ≡ []) × (k.quotients.items ≡ [])
