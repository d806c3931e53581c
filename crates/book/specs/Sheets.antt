-- Sheets: one point and N generators, each of N codes in the order head, then counter.
use Rattle.std.specs.Prelude.{◌≡◌, ℕ, ◌+◌, ◌*◌, ◌<◌, ◌↔◌, List, length}
use Rattle.scale.specs.Meaning.{Meaning, Code, summed}
use Rattle.ties.specs.Layouts.{Shape, Has, Assignment, Assigns, places}
use Rattle.ties.specs.Equations.{Equation, MeetsAll}
use Rattle.book.specs.Rows.{Codes, row_at}

-- the point, and generator i
abbrev pub point_of : Shape → List ℕ → Assignment
point_of s xs = row_at s xs 0

abbrev pub generator_of : Shape → List ℕ → ℕ → Assignment
generator_of s xs i = row_at s xs (places s + i * places s)

-- an assignment is, code for code, the sheet's point plus multiples of its generators
abbrev pub OnSheet : Meaning → Shape → List ℕ → Assignment → Type 0
OnSheet m s xs x =
    (t : ℕ → ℕ)
    × ((i : ℕ) → i < places s → Code m (t i))
    × (
    (h c : ℕ)
    → Has s h c
    → x h c ≡ m.sum (point_of s xs h c) (summed m (places s) (λ i. m.product (t i) (generator_of s xs i h c)))
    )

-- a sheet is exact: just the assignments on it meet all equations
abbrev pub Exact : Meaning → Shape → List Equation → List ℕ → Type 0
Exact m s es xs = (x : Assignment) → Assigns m s x → MeetsAll m s es x ↔ OnSheet m s xs x

-- a sheet has N × (N + 1) numbers
abbrev pub sheet_size : Shape → ℕ
sheet_size s = places s * (places s + 1)

-- a whole sheet of equations: it has as many numbers, all of them codes, and is exact
pub record Whole (m : Meaning) (s : Shape) (es : List Equation) (xs : List ℕ) : Type 0 where
  pub size : length xs ≡ sheet_size s
  pub codes : Codes m xs
  pub exact : Exact m s es xs
