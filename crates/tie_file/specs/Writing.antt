-- Writing a tie file: what the file states, and where it is written.
use Rattle.std.specs.Prelude.{◌≡◌, ℕ, suc, ◌+◌, ◌*◌, ◌<◌, ◌≤◌, ◌⊎◌, List, length, take, drop}
use Rattle.std.specs.List.{sum_by}
use Rattle.scale.specs.declared.Mark.{Mark}
use Rattle.ties.specs.Layouts.{Shape, counters_of}
use Rattle.ties.specs.Equations.{Equation}
use Rattle.tie_file.specs.Table.{WellFormed, byte}
use Rattle.tie_file.specs.Bodies.{equations, file_mark, file_shape}

-- a file states a mark, a shape and equations: it is well formed and holds them
pub record States (k : Mark) (s : Shape) (es : List Equation) (f : List ℕ) : Type 0 where
  pub formed : WellFormed f
  pub mark : file_mark f ≡ k
  pub shape : file_shape f ≡ s
  pub equations : equations f ≡ es

-- all numbers of a list are bytes
abbrev pub Bytes : List ℕ → Type 0
Bytes f = (i : ℕ) → byte f i < 256

-- where the first n ties end in a file of a shape and equations: behind byte 0, five bytes for each entry, the layout's
-- five bytes and its widths, and for each tie five bytes and six for each term
abbrev pub tie_size : Equation → ℕ
tie_size e = 5 + 6 * length e.terms

abbrev pub ties_end : Shape → List Equation → ℕ → ℕ
ties_end s es n = 1 + 5 * suc (length es) + (5 + counters_of s) + sum_by tie_size (take n es)

-- how long the file is
abbrev pub file_size : Shape → List Equation → ℕ
file_size s es = ties_end s es (length es)

-- the file is written to the front of a list, which is kept behind it; no other bytes state the same
pub record Written (k : Mark) (s : Shape) (es : List Equation) (old new : List ℕ) (n : ℕ) : Type 0 where
  pub size : n ≡ file_size s es
  pub room : n ≤ length old
  pub long : length new ≡ length old
  pub states : States k s es (take n new)
  pub only : (f : List ℕ) → Bytes f → States k s es f → f ≡ take n new
  pub kept : drop n new ≡ drop n old

-- where there are more than 64 equations, or the list is shorter than the file, it is kept
abbrev pub Unwritten : Shape → List Equation → List ℕ → List ℕ → Type 0
Unwritten s es old new = ((64 < length es) ⊎ (length old < file_size s es)) × (new ≡ old)
