-- Solving a table of equations between elements of the group.
use Rattle.std.specs.Prelude.{◌≡◌, ℕ, ◌+◌, ◌*◌, ◌<◌, ◌≤◌, ◌↔◌, ◌⊎◌, List, [], ◌++◌, length, take, Ok, Err, Result, MatchResult}
use Rattle.std.specs.List.{All}
use Rattle.scale.specs.Meaning.{Meaning}
use Rattle.ties.specs.Layouts.{Assignment, Shape, Sized, Within, counters_of}
use Rattle.ties.specs.Equations.{Equation, Solves, nth_equation}
use Rattle.book.specs.declared.fault.OpenFault.TheVariants.{Memory}
use Rattle.book.specs.declared.fault.PostFault.TheVariants.{Contradiction}
use Rattle.book.specs.Drawing.{Drawn, sheet_size}
use Rattle.book.specs.Loading.{RefusedAt, Taken}
use Rattle.book.specs.Opening.{OpenStopped}
use Rattle.book.specs.Posting.{Listing}
use Rattle.endomorphisms.specs.declared.fault.SolveFault.{SolveFault}
use Rattle.endomorphisms.specs.declared.fault.SolveFault.TheVariants.{Open, Sheet, Tie}
use Rattle.endomorphisms.specs.declared.fault.Stop.{Stop}
use Rattle.endomorphisms.specs.Equations.{GroupEquation, Insoluble, OverGroup, SolvesTable, ties_of}

-- the number of the tie at which posting stopped
abbrev pub tie_number : Shape → Stop → ℕ
tie_number s p = p.equation * counters_of s + p.counter

-- the ties of a table are posted in order where others stand, until one is refused
abbrev pub TableAnswered : Meaning → Shape → List Equation → List Equation → List ℕ → Result Unit Stop → Type 0
TableAnswered m s es fs ys r =
    MatchResult r (λ _. Taken m s es fs ys (length fs))
    (λ p. (p.counter < counters_of s) × RefusedAt m s es fs ys (tie_number s p) p.fault)

-- how many of them are accepted
abbrev pub taken_of : Shape → List Equation → Result Unit Stop → ℕ
taken_of s fs (Ok u) = length fs
taken_of s fs (Err p) = tie_number s p

-- what the list of multipliers then holds
abbrev pub TableListing : Meaning → Shape → List Equation → List Equation → Result Unit Stop → List ℕ → List ℕ → Type 0
TableListing m s es fs (Ok u) old new = new ≡ old
TableListing m s es fs (Err p) old new =
    Listing m s (es ++ take (tie_number s p) fs) (nth_equation fs (tie_number s p)) (Err p.fault) old new

-- a table is solved: the layout is in bounds, some assignment solves the table, its ties say just what it says, and their
-- sheet is drawn with f free digits
pub record Solved (m : Meaning) (s : Shape) (es : List GroupEquation) (ys old new : List ℕ) (f : ℕ) : Type 0 where
  pub sized : Sized s
  pub within : Within m s
  pub room : 1 ≤ length (ties_of s es) → 64 ≤ length ys
  pub some : (x : Assignment) × SolvesTable m s es x
  pub same : (x : Assignment) → Solves m s (ties_of s es) x ↔ SolvesTable m s es x
  pub drawn : Drawn m s (ties_of s es) old new f

-- what stops solving: opening, or the first tie that is refused, or a list that is too short for the sheet; on a
-- contradiction no assignment solves the table
abbrev pub SolveStopped : Meaning → Shape → List GroupEquation → List ℕ → List ℕ → SolveFault → Type 0
SolveStopped m s es ys xs (Open f) = OpenStopped m s f
SolveStopped m s es ys xs (Tie p) =
    Sized s
    × Within m s
    × TableAnswered m s [] (ties_of s es) ys (Err p)
    × (p.fault ≡ Contradiction → Insoluble m s es)
SolveStopped m s es ys xs (Sheet f) =
    Sized s
    × Within m s
    × TableAnswered m s [] (ties_of s es) ys (Ok tt)
    × (length xs < sheet_size s)

-- what the list of multipliers then holds: what posting the refused tie leaves there, or else what it held
abbrev pub SolveListing : Meaning → Shape → List GroupEquation → Result ℕ SolveFault → List ℕ → List ℕ → Type 0
SolveListing m s es (Ok f) old new = new ≡ old
SolveListing m s es (Err (Open f)) old new = new ≡ old
SolveListing m s es (Err (Tie p)) old new =
    Listing m s (take (tie_number s p) (ties_of s es)) (nth_equation (ties_of s es) (tie_number s p)) (Err p.fault) old new
SolveListing m s es (Err (Sheet f)) old new = new ≡ old

-- nothing but a contradiction can be wrong: the layout is in bounds, each equation is one over the group, there are 64 ties
-- at most, and the lists are long enough
pub record Proper (m : Meaning) (s : Shape) (es : List GroupEquation) (ys xs : List ℕ) : Type 0 where
  pub sized : Sized s
  pub within : Within m s
  pub over : All (OverGroup m s) es
  pub few : length es * counters_of s ≤ 64
  pub multipliers : 64 ≤ length ys
  pub sheet : sheet_size s ≤ length xs

-- then it is solved if some assignment solves the table, and there is a contradiction if none does, but for want of memory
abbrev pub Decided : Meaning → Shape → List GroupEquation → Result ℕ SolveFault → Type 0
Decided m s es r =
    MatchResult r (λ _. (x : Assignment) × SolvesTable m s es x)
    (λ f. (f ≡ Open Memory) ⊎ ((p : Stop) × (f ≡ Tie p) × (p.fault ≡ Contradiction) × Insoluble m s es))
