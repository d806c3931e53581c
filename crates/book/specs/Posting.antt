-- Posting a tie.
use Rattle.std.specs.Prelude.{◌≡◌, ℕ, suc, ◌+◌, ◌<◌, ◌≤◌, List, [], ◌∷◌, ◌++◌, length, Ok, Err, Result, MatchResult}
use Rattle.scale.specs.Meaning.{Meaning}
use Rattle.ties.specs.Layouts.{Assignment, Shape, shape}
use Rattle.ties.specs.Equations.{Contradictory, Count, Equation, Solves}
use Rattle.ties.specs.Faults.{Faulty, Sound}
use Rattle.tie_file.specs.Bodies.{equations, file_shape}
use Rattle.multipliers.specs.Checked.{Checkable, Usable}
use Rattle.multipliers.specs.Refuting.{Refutes}
use Rattle.book.specs.declared.fault.PostFault.{PostFault}
use Rattle.book.specs.declared.fault.PostFault.TheVariants.{List as Short, Tie, Full, Contradiction}
use Rattle.book.specs.Rows.{Keeps}
use Rattle.book.specs.Held.{Held}
use Rattle.book.specs.Standing.{ledger}

-- a tie is accepted: it is sound, fewer than 64 ties stand, and some assignment meets it and all of them; it fixed so
-- many digits as there are free ones less
pub record Accepted (m : Meaning) (s : Shape) (es : List Equation) (e : Equation) (fixed : ℕ) : Type 0 where
  pub sound : Sound m s e
  pub room : length es < 64
  pub some : (x : Assignment) × Solves m s (es ++ (e ∷ [])) x
  pub before : ℕ
  pub after : ℕ
  pub count_before : Count m s es before
  pub count_after : Count m s (es ++ (e ∷ [])) after
  pub fell : after + fixed ≡ before

-- a tie is refused by the first check that fails: the list is too short, the tie has a fault of its own, 64 ties stand
-- already, or no assignment meets it and all of them
abbrev pub PostStopped : Meaning → Shape → List Equation → Equation → List ℕ → PostFault → Type 0
PostStopped m s es e ys Short = length ys < 64
PostStopped m s es e ys (Tie f) = (64 ≤ length ys) × Faulty m s e f
PostStopped m s es e ys Full = (64 ≤ length ys) × Sound m s e × (64 ≤ length es)
PostStopped m s es e ys Contradiction =
    (64 ≤ length ys) × Sound m s e × (length es < 64) × Contradictory m s (es ++ (e ∷ []))

-- what posting answers, by the ledger before it
abbrev pub Answered : Meaning → Shape → List Equation → Equation → List ℕ → Result ℕ PostFault → Type 0
Answered m s es e ys r = MatchResult r (λ fixed. (64 ≤ length ys) × Accepted m s es e fixed) (PostStopped m s es e ys)

-- an accepted tie goes to the end of the ledger, and a refused one changes nothing
abbrev pub grown : List Equation → Equation → Result ℕ PostFault → List Equation
grown es e (Ok fixed) = es ++ (e ∷ [])
grown es e (Err f) = es

-- multipliers show that equations contradict each other: the check of multipliers goes through and says yes to them
-- with every file of just these equations
pub record Shown (m : Meaning) (s : Shape) (es : List Equation) (ys : List ℕ) : Type 0 where
  pub refutes : Refutes m s es ys
  pub checked :
      (f : List ℕ)
      → Usable m f
      → file_shape f ≡ s
      → equations f ≡ es
      → Checkable m f ys × Refutes m (file_shape f) (equations f) ys

-- what the list of multipliers then holds: on a contradiction multipliers that show it, of the standing ties and the
-- new one in order, and behind them what it held; else what it held
abbrev pub Listing : Meaning → Shape → List Equation → Equation → Result ℕ PostFault → List ℕ → List ℕ → Type 0
Listing m s es e (Ok fixed) old new = new ≡ old
Listing m s es e (Err Short) old new = new ≡ old
Listing m s es e (Err (Tie f)) old new = new ≡ old
Listing m s es e (Err Full) old new = new ≡ old
Listing m s es e (Err Contradiction) old new =
    Shown m s (es ++ (e ∷ [])) new × (length new ≡ length old) × Keeps (suc (length es)) old new

-- the same of a book
module _ {S : Type 0} (meaning : S → Meaning) (b : Held S) (e : Equation) where
  abbrev pub PostedTo : List ℕ → Result ℕ PostFault → Type 0
  PostedTo = Answered (meaning b.scale) (shape b.layout) (ledger b.table) e

  abbrev pub Listed : Result ℕ PostFault → List ℕ → List ℕ → Type 0
  Listed = Listing (meaning b.scale) (shape b.layout) (ledger b.table) e

  -- its scale and layout stay, and a refused tie leaves the whole book as it was
  abbrev pub Posted : Result ℕ PostFault → Held S → Type 0
  Posted (Ok fixed) c = (c.scale ≡ b.scale) × (c.layout ≡ b.layout) × (ledger c.table ≡ ledger b.table ++ (e ∷ []))
  Posted (Err f) c = c ≡ b
