-- Posting the ties of a file, and loading it.
use Rattle.std.specs.Prelude.{◌≡◌, ℕ, ◌<◌, ◌≤◌, List, ◌++◌, length, take, Ok, Err, Result, MatchResult}
use Rattle.scale.specs.Meaning.{Meaning}
use Rattle.ties.specs.Layouts.{Shape, shape}
use Rattle.ties.specs.Equations.{Equation, nth_equation}
use Rattle.tie_file.specs.Table.{WellFormed}
use Rattle.tie_file.specs.Bodies.{equations, file_mark, file_shape}
use Rattle.tie_file.specs.Reading.{Bad}
use Rattle.book.specs.declared.fault.LoadFault.{LoadFault}
use Rattle.book.specs.declared.fault.LoadFault.TheVariants.{File, Mark, List as Short, Tie}
use Rattle.book.specs.declared.fault.PostFault.{PostFault}
use Rattle.book.specs.declared.fault.Stop.{Stop}
use Rattle.book.specs.Held.{Held}
use Rattle.book.specs.Posting.{Accepted, Listing, PostStopped}
use Rattle.book.specs.Standing.{ledger}

-- the first n of these ties are accepted where others stand, each behind the ones before it, and the list is long enough
-- for that
pub record Taken (m : Meaning) (s : Shape) (es fs : List Equation) (ys : List ℕ) (n : ℕ) : Type 0 where
  pub most : n ≤ length fs
  pub listed : 1 ≤ n → 64 ≤ length ys
  pub accepted : (i : ℕ) → i < n → (fixed : ℕ) × Accepted m s (es ++ take i fs) (nth_equation fs i) fixed

-- the first n are, and the next is refused
pub record RefusedAt (m : Meaning) (s : Shape) (es fs : List Equation) (ys : List ℕ) (n : ℕ) (f : PostFault) : Type 0 where
  pub taken : Taken m s es fs ys n
  pub inside : n < length fs
  pub stopped : PostStopped m s (es ++ take n fs) (nth_equation fs n) ys f

-- ties are posted in order until one is refused: the answer is how many there are, or which is refused and why
abbrev pub AllAnswered : Meaning → Shape → List Equation → List Equation → List ℕ → Result ℕ Stop → Type 0
AllAnswered m s es fs ys r =
    MatchResult r (λ n. (n ≡ length fs) × Taken m s es fs ys n) (λ stop. RefusedAt m s es fs ys stop.tie stop.fault)

-- how many of them are accepted
abbrev pub accepted_of : Result ℕ Stop → ℕ
accepted_of (Ok n) = n
accepted_of (Err stop) = stop.tie

-- what the list of multipliers then holds: what posting the refused tie leaves there, or else what it held
abbrev pub AllListing : Meaning → Shape → List Equation → List Equation → Result ℕ Stop → List ℕ → List ℕ → Type 0
AllListing m s es fs (Ok n) old new = new ≡ old
AllListing m s es fs (Err stop) old new =
    Listing m s (es ++ take stop.tie fs) (nth_equation fs stop.tie) (Err stop.fault) old new

-- a file that is for this scale and this layout: it is well formed and states them
pub record Loadable (m : Meaning) (s : Shape) (f : List ℕ) : Type 0 where
  pub formed : WellFormed f
  pub mark : file_mark f ≡ m.mark
  pub shape : file_shape f ≡ s

-- a load is stopped by the first check that fails: the file's own, its mark or its layout, the list; then by the first tie
-- that is refused
abbrev pub LoadStopped : Meaning → Shape → List Equation → List ℕ → List ℕ → LoadFault → Type 0
LoadStopped m s es f ys (File g) = Bad f g
LoadStopped m s es f ys Mark = WellFormed f × ((file_mark f ≡ m.mark) × (file_shape f ≡ s) → ⊥)
LoadStopped m s es f ys Short = Loadable m s f × (length ys < 64)
LoadStopped m s es f ys (Tie i g) = Loadable m s f × (64 ≤ length ys) × RefusedAt m s es (equations f) ys i g

-- what a load answers, by the ledger before it: how many ties the file has, where all are accepted
abbrev pub LoadAnswered : Meaning → Shape → List Equation → List ℕ → List ℕ → Result ℕ LoadFault → Type 0
LoadAnswered m s es f ys r =
    MatchResult r
    (λ n. Loadable m s f × (64 ≤ length ys) × (n ≡ length (equations f)) × Taken m s es (equations f) ys n)
    (LoadStopped m s es f ys)

-- how many of its ties are accepted, and what its list then holds: a load that is stopped before its first tie accepts
-- none and keeps the list
abbrev pub loaded_of : Result ℕ LoadFault → ℕ
loaded_of (Ok n) = n
loaded_of (Err (File g)) = 0
loaded_of (Err Mark) = 0
loaded_of (Err Short) = 0
loaded_of (Err (Tie i g)) = i

abbrev pub LoadListing : Meaning → Shape → List Equation → List ℕ → Result ℕ LoadFault → List ℕ → List ℕ → Type 0
LoadListing m s es f (Ok n) old new = new ≡ old
LoadListing m s es f (Err (File g)) old new = new ≡ old
LoadListing m s es f (Err Mark) old new = new ≡ old
LoadListing m s es f (Err Short) old new = new ≡ old
LoadListing m s es f (Err (Tie i g)) old new =
    Listing m s (es ++ take i (equations f)) (nth_equation (equations f) i) (Err g) old new

-- the same of a book
module _ {S : Type 0} (meaning : S → Meaning) (b : Held S) where
  module _ (fs : List Equation) where
    abbrev pub AllPostedTo : List ℕ → Result ℕ Stop → Type 0
    AllPostedTo = AllAnswered (meaning b.scale) (shape b.layout) (ledger b.table) fs

    abbrev pub AllListed : Result ℕ Stop → List ℕ → List ℕ → Type 0
    AllListed = AllListing (meaning b.scale) (shape b.layout) (ledger b.table) fs

  module _ (f : List ℕ) where
    abbrev pub LoadedTo : List ℕ → Result ℕ LoadFault → Type 0
    LoadedTo = LoadAnswered (meaning b.scale) (shape b.layout) (ledger b.table) f

    abbrev pub LoadListed : Result ℕ LoadFault → List ℕ → List ℕ → Type 0
    LoadListed = LoadListing (meaning b.scale) (shape b.layout) (ledger b.table) f

-- the first n of these ties stand behind the others; where n is 0 the whole book is as it was
pub record Grown {S : Type 0} (b : Held S) (fs : List Equation) (n : ℕ) (c : Held S) : Type 0 where
  pub same_scale : c.scale ≡ b.scale
  pub same_layout : c.layout ≡ b.layout
  pub stand : ledger c.table ≡ ledger b.table ++ take n fs
  pub steady : n ≡ 0 → c ≡ b
