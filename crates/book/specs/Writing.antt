-- Writing a book as a tie file.
use Rattle.std.specs.Prelude.{◌≡◌, ℕ, ◌<◌, List, length, take, Result, MatchResult}
use Rattle.scale.specs.Meaning.{Meaning}
use Rattle.ties.specs.Layouts.{shape}
use Rattle.tie_file.specs.Bodies.{equations}
use Rattle.tie_file.specs.Writing.{Bytes, Written, file_size}
use Rattle.book.specs.declared.fault.WriteFault.{WriteFault}
use Rattle.book.specs.Drawing.{TooShort}
use Rattle.book.specs.Loading.{Loadable}
use Rattle.book.specs.Held.{Held}
use Rattle.book.specs.Standing.{ledger}

-- the file of the book's mark, layout and standing ties is written to the front of a list
abbrev pub WrittenFrom : {S : Type 0} → (S → Meaning) → Held S → List ℕ → List ℕ → ℕ → Type 0
WrittenFrom meaning b = Written (meaning b.scale).mark (shape b.layout) (ledger b.table)

abbrev pub WriteStopped : {S : Type 0} → Held S → List ℕ → List ℕ → Type 0
WriteStopped b = TooShort (file_size (shape b.layout) (ledger b.table))

-- a file for the book's scale and layout whose ties are just those that stand is what is written, or the list is shorter
-- than it
abbrev pub Again : {S : Type 0} → (S → Meaning) → Held S → List ℕ → List ℕ → Result ℕ WriteFault → Type 0
Again meaning b old new r =
    (f : List ℕ)
    → Bytes f
    → Loadable (meaning b.scale) (shape b.layout) f
    → equations f ≡ ledger b.table
    → MatchResult r (λ n. take n new ≡ f) (λ _. length old < length f)
