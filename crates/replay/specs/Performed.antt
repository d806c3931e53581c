-- Calls on a book.
use Rattle.std.specs.Prelude.{◌≡◌, List, ◌++◌}
use Rattle.scale.specs.Meaning.{Meaning}
use Rattle.ties.specs.Layouts.{shape}
use Rattle.book.specs.Drawing.{free_of, sheet_of}
use Rattle.book.specs.Held.{Held}
use Rattle.book.specs.Standing.{ledger}
use Rattle.replay.specs.declared.answer.Answer.{Answer}
use Rattle.replay.specs.declared.call.Call.{Call}
use Rattle.replay.specs.declared.call.Call.TheVariants as call
use Rattle.replay.specs.declared.call.View.{View}
use Rattle.replay.specs.Runs.{Place, Run, Step}

-- where a book stands
abbrev pub place_of : {S : Type 0} → Held S → Place
place_of b = record { ledger = ledger b.table; sheet = sheet_of b; free = free_of b }

-- a call was performed; one that both phases take leaves the book as it was
abbrev pub Performed : {S : Type 0} → (S → Meaning) → Held S → Call → Answer → Held S → Type 0
Performed meaning b c a new =
    (new.scale ≡ b.scale)
    × (new.layout ≡ b.layout)
    × Step (meaning b.scale) (shape b.layout) (place_of b) c a (place_of new)

abbrev pub Looked : {S : Type 0} → (S → Meaning) → Held S → View → Answer → Type 0
Looked meaning b v a = Step (meaning b.scale) (shape b.layout) (place_of b) (call.View v) a (place_of b)

-- calls were performed one after the other, and their answers are put behind those before
pub record PerformedAll {S : Type 0} (meaning : S → Meaning) (b : Held S) (cs : List Call) (before : List Answer) (new : Held S) (after : List Answer)
    : Type 0 where
  pub same_scale : new.scale ≡ b.scale
  pub same_layout : new.layout ≡ b.layout
  pub answers : List Answer
  pub put : after ≡ before ++ answers
  pub ran : Run (meaning b.scale) (shape b.layout) (place_of b) cs answers (place_of new)
