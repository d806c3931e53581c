-- The law of runs: what every list of calls on a book answers.
use Rattle.std.specs.Prelude.{◌≡◌, ℕ, ◌<◌, ◌≤◌, ◌⊎◌, List, [], ◌∷◌, ◌++◌, length, map, take, vec_items, Result, Vec, MatchResult, ◌≢◌}
use Rattle.std.specs.Borrow.{Bor}
use Rattle.std.specs.declared.alloc.Global.{Global}
use Rattle.scale.specs.Meaning.{Meaning}
use Rattle.ties.specs.declared.tie.Tie.{Tie}
use Rattle.ties.specs.Layouts.{Assignment, Shape, Sized, Within}
use Rattle.ties.specs.Equations.{Equation, Solves, equation, nth_equation}
use Rattle.ties.specs.declared.fault.TieFault.{TieFault}
use Rattle.ties.specs.Faults.{Faulty, Sound}
use Rattle.tie_file.specs.Bodies.{equations}
use Rattle.tie_file.specs.Writing.{Written, file_size}
use Rattle.book.specs.declared.fault.LoadFault.{LoadFault}
use Rattle.book.specs.declared.fault.PostFault.{PostFault}
use Rattle.book.specs.declared.fault.SheetFault.{SheetFault}
use Rattle.book.specs.declared.fault.WithdrawFault.{WithdrawFault}
use Rattle.book.specs.declared.fault.WriteFault.{WriteFault}
use Rattle.book.specs.Posting.{Answered, Listing}
use Rattle.book.specs.Loading.{LoadAnswered, LoadListing, Loadable}
use Rattle.book.specs.Drawing.{SameSheet, TooShort, sheet_size}
use Rattle.book.specs.declared.reading.Reading.{Reading}
use Rattle.book.specs.Querying.{Queried}
use Rattle.replay.specs.declared.answer.Answer.{Answer}
use Rattle.replay.specs.declared.answer.Answer.TheVariants as answer
use Rattle.replay.specs.declared.call.Call.{Call}
use Rattle.replay.specs.declared.call.Call.TheVariants as call
use Rattle.replay.specs.declared.call.View.{View}
use Rattle.replay.specs.declared.call.View.TheVariants as view
use Rattle.replay.specs.declared.call.Turn.{Turn}

-- a tie is to be accepted: its list has 64 numbers or more, it is sound, fewer than 64 ties stand, and some assignment
-- meets it and all of them
pub record Fits (m : Meaning) (s : Shape) (es : List Equation) (e : Equation) (list : List ℕ) : Type 0 where
  pub enough : 64 ≤ length list
  pub sound : Sound m s e
  pub room : length es < 64
  pub some : (x : Assignment) × Solves m s (es ++ (e ∷ [])) x

-- ties are to be accepted one behind the other: the first n do fit, and the next does not, if there is one
pub record Fill (m : Meaning) (s : Shape) (es fs : List Equation) (list : List ℕ) (n : ℕ) : Type 0 where
  pub most : n ≤ length fs
  pub fit : (i : ℕ) → i < n → Fits m s (es ++ take i fs) (nth_equation fs i) list
  pub end : (n ≡ length fs) ⊎ ((n < length fs) × (Fits m s (es ++ take n fs) (nth_equation fs n) list → ⊥))

-- the ledger is fed the calls and what they are handed, and nothing from the book: a tie that fits goes to its end, so do
-- those of a file that is for this scale and layout, up to the first that does not fit, a withdrawal takes off its last
-- tie, if there is one, and nothing else changes it
abbrev pub Fed : Meaning → Shape → List Equation → Call → List Equation → Type 0
Fed m s es (call.Post t list) es' =
    (Fits m s es (equation t) list.now × (es' ≡ es ++ (equation t ∷ [])))
    ⊎ ((Fits m s es (equation t) list.now → ⊥) × (es' ≡ es))
Fed m s es (call.Load f list) es' =
    (Loadable m s f.now × ((n : ℕ) × Fill m s es (equations f.now) list.now n × (es' ≡ es ++ take n (equations f.now))))
    ⊎ ((Loadable m s f.now → ⊥) × (es' ≡ es))
Fed m s es call.Withdraw es' = ((e : Equation) × (es ≡ es' ++ (e ∷ []))) ⊎ ((es ≡ []) × (es' ≡ es))
Fed m s es (call.View v) es' = es' ≡ es

-- where a run stands: its ledger, and the one sheet with its free digits that is drawn until the ledger changes, at
-- whose point queries read their values
pub record Place : Type 0 where
  pub ledger : List Equation
  pub sheet : List ℕ
  pub free : ℕ

-- a call answers by the ledger before it, and its list then holds what it should
pub data Replies (m : Meaning) (s : Shape) (p : Place) : Call → Answer → Type 0 where
  post :
      (t : Tie) (list : Bor (List ℕ)) (r : Result ℕ PostFault) (new : Vec ℕ Global)
      → Answered m s p.ledger (equation t) list.now r
      → Listing m s p.ledger (equation t) r list.now (vec_items new)
      → Replies m s p (call.Post t list) (answer.Post r new)
  load :
      (f list : Bor (List ℕ)) (r : Result ℕ LoadFault) (new : Vec ℕ Global)
      → LoadAnswered m s p.ledger f.now list.now r
      → LoadListing m s p.ledger f.now r list.now (vec_items new)
      → Replies m s p (call.Load f list) (answer.Load r new)
  withdraw :
      (r : Result Unit WithdrawFault)
      → MatchResult r (λ done. p.ledger ≢ []) (λ none. p.ledger ≡ [])
      → Replies m s p call.Withdraw (answer.Withdraw r)
  query :
      (t : Tie) (r : Result Reading TieFault)
      → MatchResult r (Queried m s p.ledger p.sheet (equation t)) (Faulty m s (equation t))
      → Replies m s p (call.View (view.Query t)) (answer.Query r)
  sheet :
      (list : Bor (List ℕ)) (r : Result ℕ SheetFault) (new : Vec ℕ Global)
      → MatchResult r (SameSheet m s p.ledger p.sheet p.free list.now (vec_items new)) (λ short. TooShort (sheet_size s) list.now (vec_items new))
      → Replies m s p (call.View (view.Sheet list)) (answer.Sheet r new)
  write :
      (list : Bor (List ℕ)) (r : Result ℕ WriteFault) (new : Vec ℕ Global)
      → MatchResult r (Written m.mark s p.ledger list.now (vec_items new)) (λ short. TooShort (file_size s p.ledger) list.now (vec_items new))
      → Replies m s p (call.View (view.Write list)) (answer.Write r new)

-- one call: it answers, it feeds the ledger, and where the ledger stays so does the sheet
pub record Step (m : Meaning) (s : Shape) (p : Place) (c : Call) (a : Answer) (q : Place) : Type 0 where
  pub replies : Replies m s p c a
  pub fed : Fed m s p.ledger c q.ledger
  pub steady : q.ledger ≡ p.ledger → q ≡ p

-- a run of calls with their answers, from one place to another
abbrev pub Run : Meaning → Shape → Place → List Call → List Answer → Place → Type 0
Run m s p [] [] q = q ≡ p
Run m s p (c ∷ cs) (a ∷ rest) q = (between : Place) × Step m s p c a between × Run m s between cs rest q
Run m s p [] (a ∷ rest) q = ⊥
Run m s p (c ∷ cs) [] q = ⊥

-- the calls of turns, in order: closing a book and reopening it are no calls that anything comes of
abbrev pub views : List View → List Call
views vs = map call.View vs

abbrev pub calls_of : List Turn → List Call
calls_of [] = []
calls_of (t ∷ ts) = (t.while_open.now ++ views t.while_closed.now) ++ calls_of ts

-- the calls ran on a book that was opened with a layout in bounds and no tie
pub record Lawful (m : Meaning) (s : Shape) (cs : List Call) (answers : List Answer) : Type 0 where
  pub sized : Sized s
  pub within : Within m s
  pub first : Place
  pub last : Place
  pub nothing : first.ledger ≡ []
  pub run : Run m s first cs answers last
