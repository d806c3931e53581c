-- What solving a table answers, by what posting its ties to an empty book does.
use Rattle.std.proofs.Common.{◌≡◌, ℕ, ◌<◌, List, [], ◌++◌, length, take, Ok, Err, inr, refl, ap, ◌∙◌, subst, arith, below_more}
use Rattle.std.proofs.Math.Seq.{take-length}
use Rattle.std.proofs.lemmas.List.{length-take-le}
use Rattle.scale.specs.Meaning.{Meaning, Laws, base}
use Rattle.scale.proofs.Codes.{power_pos}
use Rattle.ties.specs.declared.layout.Layout.{Layout}
use Rattle.ties.specs.Layouts.{Shape, Sized, Within, shape}
use Rattle.ties.specs.Equations.{Equation, nth, nth_equation}
use Rattle.ties.specs.Faults.{Sound}
use Rattle.book.specs.declared.fault.PostFault.{PostFault}
use Rattle.book.specs.declared.fault.PostFault.TheVariants.{List as Short, Tie as BadTie, Full, Contradiction}
use Rattle.book.specs.Drawing.{Drawn, DrawnFrom}
use Rattle.book.specs.Held.{Held}
use Rattle.book.specs.Loading.{Grown, RefusedAt}
use Rattle.book.specs.Opening.{Opened}
use Rattle.book.specs.Posting.{PostStopped}
use Rattle.book.specs.Standing.{ledger}
use Rattle.book.proofs.Faultless.{no_fault}
use Rattle.endomorphisms.specs.declared.fault.SolveFault.TheVariants.{Tie}
use Rattle.endomorphisms.specs.declared.fault.Stop.{Stop}
use Rattle.endomorphisms.specs.Equations.{GroupEquation, Insoluble, ties_of}
use Rattle.endomorphisms.specs.Solving.{Decided, Proper, SolveStopped, Solved, TableAnswered, tie_number}
use Rattle.endomorphisms.proofs.Soluble.{all_sound, insoluble, solves_same, taken_sound}
use Rattle.endomorphisms.proofs.Tables.{ties_length}

-- what is said of a book that was opened is said of its scale and its shape, with no tie standing
pub opened_said :
    {S : Type 0} (meaning : S → Meaning) (scale : S) (s : Shape) (b : Held S) (P : Meaning → Shape → List Equation → Type 0)
    → Opened meaning scale s b
    → P (meaning b.scale) (shape b.layout) (ledger b.table)
    → P (meaning scale) s []
opened_said meaning scale s b P opened p =
    subst (P (meaning scale) s) opened.nothing
    (subst (λ (r : Shape). P (meaning scale) r (ledger b.table)) opened.same_shape
    (subst (λ (m : Meaning). P m (shape b.layout) (ledger b.table)) (ap meaning opened.same_scale) p))

module _ (m : Meaning) (l : Laws m) (s : Shape) (es : List GroupEquation) where
  abbrev fs : List Equation
  fs = ties_of s es

  -- a tie is refused: on a contradiction no assignment solves the table
  none : (n : ℕ) (ys : List ℕ) (f : PostFault) → RefusedAt m s [] fs ys n f → f ≡ Contradiction → Insoluble m s es
  none n ys f refused e =
      let stopped : PostStopped m s (take n fs) (nth_equation fs n) ys Contradiction =
      subst (PostStopped m s (take n fs) (nth_equation fs n) ys) e refused.stopped
      in
      insoluble m l s es n refused.inside
      (below_more (λ i. Sound m s (nth_equation fs i)) n (taken_sound m l s es ys n refused.taken) stopped.1) stopped.3

  pub tie_stopped :
      (p : Stop) (ys xs : List ℕ)
      → Sized s
      → Within m s
      → TableAnswered m s [] fs ys (Err p)
      → SolveStopped m s es ys xs (Tie p)
  tie_stopped p ys xs sized within answered =
      (sized, within, answered, none (tie_number s p) ys p.fault answered.1)

  -- of a proper table nothing but a contradiction is refused
  only_contradiction :
      (n : ℕ) (ys xs : List ℕ) (f : PostFault)
      → Proper m s es ys xs
      → n < length fs
      → PostStopped m s (take n fs) (nth_equation fs n) ys f
      → f ≡ Contradiction
  only_contradiction n ys xs Short proper h stopped = absurd (omega (arith, stopped, proper.multipliers))
  only_contradiction n ys xs (BadTie f) proper h stopped =
      absurd (no_fault m s (nth_equation fs n) f (all_sound m l s es proper.over n h) stopped.1)
  only_contradiction n ys xs Full proper h stopped =
      absurd (omega (arith, stopped.2, proper.few, h, ties_length s es, length-take-le n fs (omega (arith, h))))
  only_contradiction n ys xs Contradiction proper h stopped = refl

  pub tie_decided :
      (p : Stop) (ys xs : List ℕ) → TableAnswered m s [] fs ys (Err p) → Proper m s es ys xs → Decided m s es (Err (Tie p))
  tie_decided p ys xs answered proper =
      let refused = answered.1 in
      let is = only_contradiction (tie_number s p) ys xs p.fault proper refused.inside refused.stopped in
      inr (p, refl, is, none (tie_number s p) ys p.fault refused is)

  pub solved :
      (ys old new : List ℕ) (f : ℕ)
      → Sized s
      → Within m s
      → TableAnswered m s [] fs ys (Ok tt)
      → Drawn m s fs old new f
      → Solved m s es ys old new f
  solved ys old new f sized within answered drawn =
      let same = solves_same m l s es (taken_sound m l s es ys (length fs) answered) in
      let some : 0 < length drawn.count.list = omega (arith, drawn.count.number, power_pos (base m) f l.base_least) in
      record {
        sized = sized;
        within = within;
        room = answered.listed;
        some = (nth drawn.count.list 0, (same (nth drawn.count.list 0)).0 (drawn.count.solve 0 some));
        same = same;
        drawn = drawn;
      }

-- the sheet that the book then draws is that of all ties
pub all_drawn :
    {S : Type 0} (meaning : S → Meaning) (scale : S) (s : Shape) (b c : Held S) (es : List GroupEquation) (old new : List ℕ) (f : ℕ)
    → Opened meaning scale s b
    → Grown b (ties_of (shape b.layout) es) (length (ties_of (shape b.layout) es)) c
    → DrawnFrom meaning c old new f
    → Drawn (meaning scale) s (ties_of s es) old new f
all_drawn {S} meaning scale s b c es old new f opened grown drawn =
    let r = shape b.layout in
    let all : ledger c.table ≡ ledger b.table ++ ties_of r es =
    grown.stand ∙ ap (λ q. ledger b.table ++ q) (take-length (ties_of r es))
    in
    let there : Drawn (meaning b.scale) r (ledger b.table ++ ties_of r es) old new f =
    subst (λ (q : List Equation). Drawn (meaning b.scale) r q old new f) all
    (subst (λ (l : Layout). Drawn (meaning b.scale) (shape l) (ledger c.table) old new f) grown.same_layout
    (subst (λ (k : S). Drawn (meaning k) (shape c.layout) (ledger c.table) old new f) grown.same_scale drawn.drawn))
    in
    opened_said meaning scale s b (λ m r q. Drawn m r (q ++ ties_of r es) old new f) opened there
