-- Runs, one call after the other.
use Rattle.std.proofs.Common.{◌≡◌, ℕ, ◌<◌, ◌≤◌, List, [], ◌∷◌, ◌++◌, length, take, Ok, Err, vec_items, Result, Vec, sym, refl, ap, ◌∙◌, subst, subst₂, inl, inr, arith, length-append, Bor, MatchResult}
use Rattle.std.proofs.lemmas.Bool.{cases_lt}
use Rattle.std.proofs.lemmas.List.{append-nil, append_assoc, length-take}
use Rattle.std.specs.declared.alloc.Global.{Global}
use Rattle.scale.specs.Meaning.{Meaning}
use Rattle.ties.specs.declared.fault.TieFault.{TieFault}
use Rattle.ties.specs.Layouts.{Shape, shape}
use Rattle.ties.specs.declared.tie.Tie.{Tie as TieOf}
use Rattle.ties.specs.Equations.{Equation, equation, nth_equation}
use Rattle.tie_file.specs.declared.fault.FileFault.{FileFault}
use Rattle.tie_file.specs.declared.fault.FileFault.TheVariants.{Contents, Entry, Body}
use Rattle.tie_file.specs.Bodies.{equations}
use Rattle.tie_file.specs.Reading.{Bad}
use Rattle.tie_file.specs.Table.{WellFormed}
use Rattle.book.specs.declared.fault.LoadFault.{LoadFault}
use Rattle.book.specs.declared.fault.LoadFault.TheVariants as load
use Rattle.book.specs.declared.fault.LoadFault.TheVariants.{File, Mark}
use Rattle.book.specs.declared.fault.PostFault.{PostFault}
use Rattle.book.specs.declared.fault.PostFault.TheVariants.{List as Short, Tie, Full, Contradiction}
use Rattle.book.specs.declared.fault.SheetFault.{SheetFault}
use Rattle.book.specs.declared.fault.WithdrawFault.{WithdrawFault}
use Rattle.book.specs.declared.fault.WriteFault.{WriteFault}
use Rattle.book.specs.Withdrawing.{Withdrawn}
use Rattle.book.specs.Drawing.{DrawStopped, DrawnFrom}
use Rattle.book.specs.Writing.{WriteStopped, WrittenFrom}
use Rattle.book.specs.declared.reading.Reading.{Reading}
use Rattle.book.specs.Querying.{QueriedFrom, QueryStopped}
use Rattle.book.specs.Loading.{Grown, LoadListed, LoadedTo, RefusedAt, Taken, loaded_of}
use Rattle.book.specs.Posting.{Accepted, Listed, PostStopped, Posted, PostedTo}
use Rattle.book.specs.Held.{Held}
use Rattle.book.specs.Standing.{ledger}
use Rattle.book.proofs.Faultless.{no_fault}
use Rattle.replay.specs.declared.answer.Answer.{Answer}
use Rattle.replay.specs.declared.answer.Answer.TheVariants as answer
use Rattle.replay.specs.declared.call.Call.{Call}
use Rattle.replay.specs.declared.call.Call.TheVariants as call
use Rattle.replay.specs.declared.call.View.TheVariants as view
use Rattle.replay.specs.declared.call.Turn.{Turn}
use Rattle.replay.specs.Runs as Runs
use Rattle.replay.specs.Runs.{Fed, Fill, Fits, Place, Run, Step, calls_of, post, query, sheet, views, withdraw, write}
use Rattle.replay.specs.Performed.{Performed, PerformedAll, place_of}

-- one call more
pub run_more :
    (m : Meaning) (s : Shape) (p : Place) (cs : List Call) (rs : List Answer) (between q : Place) (c : Call) (a : Answer)
    → Run m s p cs rs between
    → Step m s between c a q
    → Run m s p (cs ++ (c ∷ [])) (rs ++ (a ∷ [])) q
run_more m s p [] [] between q c a ran step = (q, subst (λ (o : Place). Step m s o c a q) ran step, refl)
run_more m s p (d ∷ cs) (b ∷ rs) between q c a ran step =
    (ran.0, ran.1, run_more m s ran.0 cs rs between q c a ran.2 step)
run_more m s p [] (b ∷ rs) between q c a ran step = absurd ran
run_more m s p (d ∷ cs) [] between q c a ran step = absurd ran

-- a run and another behind it
pub run_join :
    (m : Meaning) (s : Shape) (p : Place) (cs ds : List Call) (rs ss : List Answer) (between q : Place)
    → Run m s p cs rs between
    → Run m s between ds ss q
    → Run m s p (cs ++ ds) (rs ++ ss) q
run_join m s p [] ds [] ss between q ran next = subst (λ (o : Place). Run m s o ds ss q) ran next
run_join m s p (c ∷ cs) ds (a ∷ rs) ss between q ran next =
    (ran.0, ran.1, run_join m s ran.0 cs ds rs ss between q ran.2 next)
run_join m s p [] ds (a ∷ rs) ss between q ran next = absurd ran
run_join m s p (c ∷ cs) ds [] ss between q ran next = absurd ran

-- one turn more
pub calls_more : (ts : List Turn) (t : Turn) → calls_of (ts ++ (t ∷ [])) ≡ calls_of ts ++ (t.while_open.now ++ views t.while_closed.now)
calls_more [] t = append-nil (t.while_open.now ++ views t.while_closed.now)
calls_more (u ∷ ts) t =
    ap (λ cs. (u.while_open.now ++ views u.while_closed.now) ++ cs) (calls_more ts t)
    ∙ sym (append_assoc (u.while_open.now ++ views u.while_closed.now) (calls_of ts) (t.while_open.now ++ views t.while_closed.now))

-- calls are performed one by one
module _ {S : Type 0} (meaning : S → Meaning) (b : Held S) (before : List Answer) where
  pub performed_more :
      (cs : List Call) (c : Call) (now new : Held S) (sofar after : List Answer) (a : Answer)
      → PerformedAll meaning b cs before now sofar
      → Performed meaning now c a new
      → after ≡ sofar ++ (a ∷ [])
      → PerformedAll meaning b (cs ++ (c ∷ [])) before new after
  performed_more cs c now new sofar after a done next pushed =
      record {
        same_scale = next.0 ∙ done.same_scale;
        same_layout = next.1 ∙ done.same_layout;
        answers = done.answers ++ (a ∷ []);
        put = pushed ∙ ap (λ xs. xs ++ (a ∷ [])) done.put ∙ append_assoc before done.answers (a ∷ []);
        ran =
            run_more (meaning b.scale) (shape b.layout) (place_of b) cs done.answers (place_of now) (place_of new) c a done.ran
            (subst₂ (λ (m : Meaning) (s : Shape). Step m s (place_of now) c a (place_of new)) (ap meaning done.same_scale)
            (ap shape done.same_layout) next.2);
      }

-- some calls, and others behind them
pub performed_join :
    {S : Type 0} (meaning : S → Meaning) (b now new : Held S) (cs ds : List Call) (before sofar after : List Answer)
    → PerformedAll meaning b cs before now sofar
    → PerformedAll meaning now ds sofar new after
    → PerformedAll meaning b (cs ++ ds) before new after
performed_join meaning b now new cs ds before sofar after done next =
    record {
      same_scale = next.same_scale ∙ done.same_scale;
      same_layout = next.same_layout ∙ done.same_layout;
      answers = done.answers ++ next.answers;
      put = next.put ∙ ap (λ xs. xs ++ next.answers) done.put ∙ append_assoc before done.answers next.answers;
      ran =
          run_join (meaning b.scale) (shape b.layout) (place_of b) cs ds done.answers next.answers (place_of now) (place_of new) done.ran
          (subst₂ (λ (m : Meaning) (s : Shape). Run m s (place_of now) ds next.answers (place_of new)) (ap meaning done.same_scale)
          (ap shape done.same_layout) next.ran);
    }

-- a tie that posting refuses does not fit
pub unfit :
    (m : Meaning) (s : Shape) (es : List Equation) (e : Equation) (ys : List ℕ) (f : PostFault)
    → PostStopped m s es e ys f
    → Fits m s es e ys
    → ⊥
unfit m s es e ys Short stopped fits = omega (arith, fits.enough)
unfit m s es e ys (Tie f) stopped fits = no_fault m s e f fits.sound stopped.1
unfit m s es e ys Full stopped fits = omega (arith, fits.room, stopped.2)
unfit m s es e ys Contradiction stopped fits = stopped.3 fits.some.0 fits.some.1

-- and one that it accepts does
pub fit :
    (m : Meaning) (s : Shape) (es : List Equation) (e : Equation) (ys : List ℕ) (fixed : ℕ)
    → 64 ≤ length ys
    → Accepted m s es e fixed
    → Fits m s es e ys
fit m s es e ys fixed enough accepted =
    record { enough = enough; sound = accepted.sound; room = accepted.room; some = accepted.some }

-- a longer ledger is another
pub longer : (es : List Equation) (e : Equation) → es ++ (e ∷ []) ≡ es → ⊥
longer es e same = omega (arith, length-append es (e ∷ []), ap length same)

longer_none : (es : List Equation) (e : Equation) → es ++ (e ∷ []) ≡ [] → ⊥
longer_none es e same = omega (arith, length-append es (e ∷ []), ap length same)

-- a file that is refused by its own checks is not well formed
ill : (f : List ℕ) (g : FileFault) → Bad f g → WellFormed f → ⊥
ill f Contents bad formed = bad formed.table
ill f Entry bad formed = bad.1 formed.entries
ill f Body bad formed = bad.2 formed.bodies

-- what a load answers tells how many of the file's ties fit
module _ (m : Meaning) (s : Shape) (es fs : List Equation) (ys : List ℕ) where
  fits_each : (n : ℕ) → 64 ≤ length ys → Taken m s es fs ys n → (i : ℕ) → i < n → Fits m s (es ++ take i fs) (nth_equation fs i) ys
  fits_each n enough taken i h = fit m s (es ++ take i fs) (nth_equation fs i) ys _ enough (taken.accepted i h).1

  fill_all : (n : ℕ) → 64 ≤ length ys → n ≡ length fs → Taken m s es fs ys n → Fill m s es fs ys n
  fill_all n enough all taken = record { most = taken.most; fit = fits_each n enough taken; end = inl all }

  fill_some : (n : ℕ) (f : PostFault) → 64 ≤ length ys → RefusedAt m s es fs ys n f → Fill m s es fs ys n
  fill_some n f enough refused =
      record {
        most = refused.taken.most;
        fit = fits_each n enough refused.taken;
        end = inr (refused.inside, unfit m s (es ++ take n fs) (nth_equation fs n) ys f refused.stopped);
      }

  -- none does where the list is too short
  fill_none : length ys < 64 → Fill m s es fs ys 0
  fill_none short =
      record {
        most = omega arith;
        fit = λ i h. absurd (omega (arith, h));
        end = elim (cases_lt 0 (length fs)) [
          | inl some ↦ inr (some, λ fits. omega (arith, fits.enough))
          | inr none ↦ inl (omega (arith, none))
        ];
      }

module _ {S : Type 0} (meaning : S → Meaning) (b new : Held S) where
  abbrev m : Meaning
  m = meaning b.scale

  abbrev s : Shape
  s = shape b.layout

  abbrev Moved : Call → Answer → Type 0
  Moved c a = (new.scale ≡ b.scale) × (new.layout ≡ b.layout) × Step m s (place_of b) c a (place_of new)

  -- a post, by what the book promises of it
  pub post_step :
      (t : TieOf) (list : Bor (List ℕ)) (r : Result ℕ PostFault) (v : Vec ℕ Global)
      → PostedTo meaning b (equation t) list.now r
      → Posted meaning b (equation t) r new
      → Listed meaning b (equation t) r list.now (vec_items v)
      → Moved (call.Post t list) (answer.Post r v)
  post_step t list (Ok fixed) v answered posted listed = (
    posted.0,
    posted.1,
    record {
      replies = post t list (Ok fixed) v answered listed;
      fed = inl (fit m s (ledger b.table) (equation t) list.now fixed answered.0 answered.1, posted.2);
      steady = λ same. absurd (longer (ledger b.table) (equation t) (sym posted.2 ∙ same));
    },
  )
  post_step t list (Err f) v answered posted listed = (
    ap (λ o. o.scale) posted,
    ap (λ o. o.layout) posted,
    record {
      replies = post t list (Err f) v answered listed;
      fed = inr (unfit m s (ledger b.table) (equation t) list.now f answered, ap (λ o. ledger o.table) posted);
      steady = λ same. ap place_of posted;
    },
  )

  -- a load
  module _ (f list : Bor (List ℕ)) where
    abbrev fs : List Equation
    fs = equations f.now

    load_fed :
        (r : Result ℕ LoadFault)
        → LoadedTo meaning b f.now list.now r
        → ledger new.table ≡ ledger b.table ++ take (loaded_of r) fs
        → Fed m s (ledger b.table) (call.Load f list) (ledger new.table) × (loaded_of r ≤ length fs)
    load_fed (Ok n) answered stand = (
      inl (answered.0, (n, fill_all m s (ledger b.table) fs list.now n answered.1 answered.2 answered.3, stand)),
      answered.3.most,
    )
    load_fed (Err (File g)) answered stand = (
      inr ((λ l. ill f.now g answered l.formed), stand ∙ append-nil (ledger b.table)),
      omega arith,
    )
    load_fed (Err Mark) answered stand = (
      inr ((λ l. answered.1 (l.mark, l.shape)), stand ∙ append-nil (ledger b.table)),
      omega arith,
    )
    load_fed (Err load.List) answered stand = (
      inl (answered.0, (0, fill_none m s (ledger b.table) fs list.now answered.1, stand)),
      omega arith,
    )
    load_fed (Err (load.Tie i g)) answered stand = (
      inl (answered.0, (i, fill_some m s (ledger b.table) fs list.now i g answered.1 answered.2, stand)),
      answered.2.taken.most,
    )

    pub load_step :
        (r : Result ℕ LoadFault) (v : Vec ℕ Global)
        → LoadedTo meaning b f.now list.now r
        → Grown b fs (loaded_of r) new
        → LoadListed meaning b f.now r list.now (vec_items v)
        → Moved (call.Load f list) (answer.Load r v)
    load_step r v answered grown listed =
        let fed = load_fed r answered grown.stand in (
          grown.same_scale,
          grown.same_layout,
          record {
            replies = Runs.load f list r v answered listed;
            fed = fed.0;
            steady = λ same.
                let n = loaded_of r in
                let kept : length (ledger b.table ++ take n fs) ≡ length (ledger b.table) = ap length (sym grown.stand ∙ same) in
                let none : n ≡ 0 =
                omega (arith, kept, length-append (ledger b.table) (take n fs), length-take n fs, fed.1)
                in
                ap place_of (grown.steady none);
          },
        )

  -- a withdrawal
  pub withdraw_step : (r : Result Unit WithdrawFault) → Withdrawn b r new → Moved call.Withdraw (answer.Withdraw r)
  withdraw_step (Ok u) done =
      let e = done.2.0 in
      let is = done.2.1 in (
        done.0,
        done.1,
        record {
          replies = withdraw (Ok u) (λ none. longer_none (ledger new.table) e (sym is ∙ none));
          fed = inl (e, is);
          steady = λ same. absurd (longer (ledger new.table) e (sym is ∙ sym same));
        },
      )
  withdraw_step (Err f) done = (
    ap (λ o. o.scale) done.1,
    ap (λ o. o.layout) done.1,
    record {
      replies = withdraw (Err f) done.0;
      fed = inr (done.0, ap (λ o. ledger o.table) done.1);
      steady = λ same. ap place_of done.1;
    },
  )

-- a sheet, which leaves the book as it was
pub sheet_step :
    {S : Type 0} (meaning : S → Meaning) (b : Held S) (list : Bor (List ℕ)) (r : Result ℕ SheetFault) (v : Vec ℕ Global)
    → MatchResult r (DrawnFrom meaning b list.now (vec_items v)) (λ _. DrawStopped b list.now (vec_items v))
    → Step (meaning b.scale) (shape b.layout) (place_of b) (call.View (view.Sheet list)) (answer.Sheet r v) (place_of b)
sheet_step meaning b list r v drawn = record { replies = sheet list r v drawn; fed = refl; steady = λ same. refl }

-- a query, which leaves it as it was too
pub query_step :
    {S : Type 0} (meaning : S → Meaning) (b : Held S) (t : TieOf) (r : Result Reading TieFault)
    → MatchResult r (QueriedFrom meaning b (equation t)) (QueryStopped meaning b (equation t))
    → Step (meaning b.scale) (shape b.layout) (place_of b) (call.View (view.Query t)) (answer.Query r) (place_of b)
query_step meaning b t r answered = record { replies = query t r answered; fed = refl; steady = λ same. refl }

-- nor does writing it change anything
pub write_step :
    {S : Type 0} (meaning : S → Meaning) (b : Held S) (list : Bor (List ℕ)) (r : Result ℕ WriteFault) (v : Vec ℕ Global)
    → MatchResult r (WrittenFrom meaning b list.now (vec_items v)) (λ _. WriteStopped b list.now (vec_items v))
    → Step (meaning b.scale) (shape b.layout) (place_of b) (call.View (view.Write list)) (answer.Write r v) (place_of b)
write_step meaning b list r v written = record { replies = write list r v written; fed = refl; steady = λ same. refl }
