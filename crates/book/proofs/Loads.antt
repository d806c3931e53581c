-- The book while the ties of a file are posted to it.
use Rattle.std.proofs.Common.{◌≡◌, ℕ, ◌+◌, ◌<◌, ◌≤◌, List, [], ◌∷◌, ◌++◌, length, take, true, false, Ok, Err, Result, MatchResult, is_ok, refl, sym, ap, ◌∙◌, subst, arith, below_more}
use borrow.Author.Tests.{clash}
use Rattle.std.proofs.lemmas.List.{take_more, append_assoc, append-nil}
use Rattle.scale.specs.Meaning.{Meaning}
use Rattle.ties.specs.Layouts.{Shape, shape}
use Rattle.ties.specs.Equations.{Equation, nth_equation}
use Rattle.book.specs.Held.{Held}
use Rattle.book.specs.declared.fault.LoadFault.{LoadFault}
use Rattle.book.specs.declared.fault.LoadFault.TheVariants.{File, Mark, List as Short, Tie}
use Rattle.book.specs.declared.fault.PostFault.{PostFault}
use Rattle.tie_file.specs.Bodies.{equations}
use Rattle.book.specs.Loading.{Grown, LoadListed, LoadStopped, RefusedAt, Taken, loaded_of}
use Rattle.book.specs.Posting.{Accepted, Listed, Listing, Posted, PostStopped, PostedTo}
use Rattle.book.specs.Standing.{ledger}

-- of the books from the first on, this one is that in which the first i of the equations fs stand too, each accepted
-- behind the ones before it
pub record Sofar {S : Type 0} (meaning : S → Meaning) (first : Held S) (fs : List Equation) (ys : List ℕ) (i : ℕ) (b : Held S) : Type 0
  where
    pub same_scale : b.scale ≡ first.scale
    pub same_layout : b.layout ≡ first.layout
    pub stand : ledger b.table ≡ ledger first.table ++ take i fs
    pub accepted :
        (j : ℕ)
        → j < i
        → (fixed : ℕ) × Accepted (meaning first.scale) (shape first.layout) (ledger first.table ++ take j fs) (nth_equation fs j) fixed
    pub steady : i ≡ 0 → b ≡ first
    pub listed : 1 ≤ i → 64 ≤ length ys

module _ {S : Type 0} (meaning : S → Meaning) (first : Held S) (fs : List Equation) (ys : List ℕ) where
  abbrev m : Meaning
  m = meaning first.scale

  abbrev s : Shape
  s = shape first.layout

  abbrev stood : ℕ → List Equation
  stood i = ledger first.table ++ take i fs

  -- what is said of the book is said of the scale and the layout of the first, and of the equations that stand by then
  pub said :
      (P : Meaning → Shape → List Equation → Type 0) (i : ℕ) (b : Held S)
      → Sofar meaning first fs ys i b
      → P (meaning b.scale) (shape b.layout) (ledger b.table)
      → P m s (stood i)
  said P i b sofar p =
      subst (P m s) sofar.stand
      (subst (λ (l : Shape). P m l (ledger b.table)) (ap shape sofar.same_layout)
      (subst (λ (k : Meaning). P k (shape b.layout) (ledger b.table)) (ap meaning sofar.same_scale) p))

  -- one more is accepted
  pub sofar_more :
      (i : ℕ) (b c : Held S) (fixed : ℕ)
      → i < length fs
      → Sofar meaning first fs ys i b
      → PostedTo meaning b (nth_equation fs i) ys (Ok fixed)
      → Posted meaning b (nth_equation fs i) (Ok fixed) c
      → Sofar meaning first fs ys (i + 1) c
  sofar_more i b c fixed h sofar answered posted =
      record {
        same_scale = posted.0 ∙ sofar.same_scale;
        same_layout = posted.1 ∙ sofar.same_layout;
        stand =
            posted.2
            ∙ ap (λ q. q ++ (nth_equation fs i ∷ [])) sofar.stand
            ∙ append_assoc (ledger first.table) (take i fs) (nth_equation fs i ∷ [])
            ∙ ap (λ q. ledger first.table ++ q) (sym (take_more fs i _ h));
        accepted =
            below_more (λ j. (fixed : ℕ) × Accepted m s (stood j) (nth_equation fs j) fixed) i sofar.accepted
            (fixed, said (λ k l q. Accepted k l q (nth_equation fs i) fixed) i b sofar answered.1);
        steady = λ none. absurd (omega (arith, none));
        listed = λ some. answered.0;
      }

  -- so the first i are accepted
  pub taken : (i : ℕ) (b : Held S) → i ≤ length fs → Sofar meaning first fs ys i b → Taken m s (ledger first.table) fs ys i
  taken i b most sofar = record { most = most; listed = sofar.listed; accepted = sofar.accepted }

  -- it is refused, and the book is as it was
  pub refused_at :
      (i : ℕ) (b c : Held S) (e : PostFault) (new : List ℕ)
      → i < length fs
      → Sofar meaning first fs ys i b
      → PostedTo meaning b (nth_equation fs i) ys (Err e)
      → Posted meaning b (nth_equation fs i) (Err e) c
      → Listed meaning b (nth_equation fs i) (Err e) ys new
      → RefusedAt m s (ledger first.table) fs ys i e
      × Sofar meaning first fs ys i c
      × Listing m s (stood i) (nth_equation fs i) (Err e) ys new
  refused_at i b c e new h sofar answered same listed = (
    record {
      taken = taken i b (omega (arith, h)) sofar;
      inside = h;
      stopped = said (λ k l q. PostStopped k l q (nth_equation fs i) ys e) i b sofar answered;
    },
    subst (Sofar meaning first fs ys i) (sym same) sofar,
    said (λ k l q. Listing k l q (nth_equation fs i) (Err e) ys new) i b sofar listed,
  )

-- where a book has so far taken the first n, it has grown by them
pub grown :
    {S : Type 0} (meaning : S → Meaning) (first : Held S) (fs : List Equation) (ys : List ℕ) (n : ℕ) (b : Held S)
    → Sofar meaning first fs ys n b
    → Grown first fs n b
grown meaning first fs ys n b sofar =
    record { same_scale = sofar.same_scale; same_layout = sofar.same_layout; stand = sofar.stand; steady = sofar.steady }

-- a post that is refused, and what is said of its fault; and one that is not
pub refused :
    {G : Type 0} (r : Result ℕ PostFault) (g : G) (K : PostFault → Type 0)
    → MatchResult r (λ x. ◌≡◌ {A = Result ℕ G} (Err g) (Ok x)) K
    → false ≡ is_ok r
    → (e : PostFault) × (r ≡ Err e) × K e
refused (Ok x) g K cases none = absurd (clash none)
refused (Err e) g K cases none = (e, refl, cases)

pub accepted :
    (G : Type 0) (r : Result ℕ PostFault) (n : ℕ) (K : PostFault → Type 0)
    → MatchResult r (λ x. ◌≡◌ {A = Result ℕ G} (Ok n) (Ok x)) K
    → true ≡ is_ok r
    → (x : ℕ) × (r ≡ Ok x)
accepted G (Ok x) n K cases some = (x, refl)
accepted G (Err e) n K cases some = absurd (clash (sym some))

-- a load that is stopped before its first tie leaves book and list as they were
pub unloaded :
    {S : Type 0} (meaning : S → Meaning) (b : Held S) (f : List ℕ) (g : LoadFault) (old : List ℕ)
    → ((es : List Equation) (ys : List ℕ) → LoadStopped (meaning b.scale) (shape b.layout) es f ys g)
    → Grown b (equations f) (loaded_of (Err g)) b × LoadListed meaning b f (Err g) old old
unloaded meaning b f g old stopped = go g stopped
  where
    same : ledger b.table ≡ ledger b.table ++ []
    same = sym (append-nil (ledger b.table))

    go :
        (g : LoadFault)
        → ((es : List Equation) (ys : List ℕ) → LoadStopped (meaning b.scale) (shape b.layout) es f ys g)
        → Grown b (equations f) (loaded_of (Err g)) b × LoadListed meaning b f (Err g) old old
    go (File e) stopped = (record { same_scale = refl; same_layout = refl; stand = same; steady = λ _. refl }, refl)
    go Mark stopped = (record { same_scale = refl; same_layout = refl; stand = same; steady = λ _. refl }, refl)
    go Short stopped = (record { same_scale = refl; same_layout = refl; stand = same; steady = λ _. refl }, refl)
    go (Tie i e) stopped = absurd (omega (arith, (stopped [] []).1))
