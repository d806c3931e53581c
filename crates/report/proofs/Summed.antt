-- The report on a book to which the ties of a file were posted.
use Rattle.std.proofs.Common.{◌≡◌, ℕ, ◌^◌, ◌≤◌, List, [], ◌++◌, length, take, replicate, Ok, Err, Result, refl, sym, ap, ◌∙◌, subst, arith}
use native.Mathlib.Nat.{one-le-pow}
use Rattle.scale.specs.Meaning.{Laws, Meaning, base}
use Rattle.ties.specs.Layouts.{Assignment, Shape, shape}
use Rattle.ties.specs.Equations.{Count, Equation, Solves, nth}
use Rattle.book.specs.declared.fault.Stop.{Stop}
use Rattle.book.specs.Held.{Held}
use Rattle.book.specs.Loading.{AllAnswered, AllPostedTo, Grown, Taken, accepted_of}
use Rattle.book.specs.Standing.{ledger}
use Rattle.report.specs.declared.answer.Report.{Report}
use Rattle.report.specs.Reported.{Digits, Reported, StoppedAt, stop_of}

-- where exactly q^f assignments meet the equations, some does
solvable : (m : Meaning) → Laws m → (s : Shape) (es : List Equation) (f : ℕ) → Count m s es f → (x : Assignment) × Solves m s es x
solvable m l s es f count =
    let some : 1 ≤ base m ^ f = one-le-pow f (base m) (omega (arith, l.base_least)) in
    (nth count.list 0, count.solve 0 (omega (arith, count.number)))

module _ (m : Meaning) (s : Shape) (fs : List Equation) where
  -- the ties that stand were accepted one behind the other, and where posting stopped
  stood : (r : Result ℕ Stop) → AllAnswered m s [] fs (replicate 64 0) r → Taken m s [] fs (replicate 64 0) (accepted_of r)
  stood (Ok n) answer = answer.1
  stood (Err stop) answer = answer.taken

  stopped : (r : Result ℕ Stop) → AllAnswered m s [] fs (replicate 64 0) r → StoppedAt m s fs (accepted_of r) (stop_of r)
  stopped (Ok n) answer = answer.0
  stopped (Err stop) answer = (refl, answer.inside, answer.stopped)

module _ {S : Type 0} (meaning : S → Meaning) (first b : Held S) (fs : List Equation) (r : Result ℕ Stop) (t : Report) where
  abbrev m : Meaning
  m = meaning first.scale

  abbrev s : Shape
  s = shape first.layout

  pub reported :
      Laws m
      → ledger first.table ≡ []
      → AllPostedTo meaning first fs (replicate 64 0) r
      → Grown first fs (accepted_of r) b
      → t.standing ≡ accepted_of r
      → t.stopped ≡ stop_of r
      → Digits (meaning b.scale) (shape b.layout) (ledger b.table) t
      → Reported m s fs t
  reported laws none answered grown standing stop digits =
      let answer = subst (λ (es : List Equation). AllAnswered m s es fs (replicate 64 0) r) none answered in
      let taken = stood m s fs r answer in
      let stand : ledger b.table ≡ take t.standing fs =
      grown.stand ∙ ap (λ es. es ++ take (accepted_of r) fs) none ∙ ap (λ n. take n fs) (sym standing)
      in
      let here : Digits m s (take t.standing fs) t =
      subst (λ (es : List Equation). Digits m s es t) stand
      (subst (λ (l : Shape). Digits m l (ledger b.table) t) (ap shape grown.same_layout)
      (subst (λ (k : Meaning). Digits k (shape b.layout) (ledger b.table) t) (ap meaning grown.same_scale) digits))
      in
      record {
        most = subst (λ (n : ℕ). n ≤ length fs) (sym standing) taken.most;
        accepted = λ i h. taken.accepted i (omega (arith, h, standing));
        solvable = solvable m laws s (take t.standing fs) t.free here.count;
        digits = here;
        stop =
            subst (λ (n : ℕ). StoppedAt m s fs n t.stopped) (sym standing)
            (subst (StoppedAt m s fs (accepted_of r)) (sym stop) (stopped m s fs r answer));
      }
