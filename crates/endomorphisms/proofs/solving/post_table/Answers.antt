use Rattle.std.proofs.Common.{rules, ◌≡◌, ℕ, ◌+◌, ◌*◌, ◌<◌, length, Ok, Err, sym, ap, subst, le_refl, ◌∙◌, arith, suc-mul, add-one}
use Rattle.std.proofs.lemmas.Result.{err_from_is_err_and}
use Rattle.ties.specs.Layouts.{counters_of, shape}
use Rattle.ties.specs.Equations.{nth_equation}
use Rattle.book.specs.Posting.{Listed, Posted, PostedTo}
use Rattle.book.proofs.Loads.{Sofar, accepted, grown, refused, refused_at, sofar_more, taken}
use Rattle.endomorphisms.specs.declared.fault.Stop.{Stop}
use Rattle.endomorphisms.specs.Equations.{table_of, ties_of}
use Rattle.endomorphisms.proofs.Tables.{all_ties, tie_here, tie_inside}
use Rattle.endomorphisms.proofs.solving.post_table.Goals as goal

pub loop-counter-preserved : goal.loop-counter-preserved
loop-counter-preserved g c =
    let meaning = g.S.Scale.meaning in
    let first = c.args.book.now in
    let s = shape first.layout in
    let table = c.args.table.now in
    let fs = ties_of s (table_of table) in
    let row = c.loop-row.row-counter in
    let counter = c.loop-counter.counter-counter in
    let i = row * counters_of s + counter in
    let b = c.loop-counter.book in
    let ys = c.args.multipliers.now in
    let on = accepted Stop c.post.result _ _ c.in_ok-map_err.ensures.cases c.in_ok-map_err.ensures.variant in
    let below : counter < counters_of s = omega (arith, c.loop-counter-test.true, c.counters-counter-end.ensures, ap counters_of c.requires) in
    let is = c.tie.ensures ∙ c.tie-tie.ensures.tie ∙ tie_here (shape c.args.layout.now) s table row counter _ c.requires c.loop-row-test.true below in
    let inside : i < length fs = tie_inside s table row counter c.loop-row-test.true below in
    let answer : PostedTo meaning b (nth_equation fs i) ys (Ok on.0) = rw (is, c.loop-counter.invariant.1, on.1) at c.post.ensures.answer in
    let posted : Posted meaning b (nth_equation fs i) (Ok on.0) c.post.new.self = rw (is, on.1) at c.post.ensures.book in
    let kept : Listed meaning b (nth_equation fs i) (Ok on.0) c.loop-counter.multipliers c.post.new.multipliers =
    rw (is, on.1) at c.post.ensures.list
    in
    let next : i + 1 ≡ row * counters_of s + (counter + 1) = omega arith in (
      subst (λ (n : ℕ). Sofar meaning first fs ys n c.post.new.self) next
          (sofar_more meaning first fs ys i b c.post.new.self on.0 inside c.loop-counter.invariant.0 answer posted),
      kept ∙ c.loop-counter.invariant.1,
    )

pub loop-row-preserved : goal.loop-row-preserved
loop-row-preserved g c =
    let first = c.args.book.now in
    let s = shape first.layout in
    let fs = ties_of s (table_of c.args.table.now) in
    let row = c.loop-row.row-counter in
    let end : c.loop-counter.counter-counter ≡ counters_of s =
    omega (arith, c.loop-counter.auto.counter-counter-end, c.loop-counter-test.false, c.counters-counter-end.ensures, ap counters_of c.requires)
    in
    let next : row * counters_of s + c.loop-counter.counter-counter ≡ (row + 1) * counters_of s =
    ap (λ (n : ℕ). row * counters_of s + n) end ∙ sym (ap (λ (n : ℕ). n * counters_of s) (add-one row) ∙ suc-mul row (counters_of s))
    in (
      subst (λ (n : ℕ). Sofar g.S.Scale.meaning first fs c.args.multipliers.now n c.loop-counter.book) next c.loop-counter.invariant.0,
      c.loop-counter.invariant.1,
    )

pub returns-in_err-map_err : goal.returns-in_err-map_err
returns-in_err-map_err g c =
    let meaning = g.S.Scale.meaning in
    let first = c.args.book.now in
    let s = shape first.layout in
    let table = c.args.table.now in
    let fs = ties_of s (table_of table) in
    let row = c.loop-row.row-counter in
    let counter = c.loop-counter.counter-counter in
    let i = row * counters_of s + counter in
    let b = c.loop-counter.book in
    let ys = c.args.multipliers.now in
    let p = err_from_is_err_and c.from_residual.result c.from_residual.ensures.1 in
    let stop = refused c.post.result _ _ c.in_err-map_err.ensures.cases c.in_err-map_err.ensures.variant in
    let e = stop.0 in
    let named : c.in_err-map_err.field-0.0 ≡ record { equation = row; counter = counter; fault = e } = search rules in
    let below : counter < counters_of s = omega (arith, c.loop-counter-test.true, c.counters-counter-end.ensures, ap counters_of c.requires) in
    let is = c.tie.ensures ∙ c.tie-tie.ensures.tie ∙ tie_here (shape c.args.layout.now) s table row counter _ c.requires c.loop-row-test.true below in
    let inside : i < length fs = tie_inside s table row counter c.loop-row-test.true below in
    let answer : PostedTo meaning b (nth_equation fs i) ys (Err e) =
    rw (is, c.loop-counter.invariant.1, stop.1) at c.post.ensures.answer in
    let posted : Posted meaning b (nth_equation fs i) (Err e) c.post.new.self = rw (is, stop.1) at c.post.ensures.book in
    let listed : Listed meaning b (nth_equation fs i) (Err e) ys c.post.new.multipliers =
    rw (is, c.loop-counter.invariant.1, stop.1) at c.post.ensures.list in
    let done =
    refused_at meaning first fs ys i b c.post.new.self e c.post.new.multipliers inside c.loop-counter.invariant.0 answer posted listed
    in
    rw (p.1 ∙ ap Err (p.2 ∙ named))
    (record {
      answer = (below, done.0);
      book = grown meaning first fs ys i _ done.1;
      list = done.2;
    })

pub returns : goal.returns
returns g c =
    let meaning = g.S.Scale.meaning in
    let first = c.args.book.now in
    let s = shape first.layout in
    let fs = ties_of s (table_of c.args.table.now) in
    let ys = c.args.multipliers.now in
    let end : c.loop-row.row-counter ≡ length c.args.table.now =
    omega (arith, c.loop-row.auto.row-counter-end, c.loop-row-test.false)
    in
    let all = all_ties s c.args.table.now c.loop-row.row-counter end in
    let sofar : Sofar meaning first fs ys (length fs) c.loop-row.book =
    subst (λ (n : ℕ). Sofar meaning first fs ys n c.loop-row.book) all c.loop-row.invariant.0
    in
    record {
      answer = taken meaning first fs ys (length fs) c.loop-row.book (le_refl (length fs)) sofar;
      book = grown meaning first fs ys (length fs) c.loop-row.book sofar;
      list = c.loop-row.invariant.1;
    }
