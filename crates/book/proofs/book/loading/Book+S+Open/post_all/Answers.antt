use Rattle.std.proofs.Common.{rules, ◌≡◌, ◌<◌, length, Ok, Err, ap, ◌∙◌, arith}
use Rattle.std.proofs.lemmas.Result.{err_from_is_err_and}
use Rattle.std.proofs.lemmas.Option.{MatchOption-at_some}
use Rattle.ties.specs.Equations.{nth_equation}
use Rattle.tie_file.specs.Bodies.{equations}
use Rattle.tie_file.proofs.WellFormed.{equations_length}
use Rattle.book.specs.declared.fault.Stop.{Stop}
use Rattle.book.specs.Posting.{Listed, Posted, PostedTo}
use Rattle.book.proofs.Loads.{accepted, grown, refused, refused_at, sofar_more, taken}
use Rattle.book.proofs.book.loading.Book+S+Open.post_all.Goals as goal

pub returns-in_err-map_err : goal.returns-in_err-map_err
returns-in_err-map_err g c =
    let meaning = g.S.Scale.meaning in
    let first = c.args.self.now in
    let fs = equations c.args.file.now in
    let i = c.loop-i.i-counter in
    let b = c.loop-i.self in
    let ys = c.args.multipliers.now in
    let p = err_from_is_err_and c.from_residual.result c.from_residual.ensures.1 in
    let stop = refused c.post.result _ _ c.in_err-map_err.ensures.cases c.in_err-map_err.ensures.variant in
    let e = stop.0 in
    let named : c.in_err-map_err.field-0.0 ≡ record { tie = i; fault = e } = search rules in
    let is =
    (MatchOption-at_some _ _ _ c.unwrap-tie.ensures c.tie.ensures).1
    ∙ (MatchOption-at_some _ _ _ c.unwrap-read.ensures c.read_tie.ensures).2
    in
    let inside : i < length fs = omega (arith, equations_length c.args.file.now, c.ties-i-end.ensures, c.loop-i-test.true) in
    let answer : PostedTo meaning b (nth_equation fs i) ys (Err e) =
    rw (is, c.loop-i.invariant.1, stop.1) at c.post.ensures.answer in
    let posted : Posted meaning b (nth_equation fs i) (Err e) c.post.new.self = rw (is, stop.1) at c.post.ensures.book in
    let listed : Listed meaning b (nth_equation fs i) (Err e) ys c.post.new.multipliers =
    rw (is, c.loop-i.invariant.1, stop.1) at c.post.ensures.list in
    let done =
    refused_at meaning first fs ys i b c.post.new.self e c.post.new.multipliers inside c.loop-i.invariant.0 answer posted listed
    in
    rw (p.1 ∙ ap Err (p.2 ∙ named))
    (record {
      answer = done.0;
      book = grown meaning first fs ys i _ done.1;
      list = done.2;
    })

pub loop-i-preserved : goal.loop-i-preserved
loop-i-preserved g c =
    let meaning = g.S.Scale.meaning in
    let fs = equations c.args.file.now in
    let i = c.loop-i.i-counter in
    let b = c.loop-i.self in
    let ys = c.args.multipliers.now in
    let on = accepted Stop c.post.result _ _ c.in_ok-map_err.ensures.cases c.in_ok-map_err.ensures.variant in
    let is =
    (MatchOption-at_some _ _ _ c.unwrap-tie.ensures c.tie.ensures).1
    ∙ (MatchOption-at_some _ _ _ c.unwrap-read.ensures c.read_tie.ensures).2
    in
    let inside : i < length fs = omega (arith, equations_length c.args.file.now, c.ties-i-end.ensures, c.loop-i-test.true) in
    let answer : PostedTo meaning b (nth_equation fs i) ys (Ok on.0) = rw (is, c.loop-i.invariant.1, on.1) at c.post.ensures.answer in
    let posted : Posted meaning b (nth_equation fs i) (Ok on.0) c.post.new.self = rw (is, on.1) at c.post.ensures.book in
    let kept : Listed meaning b (nth_equation fs i) (Ok on.0) c.loop-i.multipliers c.post.new.multipliers =
    rw (is, on.1) at c.post.ensures.list
    in (
      sofar_more meaning c.args.self.now fs ys i b c.post.new.self on.0 inside c.loop-i.invariant.0 answer posted,
      kept ∙ c.loop-i.invariant.1,
    )

pub returns : goal.returns
returns g c =
    let meaning = g.S.Scale.meaning in
    let first = c.args.self.now in
    let fs = equations c.args.file.now in
    let ys = c.args.multipliers.now in
    let end : c.loop-i.i-counter ≡ c.ties.result =
    omega (arith, c.loop-i.auto.i-counter-end, c.loop-i-test.false, c.ties.ensures, c.ties-i-end.ensures)
    in
    let all : c.ties.result ≡ length fs = omega (arith, equations_length c.args.file.now, c.ties.ensures) in
    let sofar = rw end at c.loop-i.invariant.0 in
    record {
      answer = (all, taken meaning first fs ys c.ties.result c.loop-i.self (omega (arith, all)) sofar);
      book = grown meaning first fs ys c.ties.result c.loop-i.self sofar;
      list = c.loop-i.invariant.1;
    }
