use Rattle.std.proofs.Common.{◌≡◌, ◌+◌, length, map, ap, ◌∙◌, subst, arith}
use Rattle.std.proofs.lemmas.List.{length-map}
use Rattle.ties.specs.Equations.{equation_in}
use Rattle.ties.specs.Layouts.{shape}
use Rattle.tie_file.specs.Putting.{Begun}
use Rattle.tie_file.specs.Writing.{tie_size, ties_end}
use Rattle.tie_file.proofs.Laying.{begun_more, ends_before, next_inside, next_stated, stated_more}
use Rattle.tie_file.proofs.Writes.{written}
use Rattle.tie_file.proofs.writing.write.Goals as goal

pub put_tie-end-requires-clause-room : goal.put_tie-end-requires-clause-room
put_tie-end-requires-clause-room g c =
    let states = g.T.Tied.states in
    let ties = c.args.ties.now in
    let i = c.loop-i.i in
    let tie = c.index-ties-i.result in
    let e = equation_in c.owned_tie.result.now in
    let next = next_stated states ties i tie c.loop-i-test.true c.index-ties-i.is e c.owned_tie.ensures in
    let inside = next_inside states ties i tie c.loop-i-test.true c.index-ties-i.is e c.owned_tie.ensures in
    let ends =
    ends_before c.args.mark (shape c.args.layout.now) (map states ties) i (length (map states ties)) inside (omega arith)
    in omega (
      arith,
      ends,
      ap tie_size next,
      c.loop-i.invariant.1,
      c.loop-i.invariant.0.long,
      c.file_size.ensures.size,
      c.if-list-file_size.false,
    )

pub loop-i-preserved : goal.loop-i-preserved
loop-i-preserved g c =
    let states = g.T.Tied.states in
    let ties = c.args.ties.now in
    let i = c.loop-i.i in
    let tie = c.index-ties-i.result in
    let e = equation_in c.owned_tie.result.now in
    let next = next_stated states ties i tie c.loop-i-test.true c.index-ties-i.is e c.owned_tie.ensures in
    let inside = next_inside states ties i tie c.loop-i-test.true c.index-ties-i.is e c.owned_tie.ensures in
    let s = shape c.args.layout.now in
    let more = stated_more states ties i tie c.loop-i-test.true c.index-ties-i.is e c.owned_tie.ensures s in
    let end = c.loop-i.invariant.1 in (
      begun_more c.args.mark s (map states ties) c.args.list.now c.loop-i.list c.put_tie-end.new.list i (i + 1) c.loop-i.end e
          inside (omega arith) end next c.loop-i.invariant.0 c.put_tie-end.ensures.put,
      omega (arith, more, end, c.put_tie-end.ensures.end),
      λ j. omega (arith, c.type_inv.list j),
    )

pub returns : goal.returns
returns g c =
    let ties = c.args.ties.now in
    let es = map g.T.Tied.states ties in
    let s = shape c.args.layout.now in
    let count = length-map ties g.T.Tied.states in
    let all : c.loop-i.i ≡ length es = omega (arith, count, c.loop-i-test.false, c.loop-i.auto.i-end) in
    let size = c.loop-i.invariant.1 ∙ ap (ties_end s es) all in
    let room = c.file_size.ensures in
    written c.args.mark s es c.args.list.now c.loop-i.list c.loop-i.end
    size
    (omega (arith, size, room.size, c.if-list-file_size.false))
    (omega (arith, size, room.size, room.most))
    (omega (arith, count, c.if-ties-gt64.false))
    room.small
    c.loop-i.invariant.2
    (subst (λ n. Begun c.args.mark s es n c.args.list.now c.loop-i.list) all c.loop-i.invariant.0)
