use Rattle.std.proofs.Common.{length, arith, ap}
use Rattle.std.proofs.lemmas.List.FromFn.{map-range_with_len_more, length-map-range_with_len}
use Rattle.tie_file.specs.Bodies.{term_in}
use Rattle.tie_file.proofs.body.tie_of.Goals as goal

pub push-requires : goal.push-requires
push-requires c =
    let n = length-map-range_with_len (term_in c.args.body.now) 0 c.loop-i.i in
    let e = ap length c.loop-i.invariant in
    omega arith

pub loop-i-preserved : goal.loop-i-preserved
loop-i-preserved c =
    let more = map-range_with_len_more (term_in c.args.body.now) 0 c.loop-i.i c.loop-i.i (omega arith) in
    cc
