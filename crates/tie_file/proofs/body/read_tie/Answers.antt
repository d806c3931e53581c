use Rattle.std.proofs.Common.{◌<◌, length, arith}
use Rattle.std.proofs.lemmas.List.{take_more_set}
use Rattle.std.proofs.lemmas.List.FromFn.{map-range_with_len_more}
use Rattle.tie_file.specs.Bodies.{term_in}
use Rattle.tie_file.proofs.body.read_tie.Goals as goal

-- one more term at the front
pub loop-i-preserved : goal.loop-i-preserved
loop-i-preserved c =
    let i = c.loop-i.i in
    let room = c.loop-i.term-items in
    let less : i < length room = omega arith in
    let front = take_more_set room i c.nth_term.result less in
    let more = map-range_with_len_more (term_in c.args.body.now) 0 i i (omega arith) in
    cc
