use Rattle.std.proofs.Common.{min, ap, ◌∙◌}
use Rattle.book.proofs.Filling.{level_is}
use Rattle.book.proofs.Queries.{least_more}
use Rattle.book.proofs.settling.settled_digits.Goals as goal

pub loop-total-preserved : goal.loop-total-preserved
loop-total-preserved g c =
    let m = g.S.Scale.meaning c.args.tie.now.scale.now in
    let l = g.met.S.Scale.lawful c.args.tie.now.scale.now in
    let level = level_is m l _ c.level.result (c.requires c.loop-total.total-index) c.level.ensures in
    least_more m _ c.args.totals.now c.loop-total.total-index c.loop-total.settled c.min-settled.result
    (c.min-settled.ensures ∙ ap (min c.loop-total.settled) level) c.loop-total.invariant
