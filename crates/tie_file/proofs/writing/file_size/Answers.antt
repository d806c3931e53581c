use Rattle.std.proofs.Common.{arith}
use Rattle.ties.specs.Equations.{equation_in}
use Rattle.ties.specs.Layouts.{shape}
use Rattle.tie_file.proofs.Laying.{small_more, stated_more}
use Rattle.tie_file.proofs.writing.file_size.Goals as goal

pub loop-tie-preserved : goal.loop-tie-preserved
loop-tie-preserved g c =
    let ties = c.args.ties.now in
    let i = c.loop-tie.tie-index in
    let e = equation_in c.owned_tie.result.now in
    let size = c.tie_size-size.ensures in
    let more = stated_more g.T.Tied.states ties i c.tie-item.result c.loop-tie-test.true c.tie-item.is e c.owned_tie.ensures (shape c.args.layout.now) in (
      omega (arith, more, size.0, c.loop-tie.invariant.0),
      omega (arith, size.1, c.loop-tie.invariant.1),
      small_more g.T.Tied.states ties i c.tie-item.result c.loop-tie-test.true c.tie-item.is e c.owned_tie.ensures
          (omega (arith, size.0, size.1)) c.loop-tie.invariant.2,
    )
