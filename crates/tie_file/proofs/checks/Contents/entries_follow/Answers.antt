use Rattle.std.proofs.Common.{arith}
use Rattle.tie_file.proofs.Fitting.{entries_all}
use Rattle.tie_file.proofs.checks.Contents.entries_follow.Goals as goal

pub returns : goal.returns
returns c =
    let contents = c.args.self.now in
    entries_all contents.file.now c.loop-i.i c.loop-i.end (omega (arith, contents.all))
    (omega (arith, contents.table.first, contents.all)) c.loop-i.invariant.0 c.loop-i.invariant.1
