use Rattle.std.proofs.Common.{arith}
use Rattle.scales.specs.Counting.{counting}
use Rattle.scales.proofs.Adding.{add_mul_mod, multiple_more}
use Rattle.scales.proofs.digits.Digits.add_multiple.Goals as goal

pub loop-j-preserved : goal.loop-j-preserved
loop-j-preserved g c =
    multiple_more (counting (g.Self.Digits.counts c.args.self.now)) c.args.by c.args.from.now c.args.to.now c.loop-j.to
    c.loop-j.j c.remainder.result (omega arith)
    (simp (c.remainder.ensures, c.from.ensures, c.from-in-loop-j.ensures, c.from-in-loop-j-2.ensures) (add_mul_mod _ _ _ _))
    c.loop-j.invariant
