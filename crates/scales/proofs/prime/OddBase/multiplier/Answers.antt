use Rattle.std.proofs.Common.{arith}
use Rattle.scales.proofs.OddBases.{odd_size}
use Rattle.scales.proofs.prime.OddBase.multiplier.Goals as goal

pub nonzero_div-result : goal.nonzero_div-result
nonzero_div-result c = omega (arith, c.from-3.ensures, odd_size c.args.self.now)
