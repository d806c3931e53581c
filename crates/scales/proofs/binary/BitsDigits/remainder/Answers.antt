use Rattle.std.proofs.Common.{ap, ◌∙◌}
use lib.Bits.{bit_and, and_mask}
use Rattle.scales.proofs.binary.BitsDigits.remainder.Goals as goal

pub returns : goal.returns
returns c = ap (bit_and c.args.x) (c.from.ensures ∙ c.args.self.now.whole) ∙ and_mask c.args.x c.args.self.now.length
