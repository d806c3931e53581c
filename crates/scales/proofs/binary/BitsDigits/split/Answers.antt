use Rattle.scales.proofs.Twos.{trailing_parts}
use Rattle.scales.proofs.binary.BitsDigits.split.Goals as goal

pub returns : goal.returns
returns c = trailing_parts c.args.a c.requires.0 c.ranges.a.fits
