use Rattle.std.proofs.Common.{◌≡◌, ◌^◌}
use Rattle.scales.specs.Numbering.{ungray}
use Rattle.scales.proofs.disc.position_of_gray.Given as goal

abbrev pub invariant-loop-digits : goal.invariant-loop-digits
invariant-loop-digits l = l.position ≡ ungray (2 ^ l.digits-index) l.code
