-- What the scales of this crate mean: each is the one that its mark names.
use Rattle.scale.specs.Meaning.{Meaning}
use Rattle.scales.specs.Kinds.{binary_mark, prime_mark, disc_mark, named}
use Rattle.scales.specs.declared.any.AnyScale.{AnyScale}
use Rattle.scales.specs.declared.any.AnyScale.TheVariants.{Binary as OfBinary, Prime as OfPrime, Disc as OfDisc}
use Rattle.scales.specs.declared.binary.Bits.{Bits}
use Rattle.scales.specs.declared.counting.Counting.{Counting}
use Rattle.scales.specs.declared.disc.Disc.{Disc}
use Rattle.scales.specs.declared.prime.OddBase.{OddBase}

abbrev pub binary : Counting Bits → Meaning
binary s = named (binary_mark s.digits.length)

abbrev pub prime : Counting OddBase → Meaning
prime s = named (prime_mark s.digits.base s.digits.length)

abbrev pub disc : Disc → Meaning
disc s = named (disc_mark s.positions.digits.length)

abbrev pub any_scale : AnyScale → Meaning
any_scale (OfBinary s) = binary s
any_scale (OfPrime s) = prime s
any_scale (OfDisc s) = disc s
