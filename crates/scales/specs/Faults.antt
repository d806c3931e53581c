-- The refusal of each fault.
use Rattle.refusals.specs.declared.Refusal.{Refusal}
use Rattle.refusals.specs.declared.Refusal.TheVariants.{Numbers as WrongNumbers}
use Rattle.scales.specs.declared.fault.ScaleFault.{ScaleFault}
use Rattle.scales.specs.declared.fault.ScaleFault.TheVariants.{Numbers}

abbrev pub refused : ScaleFault → Refusal
refused Numbers = WrongNumbers
