use Rattle.std.proofs.Common.{rules}
use Rattle.scales.specs.declared.kind.Kind.TheVariants.{Binary, Prime, Disc}
use Rattle.scales.proofs.any.AnyScale.from_mark.Goals as goal

pub returns-in_err-try_from : goal.returns-in_err-try_from
returns-in_err-try_from c =
    let none = c.in_err-try_from.ensures in
    let binary = none Binary in
    let prime = none Prime in
    let disc = none Disc in
    search rules
