use Rattle.counter_ties_c.proofs.Flags.{yes_is}
use Rattle.counter_ties_c.proofs.counter_ties_check.Goals as goal

pub returns-in-Ok-clause-trusted : goal.returns-in-Ok-clause-trusted
returns-in-Ok-clause-trusted c _ one = c.in-Ok.ensures.trusted (yes_is _ _ c.from.ensures one)
