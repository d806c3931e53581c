use Rattle.std.proofs.Common.{take, vec_items}
use Rattle.replay.specs.Performed.{PerformedAll}
use Rattle.replay.proofs.performing.perform_all.Given as goal

abbrev pub invariant-loop-call : goal.invariant-loop-call
invariant-loop-call g l =
    PerformedAll g.S.Scale.meaning l.initial.book (take l.call-index l.calls) (vec_items l.initial.answers) l.book (vec_items l.answers)
