use Rattle.std.proofs.Common.{take, vec_items}
use Rattle.replay.specs.Performed.{PerformedAll}
use Rattle.replay.specs.Runs.{views}
use Rattle.replay.proofs.performing.look_all.Given as goal

abbrev pub invariant-loop-call : goal.invariant-loop-call
invariant-loop-call g l =
    PerformedAll g.S.Scale.meaning l.book (views (take l.call-index l.calls)) (vec_items l.initial.answers) l.book (vec_items l.answers)
