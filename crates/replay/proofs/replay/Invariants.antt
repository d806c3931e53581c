use Rattle.std.proofs.Common.{[], take, vec_items}
use Rattle.replay.specs.Performed.{PerformedAll}
use Rattle.replay.specs.Runs.{calls_of}
use Rattle.replay.proofs.replay.Given as goal

abbrev pub invariant-loop-turn : goal.invariant-loop-turn
invariant-loop-turn g l =
    PerformedAll g.S.Scale.meaning l.initial.book (calls_of (take l.turn-index l.turns)) [] l.book (vec_items l.answers)
