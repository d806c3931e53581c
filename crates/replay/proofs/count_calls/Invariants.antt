use Rattle.std.proofs.Common.{◌≡◌, ◌-◌, ◌^◌, length, min, take}
use Rattle.replay.specs.Runs.{calls_of}
use Rattle.replay.proofs.count_calls.Given as goal

abbrev pub invariant-loop-turn : goal.invariant-loop-turn
invariant-loop-turn l = l.count ≡ min (length (calls_of (take l.turn-index l.turns))) (2 ^ 64 - 1)
