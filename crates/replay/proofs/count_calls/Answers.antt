use Rattle.std.proofs.Common.{◌++◌, [], length, get_or, take, ap, ◌∙◌, arith, length-append}
use Rattle.std.proofs.lemmas.List.{length-map, take_more}
use Rattle.replay.specs.declared.call.Call.TheVariants as call
use Rattle.replay.specs.declared.call.Turn.{Turn}
use Rattle.replay.specs.Runs.{calls_of, views}
use Rattle.replay.proofs.Running.{calls_more}
use Rattle.replay.proofs.count_calls.Goals as goal

-- no turn, where a list has no such
abbrev none : Turn
none =
    record { while_open = record { ref_ptr = (0, 0); now = [] }; while_closed = record { ref_ptr = (0, 0); now = [] } }

pub loop-turn-preserved : goal.loop-turn-preserved
loop-turn-preserved c =
    let turns = c.args.turns.now in
    let k = c.loop-turn.turn-index in
    let t = get_or turns k none in
    let before = calls_of (take k turns) in
    let one = t.while_open.now ++ views t.while_closed.now in
    let more = ap (λ ts. length (calls_of ts)) (take_more turns k none c.loop-turn-test.true) ∙ ap length (calls_more (take k turns) t) in
    omega (
      arith,
      more,
      length-append before one,
      length-append t.while_open.now (views t.while_closed.now),
      length-map t.while_closed.now call.View,
      c.loop-turn.invariant,
      c.saturating_add-calls.ensures,
      c.saturating_add-count.ensures,
    )
