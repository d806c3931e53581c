use Rattle.std.proofs.Common.{◌≡◌, ◌+◌, List, [], ◌++◌, get_or, take, vec_items, sym, ap, ◌∙◌, subst}
use Rattle.std.proofs.lemmas.List.{append_assoc, take_more}
use Rattle.book.specs.Held.{Held}
use Rattle.replay.specs.declared.call.Call.{Call}
use Rattle.replay.specs.declared.call.Turn.{Turn}
use Rattle.replay.specs.Performed.{PerformedAll}
use Rattle.replay.specs.Runs.{calls_of, views}
use Rattle.replay.proofs.Running.{calls_more, performed_join}
use Rattle.replay.proofs.replay.Goals as goal

-- no turn, where a list has no such
abbrev none : Turn
none =
    record { while_open = record { ref_ptr = (0, 0); now = [] }; while_closed = record { ref_ptr = (0, 0); now = [] } }

pub loop-turn-preserved : goal.loop-turn-preserved
loop-turn-preserved g c =
    let meaning = g.S.Scale.meaning in
    let first = c.in_ok-book.book in
    let turns = c.args.turns.now in
    let k = c.loop-turn.turn-index in
    let t = get_or turns k none in
    let mid = c.perform_all.new.book in
    let sofar = vec_items c.perform_all.new.answers in
    let after = vec_items c.look_all.new.answers in
    let opened =
    performed_join meaning first c.loop-turn.book mid (calls_of (take k turns)) t.while_open.now [] (vec_items c.loop-turn.answers) sofar
    c.loop-turn.invariant c.in_ok-perform_all.ensures
    in
    let same : c.reopen-book.result ≡ mid = c.reopen-book.ensures ∙ c.close-closed.ensures in
    let looked : PerformedAll meaning mid (views t.while_closed.now) sofar mid after =
    subst (λ (b : Held _). PerformedAll meaning b (views t.while_closed.now) sofar b after) c.close-closed.ensures c.in_ok-look_all.ensures
    in
    let closed = performed_join meaning first mid mid (calls_of (take k turns) ++ t.while_open.now) (views t.while_closed.now) [] sofar after opened looked in
    let order =
    append_assoc (calls_of (take k turns)) t.while_open.now (views t.while_closed.now)
    ∙ sym (calls_more (take k turns) t)
    ∙ ap calls_of (sym (take_more turns k none c.loop-turn-test.true))
    in
    subst (λ (b : Held _). PerformedAll meaning first (calls_of (take (k + 1) turns)) [] b after) (sym same)
    (subst (λ (cs : List Call). PerformedAll meaning first cs [] mid after) order closed)
