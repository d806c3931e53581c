use Rattle.std.proofs.Common.{List, [], get_or, take, vec_items, sym, subst}
use Rattle.std.proofs.lemmas.List.{take_more}
use Rattle.replay.specs.declared.call.Call.{Call}
use Rattle.replay.specs.declared.call.Call.TheVariants as call
use Rattle.replay.specs.Performed.{PerformedAll}
use Rattle.replay.proofs.Running.{performed_more}
use Rattle.replay.proofs.performing.perform_all.Goals as goal

-- no call, where a list has no such
abbrev none : Call
none =
    call.Post (record { target = 0; right = 0; terms = record { ref_ptr = (0, 0); now = [] } }) (record { ref_ptr = (0, 0); now = [] })

pub loop-call-preserved : goal.loop-call-preserved
loop-call-preserved g c =
    let meaning = g.S.Scale.meaning in
    let b = c.args.book.now in
    let calls = c.args.calls.now in
    let i = c.loop-call.call-index in
    let before = vec_items c.args.answers.now in
    let new = c.perform.new.book in
    let after = vec_items c.push.new.self in
    let more =
    performed_more meaning b before (take i calls) (get_or calls i none) c.loop-call.book new (vec_items c.loop-call.answers)
    after c.in_ok-perform.field-0 c.loop-call.invariant c.in_ok-perform.ensures c.in_ok-push.ensures.items
    in
    subst (λ (cs : List Call). PerformedAll meaning b cs before new after)
    (sym (take_more calls i none c.loop-call-test.true)) more
