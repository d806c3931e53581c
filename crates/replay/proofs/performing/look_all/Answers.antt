use Rattle.std.proofs.Common.{List, [], ◌∷◌, get_or, take, vec_items, refl, sym, ap, ◌∙◌, subst}
use Rattle.std.proofs.lemmas.List.{map-append, take_more}
use Rattle.replay.specs.declared.call.Call.{Call}
use Rattle.replay.specs.declared.call.Call.TheVariants as call
use Rattle.replay.specs.declared.call.View.{View}
use Rattle.replay.specs.declared.call.View.TheVariants as view
use Rattle.replay.specs.Performed.{PerformedAll}
use Rattle.replay.specs.Runs.{views}
use Rattle.replay.proofs.Running.{performed_more}
use Rattle.replay.proofs.performing.look_all.Goals as goal

-- no call, where a list has no such
abbrev none : View
none = view.Query (record { target = 0; right = 0; terms = record { ref_ptr = (0, 0); now = [] } })

pub loop-call-preserved : goal.loop-call-preserved
loop-call-preserved g c =
    let meaning = g.S.Scale.meaning in
    let b = c.args.book.now in
    let calls = c.args.calls.now in
    let i = c.loop-call.call-index in
    let v = get_or calls i none in
    let before = vec_items c.args.answers.now in
    let after = vec_items c.push.new.self in
    let more =
    performed_more meaning b before (views (take i calls)) (call.View v) b b (vec_items c.loop-call.answers) after
    c.in_ok-look.field-0 c.loop-call.invariant (refl, refl, c.in_ok-look.ensures) c.in_ok-push.ensures.items
    in
    subst (λ (cs : List Call). PerformedAll meaning b cs before b after)
    (sym (ap views (take_more calls i none c.loop-call-test.true) ∙ map-append call.View (take i calls) (v ∷ []))) more
