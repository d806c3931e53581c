use Rattle.std.proofs.Common.{ℕ, List, length, vec_items, refl, ap, ◌∙◌, subst₂}
use Rattle.std.proofs.lemmas.List.{with_items_is}
use Rattle.ties.specs.Layouts.{places}
use Rattle.book.specs.Turning.{Returned}
use Rattle.book.proofs.Returning.{returned_is}
use Rattle.book.proofs.taking.give_back.Goals as goal

pub returns : goal.returns
returns g c =
    let m = g.S.Scale.meaning c.args.scale.now in
    let l = g.met.S.Scale.lawful c.args.scale.now in
    let k = c.args.last.now in
    let old = c.args.table.now in
    let new = c.turn_back.new.rows in
    let refill = with_items_is old.rows new (c.turn_back.auto.rows ∙ c.deref_mut.ensures.len) in (
      λ s xs f codes xl step.
          let back : Returned m (places s) k.pivot.number k.pivot.row.items k.pivot.quotients.items k.shift (vec_items old.rows) new =
          subst₂ (λ (n : ℕ) (ys : List ℕ). Returned m n k.pivot.number k.pivot.row.items k.pivot.quotients.items k.shift ys new)
          step.pivots.formed.row c.deref_mut.ensures.value c.turn_back.ensures.returned
          in
          let long = c.turn_back.auto.rows ∙ ap length c.deref_mut.ensures.value ∙ step.size in
          (refill ∙ returned_is m l s k xs (vec_items old.rows) new f old.free codes xl long step back, step.freed),
      refl,
    )
