use Rattle.std.proofs.Common.{◌≡◌, ℕ, List, vec_items, sym, ◌∙◌, subst₂, MatchResult}
use Rattle.std.specs.Vec.{with_items}
use Rattle.std.proofs.lemmas.List.{with_items_is}
use Rattle.book.specs.Drawing.{DrawStopped, DrawnFrom}
use Rattle.book.specs.Writing.{WriteStopped, WrittenFrom}
use Rattle.replay.proofs.Running.{query_step, sheet_step, write_step}
use Rattle.replay.proofs.performing.look.Goals as goal

pub returns-in-Query : goal.returns-in-Query
returns-in-Query g c = rw c.in-Query.is (query_step g.S.Scale.meaning c.args.book.now c.in-Query.tie c.query.result c.query.ensures)

pub returns-in_ok-list-in-Sheet : goal.returns-in_ok-list-in-Sheet
returns-in_ok-list-in-Sheet g c =
    let meaning = g.S.Scale.meaning in
    let b = c.args.book.now in
    let r = c.sheet-answer.result in
    let v = with_items c.in_ok-list-in-Sheet.list c.sheet-answer.new.list in
    let handed = c.deref_mut.ensures.value ∙ c.in_ok-list-in-Sheet.ensures.items in
    let held : vec_items v ≡ c.sheet-answer.new.list =
    with_items_is c.in_ok-list-in-Sheet.list c.sheet-answer.new.list (c.sheet-answer.auto.list ∙ c.deref_mut.ensures.len)
    in
    let drawn =
    subst₂ (λ (ys zs : List ℕ). MatchResult r (DrawnFrom meaning b ys zs) (λ _. DrawStopped b ys zs)) handed (sym held) c.sheet-answer.ensures
    in
    rw c.in-Sheet.is (sheet_step meaning b c.in-Sheet.numbers r v drawn)

pub returns-in_ok-list-in-Write : goal.returns-in_ok-list-in-Write
returns-in_ok-list-in-Write g c =
    let meaning = g.S.Scale.meaning in
    let b = c.args.book.now in
    let r = c.write-answer.result in
    let v = with_items c.in_ok-list-in-Write.list c.write-answer.new.list in
    let handed = c.deref_mut-in-Write.ensures.value ∙ c.in_ok-list-in-Write.ensures.items in
    let held : vec_items v ≡ c.write-answer.new.list =
    with_items_is c.in_ok-list-in-Write.list c.write-answer.new.list
    (c.write-answer.auto.list ∙ c.deref_mut-in-Write.ensures.len)
    in
    let written =
    subst₂ (λ (ys zs : List ℕ). MatchResult r (WrittenFrom meaning b ys zs) (λ _. WriteStopped b ys zs)) handed (sym held) c.write-answer.ensures.answer
    in
    rw c.in-Write.is (write_step meaning b c.in-Write.bytes r v written)
