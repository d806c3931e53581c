use Rattle.std.proofs.Common.{◌≡◌, ℕ, List, vec_items, sym, ◌∙◌, subst, subst₂}
use Rattle.std.specs.Vec.{with_items}
use Rattle.std.proofs.lemmas.List.{with_items_is}
use Rattle.ties.specs.Equations.{equation}
use Rattle.book.specs.Loading.{LoadListed, LoadedTo}
use Rattle.book.specs.Posting.{Listed, PostedTo}
use Rattle.replay.proofs.Running.{load_step, post_step, withdraw_step}
use Rattle.replay.proofs.performing.perform.Goals as goal

pub returns-in_ok-list-in-Post : goal.returns-in_ok-list-in-Post
returns-in_ok-list-in-Post g c =
    let meaning = g.S.Scale.meaning in
    let b = c.args.book.now in
    let t = c.in-Post.tie in
    let list = c.in-Post.numbers in
    let r = c.post-answer.result in
    let v = with_items c.in_ok-list-in-Post.list c.post-answer.new.multipliers in
    let handed = c.deref_mut.ensures.value ∙ c.in_ok-list-in-Post.ensures.items in
    let held : vec_items v ≡ c.post-answer.new.multipliers =
    with_items_is c.in_ok-list-in-Post.list c.post-answer.new.multipliers (c.post-answer.auto.multipliers ∙ c.deref_mut.ensures.len)
    in
    rw c.in-Post.is
    (post_step meaning b c.post-answer.new.self t list r v
    (subst (λ (ys : List ℕ). PostedTo meaning b (equation t) ys r) handed c.post-answer.ensures.answer)
    c.post-answer.ensures.book
    (subst₂ (λ (ys zs : List ℕ). Listed meaning b (equation t) r ys zs) handed (sym held) c.post-answer.ensures.list))

pub returns-in_ok-list-in-Load : goal.returns-in_ok-list-in-Load
returns-in_ok-list-in-Load g c =
    let meaning = g.S.Scale.meaning in
    let b = c.args.book.now in
    let f = c.in-Load.file in
    let list = c.in-Load.numbers in
    let r = c.load-answer.result in
    let v = with_items c.in_ok-list-in-Load.list c.load-answer.new.multipliers in
    let handed = c.deref_mut-in-Load.ensures.value ∙ c.in_ok-list-in-Load.ensures.items in
    let held : vec_items v ≡ c.load-answer.new.multipliers =
    with_items_is c.in_ok-list-in-Load.list c.load-answer.new.multipliers (c.load-answer.auto.multipliers ∙ c.deref_mut-in-Load.ensures.len)
    in
    rw c.in-Load.is
    (load_step meaning b c.load-answer.new.self f list r v
    (subst (λ (ys : List ℕ). LoadedTo meaning b f.now ys r) handed c.load-answer.ensures.answer)
    c.load-answer.ensures.book
    (subst₂ (λ (ys zs : List ℕ). LoadListed meaning b f.now r ys zs) handed (sym held) c.load-answer.ensures.list))

pub returns-in-Withdraw : goal.returns-in-Withdraw
returns-in-Withdraw g c =
    rw c.in-Withdraw.is (withdraw_step g.S.Scale.meaning c.args.book.now c.withdraw.new.self c.withdraw.result c.withdraw.ensures)
