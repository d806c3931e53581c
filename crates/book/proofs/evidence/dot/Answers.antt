use Rattle.std.proofs.Common.{◌≡◌, ℕ, length, get_or, sym, ap, ◌∙◌, ap₂, add-one}
use Rattle.std.proofs.lemmas.List.{length_push}
use Rattle.std.proofs.lemmas.Slice.Zip.{zip_turn}
use Rattle.scale.specs.Meaning.{reading, summed}
use Rattle.scale.proofs.Codes.{reading_of}
use Rattle.book.proofs.evidence.dot.Goals as goal

pub loop-x-preserved : goal.loop-x-preserved
loop-x-preserved g c =
    let m = g.S.Scale.meaning c.args.scale.now in
    let l = g.met.S.Scale.lawful c.args.scale.now in
    let a = c.args.a.now in
    let b = c.args.b.now in
    let j : ℕ = length c.loop-x.yielded in
    let F : ℕ → ℕ = λ i. m.product (get_or a i 0) (get_or b i 0) in
    let turn =
    zip_turn a b c.loop-x.yielded c.into_iter-x-iterator.result c.loop-x.x-iterator c.next.new.self c.next.result (cc) (cc) c.loop-x.yielded_by (c.in-Some.x, c.in-Some.y) c.in-Some.is
    c.next.ensures.steps
    in
    let x_is : c.in-Some.x.now ≡ get_or a j 0 = turn.2 0 in
    let y_is : c.in-Some.y.now ≡ get_or b j 0 = turn.3 0 in
    c.gather-total.ensures
    ∙ ap₂ m.sum c.loop-x.invariant
    (ap₂ m.product
    (ap (reading m) x_is ∙ reading_of m l (get_or a j 0) (c.requires.codes.0 j))
    (ap (reading m) y_is ∙ reading_of m l (get_or b j 0) (c.requires.codes.1 j)))
    ∙ ap (λ n. summed m n F) (sym (length_push c.loop-x.yielded (c.in-Some.x, c.in-Some.y) ∙ add-one j))
