use Rattle.std.proofs.Common.{◌∙◌, refl, arith, length-set, get_or-set_other}
use Rattle.ties.specs.Layouts.{shape}
use Rattle.ties.proofs.Places.{place_below}
use Rattle.multipliers.proofs.Growing.{inside, one_more, shares_none}
use Rattle.multipliers.proofs.adding.add_terms.Goals as goal

pub loop-term-init : goal.loop-term-init
loop-term-init g c =
    let tie = c.args.tie.now in
    let m = g.S.Scale.meaning tie.scale.now in
    let l = g.met.S.Scale.lawful tie.scale.now in
    (c.told-row, λ i h. refl, λ by codes. (codes, shares_none m l (shape tie.layout.now) c.args.by by tie.tie.terms.now c.args.row.now codes))

pub loop-term-preserved : goal.loop-term-preserved
loop-term-preserved g c =
    let tie = c.args.tie.now in
    let m = g.S.Scale.meaning tie.scale.now in
    let l = g.met.S.Scale.lawful tie.scale.now in
    let j = c.loop-term.term-index in
    let there = tie.sound.exist j c.loop-term-test.true in (
      length-set _ _ _ ∙ c.loop-term.invariant.0,
      λ i h.
          let below = place_below (shape tie.layout.now) _ _ there in
          get_or-set_other c.loop-term.row c.place-at.result i c.add_product.result 0 (λ e. omega (arith, h, below, c.place-at.ensures, e))
          ∙ c.loop-term.invariant.1 i h,
      λ by codes.
          let more =
          one_more m l (shape tie.layout.now) c.args.by by tie.tie.terms.now j
          (λ i k. (tie.sound.codes i (omega (arith, c.loop-term-test.true))).0 (omega (arith, c.loop-term-test.true)))
          c.args.row.now c.loop-term.row c.place-at.result c.add_product.result
          codes there c.place-at.ensures
          (inside tie.layout.now _ _ _ _ there c.place-at.ensures c.loop-term.invariant.0)
          c.add_product.ensures
          (c.loop-term.invariant.0, (c.loop-term.invariant.2 by codes).0, (c.loop-term.invariant.2 by codes).1) in
          (more.1, more.2),
    )
