use Rattle.std.proofs.Common.{◌<◌, length, get_or, sym, ap, ◌∙◌, arith}
use Rattle.multipliers.proofs.Growing.{codes_set}
use Rattle.book.proofs.Filling.{one_product, product_is, written_more}
use Rattle.book.proofs.rows.multiply.Goals as goal

pub returns-then-by-one : goal.returns-then-by-one
returns-then-by-one g c =
    let m = g.S.Scale.meaning c.args.scale.now in
    let l = g.met.S.Scale.lawful c.args.scale.now in
    let row = c.args.row.now in
    record {
      codes = c.requires.codes.0;
      multiplied = λ j h.
          one_product m l _ (c.requires.codes.0 j)
          ∙ ap (λ b. m.product b (get_or row j 0)) (sym (c.if-by-one.true ∙ c.one.ensures));
    }

pub loop-code-preserved : goal.loop-code-preserved
loop-code-preserved g c =
    let m = g.S.Scale.meaning c.args.scale.now in
    let l = g.met.S.Scale.lawful c.args.scale.now in
    let cur = c.loop-code.row in
    let j = c.loop-code.code-index in
    let inside : j < length cur = omega arith in
    let codes = c.loop-code.invariant.0 in
    let done = product_is m l _ _ c.product.result c.requires.codes.1 (codes j) c.product.ensures in
    let here = c.loop-code.invariant.1.1 j (omega arith) in (
      codes_set m cur j c.product.result inside codes done.0,
      written_more j _ c.args.row.now cur c.product.result inside
          (done.1 ∙ ap (m.product c.args.by) here) c.loop-code.invariant.1,
    )
