use Rattle.std.proofs.Common.{◌≡◌, sym, ap, ◌∙◌, subst, arith}
use Rattle.std.proofs.lemmas.Bool.{some_since}
use Rattle.std.proofs.lemmas.Option.{MatchOption-at_some}
use Rattle.scale.specs.Meaning.{Code, Quotient}
use Rattle.scale.proofs.Codes.{power_code}
use Rattle.ties.specs.Layouts.{shape}
use Rattle.book.specs.Evidence.{against}
use Rattle.book.proofs.Filling.{negative_is, product_is}
use Rattle.book.proofs.evidence.settle.Goals as goal

pub unwrap-requires : goal.unwrap-requires
unwrap-requires g c =
    let m = g.S.Scale.meaning c.args.tie.now.scale.now in
    let against_is : c.dot-product.result ≡ against m (shape c.args.tie.now.layout.now) c.args.row.now c.args.pivot.now =
    rw (c.deref.ensures.0, c.requires.formed.row) at c.dot-product.ensures.1
    in
    some_since _ _ _ c.quotient_of.ensures (λ low. omega (arith, ap m.level against_is, c.requires.divides))

pub returns : goal.returns
returns g c =
    let m = g.S.Scale.meaning c.args.tie.now.scale.now in
    let l = g.met.S.Scale.lawful c.args.tie.now.scale.now in
    let s = shape c.args.tie.now.layout.now in
    let k = c.args.pivot.now in
    let old = c.args.row.now in
    let q = c.unwrap.result in
    let against_is : c.dot-product.result ≡ against m s old k = rw (c.deref.ensures.0, c.requires.formed.row) at c.dot-product.ensures.1 in
    let known : Quotient m c.dot-product.result k.divisor q =
    (MatchOption-at_some _ _ _ c.unwrap.ensures c.quotient_of.ensures).1
    in
    let multiplier = negative_is m l q c.negative-multiplier.result known.0 c.negative-multiplier.ensures in
    let raise_code : Code m c.raise.result = subst (Code m) (sym c.raise.ensures) (power_code m l _) in
    let by = product_is m l c.negative-multiplier.result c.raise.result c.product.result multiplier.0 raise_code c.product.ensures in
    record {
      quotient = q;
      divides = (known.0, known.1 ∙ against_is);
      is = multiplier.1;
      codes = c.add_terms.ensures.codes by.0 c.requires.codes;
      added =
          rw (← c.raise.ensures, ← by.1) (c.add_terms.ensures.added by.0 c.requires.codes);
    }
