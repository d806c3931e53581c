use Rattle.std.proofs.Common.{ap, ◌∙◌}
use Rattle.scale.specs.Meaning.{reading}
use Rattle.scale.proofs.Codes.{reading_code, reading_of}
use Rattle.scale.proofs.Scale.add_product.Goals as goal

pub returns : goal.returns
returns g c =
    let m = g.Self.Scale.meaning c.args.self.now in
    let l = g.met.Self.Scale.lawful c.args.self.now in
    let code = l.product_code _ _ (reading_code m l c.args.b) (reading_code m l c.args.c) in
    c.sum.ensures ∙ ap (m.sum (reading m c.args.a)) (ap (reading m) c.product.ensures ∙ reading_of m l _ code)
