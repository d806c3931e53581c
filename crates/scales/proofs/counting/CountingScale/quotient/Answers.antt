use Rattle.std.proofs.Common.{sym, ◌∙◌}
use Rattle.scales.specs.Inverses.{one_mod}
use Rattle.scales.specs.Whole.{no_quotient, some_quotient}
use Rattle.scales.proofs.counting.CountingScale.quotient.Goals as goal

pub returns-then-a-parts-ne0 : goal.returns-then-a-parts-ne0
returns-then-a-parts-ne0 g c =
    let m = g.D.Digits.counts c.args.self.now.digits in
    let laws = g.met.D.Digits.lawful c.args.self.now.digits in
    no_quotient m.base m.length c.args.a c.args.b _ _ c.split-parts.result laws.base_least
    c.reading-a.ensures c.reading-b.ensures c.split-parts.ensures c.if-a-parts-ne0.true

pub returns : goal.returns
returns g c =
    let m = g.D.Digits.counts c.args.self.now.digits in
    let laws = g.met.D.Digits.lawful c.args.self.now.digits in
    some_quotient m.base m.length c.args.a c.args.b _ _ c.split-parts.result c.inverse.result _ laws.base_least
    c.reading-a.ensures c.reading-b.ensures c.split-parts.ensures c.if-a-parts-ne0.false
    (c.inverse.ensures ∙ sym (one_mod m.base m.length laws.base_least laws.length_least))
    c.product.ensures
