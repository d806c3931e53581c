use Rattle.std.proofs.Common.{sym, ap, ◌∙◌, subst, arith}
use Rattle.scale.specs.Meaning.{Divided, Quotient}
use Rattle.scale.proofs.Codes.{reading_of, zero_code}
use Rattle.scale.proofs.Levels.{power_level, product_zero}
use Rattle.book.proofs.Choosing.{by_cofactor}
use Rattle.book.proofs.Filling.{product_is}
use Rattle.book.proofs.dividing.Divisor.quotient.Goals as goal

pub returns-then-a-eq0 : goal.returns-then-a-eq0
returns-then-a-eq0 g c =
    let m = g.S.Scale.meaning c.args.scale.now in
    let l = g.met.S.Scale.lawful c.args.scale.now in
    let top = ap m.level c.if-a-eq0.true ∙ l.level_zero in
    λ b code by.
    let most = l.level_most b code in
    (omega (arith, top, most), (zero_code m l, product_zero m l b code ∙ sym c.if-a-eq0.true))

pub returns-in_err-lowered : goal.returns-in_err-lowered
returns-in_err-lowered g c =
    let m = g.S.Scale.meaning c.args.scale.now in
    let l = g.met.S.Scale.lawful c.args.scale.now in
    let k = c.args.self.level in
    λ b code by.
    let power = power_level m l k in
    let low = rw (reading_of m l c.args.a c.requires.code) at c.in_err-lowered.ensures in
    subst (λ r. Divided m c.args.a b r) (sym c.from_residual.ensures)
    (omega (arith, low, power, by.level))

pub returns : goal.returns
returns g c =
    let m = g.S.Scale.meaning c.args.scale.now in
    let l = g.met.S.Scale.lawful c.args.scale.now in
    let k = c.args.self.level in
    λ b code by.
    let power = power_level m l k in
    let known = rw (reading_of m l c.args.a c.requires.code) at c.in_ok-lowered.ensures in
    let product = product_is m l c.in_ok-lowered.lowered c.args.self.cofactor c.product.result known.1.0 by.cofactor.0 c.product.ensures in (
      omega (arith, known.0, power, by.level, l.level_most b code),
      subst (Quotient m c.args.a b) (sym product.1) (by_cofactor m l c.args.a b c.in_ok-lowered.lowered c.args.self code by known.1),
    )
