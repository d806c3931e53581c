use Rattle.std.proofs.Common.{ℕ, sym, ap, ◌∙◌, subst₂, arith}
use Rattle.scale.specs.Meaning.{Divided}
use Rattle.scale.proofs.Codes.{reading_of, zero_code}
use Rattle.scale.proofs.Levels.{product_zero}
use Rattle.book.proofs.dividing.quotient_of.Goals as goal

pub returns-then-a-eq0 : goal.returns-then-a-eq0
returns-then-a-eq0 g c =
    let m = g.S.Scale.meaning c.args.scale.now in
    let l = g.met.S.Scale.lawful c.args.scale.now in
    let b = c.args.b in
    let top = ap m.level c.if-a-eq0.true ∙ l.level_zero in
    let most = l.level_most b c.requires.1 in
    (omega arith, (zero_code m l, product_zero m l b c.requires.1 ∙ sym c.if-a-eq0.true))

pub returns-else-a-eq0 : goal.returns-else-a-eq0
returns-else-a-eq0 g c =
    let m = g.S.Scale.meaning c.args.scale.now in
    let l = g.met.S.Scale.lawful c.args.scale.now in
    subst₂ (λ (a b : ℕ). Divided m a b c.quotient.result) (reading_of m l c.args.a c.requires.0)
    (reading_of m l c.args.b c.requires.1) c.quotient.ensures
