use Rattle.std.proofs.Common.{◌≡◌, ap, ◌∙◌, arith, le-leb, leb-true}
use Rattle.scale.proofs.Codes.{reading_of}
use Rattle.ties.proofs.terms.reaches.Goals as goal

pub returns-else-depth-width : goal.returns-else-depth-width
returns-else-depth-width g c =
    let m = g.S.Scale.meaning c.args.scale.now in
    let factor = c.args.term.now.factor in
    let read = ap m.level (reading_of m (g.met.S.Scale.lawful c.args.scale.now) factor c.requires) in
    let level : c.level.result ≡ m.level factor = c.level.ensures ∙ read in
    (λ t. omega (arith, leb-true _ _ t), λ h. le-leb _ _ (omega arith))
