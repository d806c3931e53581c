use Rattle.std.proofs.Common.{◌≡◌, ap, ◌∙◌, subst, arith, le-leb, leb-true}
use Rattle.scale.specs.Meaning.{Code}
use Rattle.scale.proofs.Codes.{reading_of}
use Rattle.endomorphisms.specs.Groups.{numbers}
use Rattle.endomorphisms.proofs.matrix.Matrix.fits.Goals as goal

pub returns-then-is_code : goal.returns-then-is_code
returns-then-is_code g c =
    let m = g.S.Scale.meaning c.args.scale.now in
    let l = g.met.S.Scale.lawful c.args.scale.now in
    let number = c.number-number.result in
    let read : Code m number = c.is_code.ensures.0 c.if-is_code.true in
    let level : c.level.result ≡ m.level (numbers c.args.self.now c.args.target c.args.source) =
    c.level.ensures ∙ ap m.level (reading_of m l number read ∙ c.number-number.ensures)
    in (
      λ t. (subst (Code m) c.number-number.ensures read, omega (arith, leb-true _ _ t)),
      λ h. le-leb _ _ (omega (arith, h.1)),
    )
