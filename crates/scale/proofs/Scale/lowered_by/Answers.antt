use Rattle.std.proofs.Common.{ℕ, ap, ◌∙◌, subst}
use Rattle.scale.specs.Meaning.{Divided, reading}
use Rattle.scale.proofs.Codes.{power_code, reading_of}
use Rattle.scale.proofs.Scale.lowered_by.Goals as goal

pub returns : goal.returns
returns g c =
    let m = g.Self.Scale.meaning c.args.self.now in
    let l = g.met.Self.Scale.lawful c.args.self.now in
    subst (λ (b : ℕ). Divided m (reading m c.args.a) b c.quotient.result)
    (ap (reading m) c.requires ∙ reading_of m l _ (power_code m l c.args.k)) c.quotient.ensures
