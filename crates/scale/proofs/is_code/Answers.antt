use Rattle.std.proofs.Common.{◌≡◌, eqb, sym, ◌∙◌, subst}
use Rattle.std.proofs.lemmas.Bool.Decides.{Decides-eqb, Decides-like}
use Rattle.scale.specs.Meaning.{Code, reading}
use Rattle.scale.proofs.Codes.{reading_code, reading_of, sum_zero_reading}
use Rattle.scale.proofs.is_code.Goals as goal

pub returns : goal.returns
returns g c =
    let m = g.S.Scale.meaning c.args.scale.now in
    let l = g.met.S.Scale.lawful c.args.scale.now in
    let a = c.args.a in
    let read : c.sum.result ≡ reading m a = c.sum.ensures ∙ sum_zero_reading m l a in
    Decides-like (eqb c.sum.result a) (λ e. subst (Code m) (sym read ∙ e) (reading_code m l a)) (λ h. read ∙ reading_of m l a h)
    (Decides-eqb c.sum.result a)
