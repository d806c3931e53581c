use Rattle.std.proofs.Common.{◌≡◌, ℕ, min, sym, ap, ◌∙◌, subst, arith}
use Rattle.std.proofs.lemmas.Bool.{some_since}
use Rattle.std.proofs.lemmas.Option.{MatchOption-at_some}
use Rattle.scale.specs.Meaning.{Code, Quotient, digits}
use Rattle.scale.proofs.Codes.{power_code, reading_of}
use Rattle.scale.proofs.Levels.{power_level}
use Rattle.book.proofs.dividing.Divisor.of.Goals as goal

pub quotient_of-requires : goal.quotient_of-requires
quotient_of-requires g c =
    let m = g.S.Scale.meaning c.args.scale.now in
    let l = g.met.S.Scale.lawful c.args.scale.now in
    (subst (Code m) (sym c.step_power-power.ensures) (power_code m l _), c.requires)

pub unwrap-requires : goal.unwrap-requires
unwrap-requires g c =
    let m = g.S.Scale.meaning c.args.scale.now in
    let l = g.met.S.Scale.lawful c.args.scale.now in
    let v : ℕ = c.level-level.result in
    let v_is : v ≡ m.level c.args.code = c.level-level.ensures ∙ ap m.level (reading_of m l c.args.code c.requires) in
    let power : m.level c.step_power-power.result ≡ min (digits m) v = ap m.level c.step_power-power.ensures ∙ power_level m l v in
    some_since _ _ _ c.quotient_of.ensures
    (λ low. omega (arith, v_is, power, low, l.level_most c.args.code c.requires))

pub returns : goal.returns
returns g c =
    let m = g.S.Scale.meaning c.args.scale.now in
    let l = g.met.S.Scale.lawful c.args.scale.now in
    record {
      level = c.level-level.ensures ∙ ap m.level (reading_of m l c.args.code c.requires);
      at_level = c.step_power-power.ensures;
      cofactor =
          subst (λ (p : ℕ). Quotient m p c.args.code c.unwrap.result) c.step_power-power.ensures
          (MatchOption-at_some _ _ _ c.unwrap.ensures c.quotient_of.ensures).1;
    }
