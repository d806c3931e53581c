use Rattle.std.proofs.Common.{ℕ, ◌+◌, ◌*◌, length, sym, ap, ◌∙◌, subst, arith}
use Rattle.scale.specs.Meaning.{Code, power}
use Rattle.scale.proofs.Codes.{power_code}
use Rattle.book.specs.Turning.{Negatives}
use Rattle.book.proofs.Filling.{filled, negatives_are, part_codes, put_codes}
use Rattle.book.proofs.Spots.{row_inside}
use Rattle.book.proofs.Steps.{turned}
use Rattle.book.proofs.pivot.Step.turn.Goals as goal

pub spread-requires-clause-codes : goal.spread-requires-clause-codes
spread-requires-clause-codes g c =
    let m = g.S.Scale.meaning c.args.self.now.scale.now in
    let l = g.met.S.Scale.lawful c.args.self.now.scale.now in
    let k = c.args.self.now.pivot.now in
    let fs = c.deref.result.now in
    let negated : Negatives m k.quotients.items fs =
    subst (Negatives m k.quotients.items) (sym c.deref.ensures.0) c.negatives.ensures
    in
    (c.requires.codes, c.args.self.now.code, (negatives_are m l k.quotients.items fs c.args.self.now.formed.quotient_codes negated).0)

pub multiply-requires : goal.multiply-requires
multiply-requires g c =
    let m = g.S.Scale.meaning c.args.self.now.scale.now in
    let l = g.met.S.Scale.lawful c.args.self.now.scale.now in
    record {
      codes = (
        part_codes m l _ _ c.spread.new.rows c.spread.ensures.codes,
        subst (Code m) (sym c.step_power-power.ensures) (power_code m l _),
      );
    }

pub returns-clause-codes : goal.returns-clause-codes
returns-clause-codes g c =
    let m = g.S.Scale.meaning c.args.self.now.scale.now in
    let l = g.met.S.Scale.lawful c.args.self.now.scale.now in
    put_codes m l _ _ c.spread.new.rows c.multiply.new.row c.spread.ensures.codes c.multiply.ensures.codes

pub returns-clause-turned : goal.returns-clause-turned
returns-clause-turned g c =
    let m = g.S.Scale.meaning c.args.self.now.scale.now in
    let l = g.met.S.Scale.lawful c.args.self.now.scale.now in
    let k = c.args.self.now.pivot.now in
    let n : ℕ = length k.row.items in
    let inside = row_inside n k.number c.args.self.now.formed.number in
    let fs = c.deref.result.now in
    let negated : Negatives m k.quotients.items fs =
    subst (Negatives m k.quotients.items) (sym c.deref.ensures.0) c.negatives.ensures
    in
    turned m n k.number k.row.items k.quotients.items fs c.args.self.now.shift _ c.step_power-power.result c.args.rows.now c.spread.new.rows _
    c.requires.row (c.step_power-power.ensures ∙ ap (power m) c.fixed.ensures)
    (λ i h. (negatives_are m l k.quotients.items fs c.args.self.now.formed.quotient_codes negated).1 i (omega (arith, c.args.self.now.formed.quotients)))
    c.spread.ensures.spread
    (filled n (n + k.number * n) _ _ (λ j a. m.product c.step_power-power.result a) c.spread.new.rows c.multiply.new.row
    (ap (λ i. i + k.number * i) c.len-n.ensures.value) (omega arith) (omega arith) c.multiply.auto.row
    c.multiply.ensures.multiplied)
