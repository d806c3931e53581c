use Rattle.std.proofs.Common.{ℕ, sym, ap, ◌∙◌}
use Rattle.scale.proofs.Codes.{power_code}
use Rattle.scales.specs.Kinds.{binary_mark, disc_mark, named}
use Rattle.scales.specs.Numbering.{gray}
use Rattle.scales.specs.Known.{gray_numbering, named_laws}
use Rattle.scales.proofs.Discs.{power_position}
use Rattle.scales.proofs.disc.DiscScale.step_power.Goals as goal

pub returns : goal.returns
returns c =
    let e : ℕ = c.args.self.now.positions.digits.length in
    let numbers = c.args.self.now.positions.digits.numbers in
    let laws = named_laws (binary_mark e) numbers in
    let code = power_code (named (disc_mark e)) (named_laws (disc_mark e) numbers) c.args.k in
    c.gray_code.ensures
    ∙ ap gray (c.step_power.ensures ∙ sym (power_position e laws c.args.k))
    ∙ (gray_numbering 3 e).code_position _ code
