use Rattle.std.proofs.Common.{ℕ, ◌%◌, ◌^◌, sym, ◌∙◌, subst₂, mod-lt, pow_pos}
use Rattle.scale.specs.Meaning.{Divided, power}
use Rattle.scales.specs.Counting.{counting}
use Rattle.scales.specs.Kinds.{binary_mark, disc_mark, named}
use Rattle.scales.specs.Numbering.{gray, ungray}
use Rattle.scales.specs.Known.{gray_numbering, named_laws}
use Rattle.scales.proofs.Discs.{moved_divided, power_position}
use Rattle.scales.proofs.disc.DiscScale.lowered.Goals as goal

pub returns : goal.returns
returns c =
    let e : ℕ = c.args.self.now.positions.digits.length in
    let m = counting (disc_mark e) in
    let a = c.position.ensures in
    let laws = named_laws (binary_mark e) c.args.self.now.positions.digits.numbers in
    moved_divided gray (ungray e) m (gray_numbering 3 e) (c.args.a % 2 ^ e) (power (named (disc_mark e)) c.args.k) (mod-lt c.args.a (pow_pos e))
    c.lowered.result c.map.result
    (subst₂ (λ (x y : ℕ). Divided m x y c.lowered.result) (a.within ∙ a.at) (sym (power_position e laws c.args.k)) c.lowered.ensures)
    c.map.ensures.cases
