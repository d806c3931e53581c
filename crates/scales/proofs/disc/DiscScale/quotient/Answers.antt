use Rattle.std.proofs.Common.{ℕ, ◌%◌, ◌^◌, ◌∙◌, subst₂, mod-lt, pow_pos}
use Rattle.scale.specs.Meaning.{Divided}
use Rattle.scales.specs.Counting.{counting}
use Rattle.scales.specs.Kinds.{disc_mark}
use Rattle.scales.specs.Numbering.{gray, ungray}
use Rattle.scales.specs.Known.{gray_numbering}
use Rattle.scales.proofs.Discs.{moved_divided}
use Rattle.scales.proofs.disc.DiscScale.quotient.Goals as goal

pub returns : goal.returns
returns c =
    let e : ℕ = c.args.self.now.positions.digits.length in
    let m = counting (disc_mark e) in
    let a = c.position.ensures in
    let b = c.position-2.ensures in
    moved_divided gray (ungray e) m (gray_numbering 3 e) (c.args.a % 2 ^ e) (c.args.b % 2 ^ e) (mod-lt c.args.a (pow_pos e))
    c.quotient.result c.map.result
    (subst₂ (λ (x y : ℕ). Divided m x y c.quotient.result) (a.within ∙ a.at) (b.within ∙ b.at) c.quotient.ensures)
    c.map.ensures.cases
