use Rattle.std.proofs.Common.{ℕ, sym, ap, ap₂, ◌∙◌, mod-lt, pow_pos}
use Rattle.scales.specs.Counting.{counting}
use Rattle.scales.specs.GrayCode.{ungray_gray}
use Rattle.scales.specs.Kinds.{disc_mark}
use Rattle.scales.specs.Numbering.{gray}
use Rattle.scales.proofs.disc.DiscScale.add_product.Goals as goal

pub returns : goal.returns
returns c =
    let e : ℕ = c.args.self.now.positions.digits.length in
    let m = counting (disc_mark e) in
    let x = c.position.ensures in
    let y = c.position-2.ensures in
    let z = c.position-3.ensures in
    c.gray_code.ensures
    ∙ ap gray
    (c.add_product.ensures
    ∙ ap₂ m.sum (x.within ∙ x.at)
    (ap₂ m.product (y.within ∙ y.at) (z.within ∙ z.at) ∙ sym (ungray_gray e _ (mod-lt _ (pow_pos e)))))
