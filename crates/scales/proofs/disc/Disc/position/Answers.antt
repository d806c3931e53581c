use Rattle.std.proofs.Common.{◌≡◌, ℕ, ◌%◌, ◌^◌, ◌≤◌, sym, ap, ◌∙◌, mod-lt, arith, pow_pos}
use Rattle.scales.specs.Numbering.{gray, ungray}
use Rattle.scales.specs.GrayCode.{gray_ungray, position_read, ungray_of_32}
use Rattle.scales.proofs.disc.Disc.position.Goals as goal

pub returns : goal.returns
returns c =
    let e : ℕ = c.args.self.now.positions.digits.length in
    let code : ℕ = c.args.code % 2 ^ e in
    let short : e ≤ 32 = omega (arith, c.args.self.now.positions.digits.numbers.1) in
    let below = mod-lt c.args.code (pow_pos e) in
    let is : c.position_of_gray.result ≡ ungray e code =
    c.position_of_gray.ensures ∙ ap (ungray 32) c.reading.ensures ∙ ungray_of_32 e code short below in
    record {
      at = is;
      within = position_read e c.args.code _ is ∙ sym is;
      back = ap gray is ∙ gray_ungray e code below;
    }
