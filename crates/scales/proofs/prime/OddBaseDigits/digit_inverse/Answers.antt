use Rattle.std.proofs.Common.{ℕ, ◌-◌, ◌*◌, ◌%◌, ◌^◌, ◌<◌, sym, ap, ◌∙◌, subst}
use Rattle.scales.specs.Inverses.{last_inverse}
use Rattle.scales.proofs.OddBases.{odd_fit, odd_inverse}
use Rattle.scales.proofs.prime.OddBaseDigits.digit_inverse.Goals as goal

pub pow-requires : goal.pow-requires
pow-requires c =
    subst (λ (q : ℕ). (c.args.unit % q) ^ (q - 2) < 2 ^ 32) (sym c.from-base.ensures) (odd_inverse c.args.self.now c.args.unit)

pub returns : goal.returns
returns c =
    let s = c.args.self.now in
    let fit = (odd_fit s).0 in
    ap (λ (x : ℕ). (c.args.unit * x) % s.base)
    (c.pow.ensures ∙ ap (λ (q : ℕ). (c.args.unit % q) ^ (q - 2)) c.from-base.ensures)
    ∙ last_inverse s.base c.args.unit fit.base_least fit.base_inverted c.requires
