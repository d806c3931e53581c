use Rattle.std.proofs.Common.{◌-◌, ap, ap₂}
use Rattle.book.proofs.Filling.{level_is}
use Rattle.book.proofs.pivot.Pivot.fixed.Goals as goal

pub returns : goal.returns
returns g c =
    let m = g.S.Scale.meaning c.args.scale.now in
    let l = g.met.S.Scale.lawful c.args.scale.now in
    ap₂ (λ a b. a - b) (ap (λ k. k.length) c.mark.ensures) (level_is m l _ _ c.requires c.level.ensures)
