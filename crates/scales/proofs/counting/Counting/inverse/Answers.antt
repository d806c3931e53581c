use Rattle.std.proofs.Common.{arith}
use Rattle.scales.specs.Inverses.{begun, turned_reading}
use Rattle.scales.proofs.counting.Counting.inverse.Goals as goal

pub loop-exact-init : goal.loop-exact-init
loop-exact-init g c =
    let m = g.D.Digits.counts c.args.self.now.digits in
    let laws = g.met.D.Digits.lawful c.args.self.now.digits in (
      omega arith,
      begun m.base m.length c.args.unit c.digit_inverse-inverse.result laws.length_least laws.base_least c.digit_inverse-inverse.ensures,
    )

pub loop-exact-preserved : goal.loop-exact-preserved
loop-exact-preserved g c =
    let m = g.D.Digits.counts c.args.self.now.digits in
    let laws = g.met.D.Digits.lawful c.args.self.now.digits in
    let inv = c.loop-exact.invariant in (
      omega (arith, inv.0),
      turned_reading m.base m.length c.loop-exact.exact c.args.unit c.loop-exact.inverse laws.base_least laws.length_least inv.0
          c.size-size.ensures c.product-near.ensures c.product-inverse.ensures inv.1,
    )
