use Rattle.std.proofs.Common.{◌-◌, ◌≤◌, min}
use Rattle.scales.specs.Inverses.{Inverse}
use Rattle.scales.proofs.counting.Counting.inverse.Given as goal

abbrev pub invariant-loop-exact : goal.invariant-loop-exact
invariant-loop-exact g l =
    let m = g.D.Digits.counts l.self.digits in
    (1 ≤ l.exact) × Inverse m.base (min l.exact m.length) l.unit l.inverse

abbrev pub decreases-loop-exact : goal.decreases-loop-exact
decreases-loop-exact g l = l.length - l.exact
