use Rattle.std.proofs.Common.{ℕ, ◌∙◌}
use Rattle.scale.specs.Meaning.{size}
use Rattle.scales.specs.Counting.{counting}
use Rattle.scales.proofs.Adding.{add_mul_mod}
use Rattle.scales.proofs.counting.CountingScale.gather.Goals as goal

pub returns : goal.returns
returns g c =
    let n : ℕ = size (counting (g.D.Digits.counts c.args.self.now.digits)) in
    c.gather.ensures ∙ add_mul_mod c.args.total c.args.b c.args.c n
