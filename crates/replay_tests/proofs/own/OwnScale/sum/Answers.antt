use Rattle.std.proofs.Common.{ℕ, ◌+◌, ◌%◌, ap₂, ◌∙◌}
use Rattle.std.proofs.Math.Nat.{add-mod}
use Rattle.scale.specs.Meaning.{size}
use Rattle.scales.specs.Made.{binary}
use Rattle.replay_tests.proofs.own.OwnScale.sum.Goals as goal

pub returns : goal.returns
returns c =
    let n : ℕ = size (binary c.args.self.now.counter) in
    c.gathered.ensures
    ∙ ap₂ (λ (x y : ℕ). (x + y) % n) c.from.ensures c.from-2.ensures
    ∙ add-mod c.args.a c.args.b n
