use Rattle.std.proofs.Common.{◌≡◌, ℕ, ◌+◌, ◌-◌, ◌*◌, ◌%◌, ◌^◌, ◌≤◌, ap₂, ◌∙◌, subst, arith}
use Rattle.std.proofs.Math.Pow.{mod-mod-pow}
use Rattle.scales.proofs.binary.BitsDigits.gather.Goals as goal

pub returns : goal.returns
returns c =
    let e : ℕ = c.args.self.now.length in
    let n : ℕ = 2 ^ e in
    let most : e ≤ 31 = c.args.self.now.numbers.1 in
    let whole : (64 - e) + e ≡ 64 = omega (arith, most) in
    let sum : ℕ = c.args.total + c.from.result * c.from-2.result in
    subst (λ (w : ℕ). sum % 2 ^ w % n ≡ sum % n) whole (mod-mod-pow sum (64 - e) e)
    ∙ ap₂ (λ (x y : ℕ). (c.args.total + x * y) % n) c.from.ensures c.from-2.ensures
