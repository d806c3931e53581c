use Rattle.std.proofs.Common.{ℕ, ◌^◌, ◌<◌, ◌≤◌, sym, ap, ◌∙◌, ap₂, subst, subst₂, arith}
use Rattle.scale.specs.declared.Mark.{Mark}
use Rattle.scales.proofs.Lowering.{high_power, low_power, low_small}
use Rattle.scales.proofs.counting.CountingScale.step_power.Goals as goal

pub pow-requires : goal.pow-requires
pow-requires g c =
    let m = g.D.Digits.counts c.args.self.now.digits in
    let laws = g.met.D.Digits.lawful c.args.self.now.digits in
    let short = subst (λ (k : Mark). c.args.k < k.length) c.mark-base.ensures c.if-k-length.true in
    let small = low_small m laws c.args.k short in
    let base_is = c.from.ensures ∙ ap (λ (k : Mark). k.base) c.mark-base.ensures in
    subst₂ (λ (b k : ℕ). b ^ k < 2 ^ 32) (sym base_is) (sym c.from-then-k-length.ensures) (omega (arith, small, laws.size_most))

pub returns-then-k-length : goal.returns-then-k-length
returns-then-k-length g c =
    let m = g.D.Digits.counts c.args.self.now.digits in
    let laws = g.met.D.Digits.lawful c.args.self.now.digits in
    let short = subst (λ (k : Mark). c.args.k < k.length) c.mark-base.ensures c.if-k-length.true in
    let base_is = c.from.ensures ∙ ap (λ (k : Mark). k.base) c.mark-base.ensures in
    c.pow.ensures ∙ ap₂ (λ (b k : ℕ). b ^ k) base_is c.from-then-k-length.ensures ∙ sym (low_power m laws c.args.k short)

pub returns-else-k-length : goal.returns-else-k-length
returns-else-k-length g c =
    let m = g.D.Digits.counts c.args.self.now.digits in
    let laws = g.met.D.Digits.lawful c.args.self.now.digits in
    let long = subst (λ (k : Mark). k.length ≤ c.args.k) c.mark-base.ensures c.if-k-length.false in
    sym (high_power m laws c.args.k long)
