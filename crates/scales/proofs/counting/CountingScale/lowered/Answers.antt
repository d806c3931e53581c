use Rattle.std.proofs.Common.{ℕ, ◌<◌, ◌≤◌, Some, sym, ◌∙◌, subst, rules}
use Rattle.scale.specs.declared.Mark.{Mark}
use Rattle.scale.specs.Meaning.{Code, Divided, power}
use Rattle.scale.proofs.Codes.{power_code, reading_code}
use Rattle.scale.proofs.Levels.{zero_divided}
use Rattle.scales.specs.Counting.{counting}
use Rattle.scales.proofs.Lowering.{high_divided, low_divided}
use Rattle.scales.proofs.counting.CountingScale.lowered.Goals as goal

pub returns-in-0 : goal.returns-in-0
returns-in-0 g c =
    let m = counting (g.D.Digits.counts c.args.self.now.digits) in
    let laws = g.met.D.Digits.lawful c.args.self.now.digits in
    subst (λ (a : ℕ). Divided m a (power m c.args.k) (Some 0)) (sym c.in-0.is ∙ c.reading.ensures)
    (zero_divided m laws _ (power_code m laws c.args.k))

pub returns-in_default : goal.returns-in_default
returns-in_default g c =
    let m = g.D.Digits.counts c.args.self.now.digits in
    let laws = g.met.D.Digits.lawful c.args.self.now.digits in
    let short = subst (λ (k : Mark). c.args.k < k.length) c.mark.ensures c.if-k-mark.true in
    let code = subst (Code (counting m)) (sym c.reading.ensures) (reading_code (counting m) laws c.args.a) in
    subst (λ (a : ℕ). Divided (counting m) a (power (counting m) c.args.k) c.lowered.result) c.reading.ensures
    (low_divided m laws c.reading.result c.args.k c.lowered.result code short c.lowered.ensures)

pub returns-in_default-2 : goal.returns-in_default-2
returns-in_default-2 g c =
    let m = g.D.Digits.counts c.args.self.now.digits in
    let laws = g.met.D.Digits.lawful c.args.self.now.digits in
    let long = subst (λ (k : Mark). k.length ≤ c.args.k) c.mark.ensures c.if-k-mark.false in
    let some : 0 < c.reading.result = search rules in
    let some = subst (λ (a : ℕ). 0 < a) c.reading.ensures some in
    high_divided m laws _ c.args.k (reading_code (counting m) laws c.args.a) some long
