use Rattle.std.proofs.Common.{◌≡◌, ℕ, List, length, sym, ap, ap₂, ◌∙◌, refl, rules, arith, add-one}
use Rattle.std.proofs.iter.Yields.{nat_range_steps}
use Rattle.std.proofs.lemmas.Fn.{fold_over}
use Rattle.std.proofs.lemmas.Iterator.{YieldsList-from_range}
use Rattle.std.proofs.lemmas.List.{length_push}
use Rattle.std.proofs.lemmas.List.FromFn.{length-range_with_len}
use Rattle.scale.specs.Meaning.{power, reading}
use Rattle.scale.proofs.Codes.{power_more}
use Rattle.scale.proofs.Scale.step_power.Goals as goal

pub returns : goal.returns
returns g c =
    let m = g.Self.Scale.meaning c.args.self.now in
    let l = g.met.Self.Scale.lawful c.args.self.now in
    let k : ℕ = c.args.k in
    fold_over nat_range_steps (λ (x : ℕ). x) _ (λ (ys : List ℕ) (a : ℕ). a ≡ power m (length ys)) _
    (λ ys a x b f' is called.
    let more =
    ap₂ (λ s p. m.product (reading m s) (reading m p)) c.step-step.ensures is
    ∙ power_more m l (length ys)
    ∙ ap (power m) (sym (length_push ys x ∙ add-one (length ys)))
    in
    search rules)
    (record { start = 0; end = k }) _ _ _ (YieldsList-from_range 0 k k refl (omega arith)).runs (search rules) c.fold.ensures.ran
    ∙ ap (power m) (length-range_with_len 0 k)
