use Rattle.std.proofs.Common.{ℕ, length, refl, sym, subst, arith}
use Rattle.scale.specs.Meaning.{Code}
use Rattle.scale.proofs.Codes.{reading_code}
use Rattle.ties.specs.Equations.{equation}
use Rattle.ties.specs.Layouts.{shape}
use Rattle.multipliers.specs.Refuting.{factor_at}
use Rattle.multipliers.specs.Totals.{Shares}
use Rattle.multipliers.proofs.Growing.{right_is, weight_is}
use Rattle.multipliers.proofs.totals.Totals.add.Goals as goal

pub returns : goal.returns
returns g c =
    let tie = c.args.tie.now in
    let m = g.S.Scale.meaning tie.scale.now in
    let l = g.met.S.Scale.lawful tie.scale.now in
    let s = shape tie.layout.now in
    let e = equation tie.tie in
    let old = c.args.self.now in
    let new = c.add_terms.new.row in
    let code =
    subst (Code m) (sym c.product-by.ensures) (l.product_code _ _ (reading_code m l _) (reading_code m l _)) in
    let by = weight_is m l s e c.args.multiplier _ _ _ refl c.raise.ensures c.product-by.ensures in
    let right_code = (tie.sound.codes (length e.terms) (omega arith)).1 refl in
    let right =
    right_is m l s e c.args.multiplier _ _ _ by c.requires.1 right_code c.add_product-self.ensures in
    let shares =
    subst (λ (b : ℕ). Shares m s (λ h k. m.product b (factor_at m e.terms h k)) old.counters new) by
    (c.add_terms.ensures.added code c.requires.0) in
    record {
      codes = (c.add_terms.ensures.codes code c.requires.0, right.0);
      added = (shares, right.1);
    }
