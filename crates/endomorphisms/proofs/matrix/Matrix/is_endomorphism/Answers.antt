use Rattle.std.proofs.Common.{rules, ℕ, ◌<◌, sym, ◌∙◌, refl, arith, below_more}
use borrow.Author.Tests.{clash}
use Rattle.ties.specs.Layouts.{counters_of, shape}
use Rattle.endomorphisms.specs.Groups.{Fits, numbers}
use Rattle.endomorphisms.proofs.Rules.{endomorphism_fits, endomorphism_of, rule_is}
use Rattle.endomorphisms.proofs.matrix.Matrix.is_endomorphism.Goals as goal

pub returns-then-not-fits : goal.returns-then-not-fits
returns-then-not-fits g c =
    let m = g.S.Scale.meaning c.args.scale.now in
    let l = g.met.S.Scale.lawful c.args.scale.now in
    let s = shape c.args.layout.now in
    let a = numbers c.args.self.now in
    let inside : c.loop-target.target < counters_of s = omega (arith, c.counters-target-end.ensures, c.loop-target-test.true) in
    let below : c.loop-source.source < counters_of s = omega (arith, c.counters-source-end.ensures, c.loop-source-test.true) in
    record {
      answer = (
        λ e. absurd (clash e),
        λ e.
            sym c.if-not-fits.true
            ∙ c.fits.ensures.1 (endomorphism_fits m l s a e c.loop-target.target c.loop-source.source inside below),
      );
      rule = rule_is m l s a;
    }

pub returns-then-is_err : goal.returns-then-is_err
returns-then-is_err g c =
    record {
      answer = search rules;
      rule =
          rule_is (g.S.Scale.meaning c.args.scale.now) (g.met.S.Scale.lawful c.args.scale.now) (shape c.args.layout.now)
          (numbers c.args.self.now);
    }

pub loop-target-preserved : goal.loop-target-preserved
loop-target-preserved g c =
    let m = g.S.Scale.meaning c.args.scale.now in
    let s = shape c.args.layout.now in
    let a = numbers c.args.self.now in
    let row : (r : ℕ) → r < counters_of s → Fits m s a c.loop-target.target r =
    λ r h. c.loop-source.invariant.2 r (omega (arith, h, c.counters-source-end.ensures, c.loop-source-test.false))
    in (
      c.loop-source.invariant.0,
      λ i r hi.
          below_more (λ i. (r : ℕ) → r < counters_of s → Fits m s a i r) c.loop-target.target
          (λ i hi r. c.loop-source.invariant.1 i r hi) row i hi r,
    )

pub returns : goal.returns
returns g c =
    let m = g.S.Scale.meaning c.args.scale.now in
    let l = g.met.S.Scale.lawful c.args.scale.now in
    let s = shape c.args.layout.now in
    let a = numbers c.args.self.now in
    record {
      answer = (
        λ t.
            endomorphism_of m l s a c.loop-target.invariant.0
            (λ i r hi hr.
            c.loop-target.invariant.1 i r (omega (arith, hi, c.counters-target-end.ensures, c.loop-target-test.false)) hr),
        λ e. refl,
      );
      rule = rule_is m l s a;
    }
