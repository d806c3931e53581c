use Rattle.std.proofs.Common.{rules, refl, arith}
use Rattle.std.proofs.lemmas.Iterator.{cases_from_all, YieldsList-from_range}
use Rattle.tie_file.specs.Steps.{BodyFits}
use Rattle.tie_file.proofs.Fitting.{bodies_tested}
use Rattle.tie_file.proofs.checks.Contents.bodies_fit.Goals as goal

pub returns : goal.returns
returns c =
    let contents = c.args.self.now in
    let f = contents.file.now in
    bodies_tested f contents.count c.all.result contents.all (omega (arith, contents.all, contents.table.first))
    (cases_from_all _ _ c.all.result (BodyFits f) (λ i. BodyFits f i → ⊥) c.all.ensures.ran
    (YieldsList-from_range 0 contents.count contents.count refl (omega arith)) (λ i q k. search rules)
    (λ i q k. search rules))
