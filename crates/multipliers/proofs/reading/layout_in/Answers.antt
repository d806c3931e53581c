use Rattle.std.proofs.Common.{subst}
use Rattle.std.proofs.lemmas.Result.{err_from_is_err_and}
use Rattle.ties.specs.Layouts.{Shape}
use Rattle.ties.specs.Faults.{BadLayout}
use Rattle.tie_file.proofs.WellFormed.{layout_shape}
use Rattle.multipliers.proofs.reading.layout_in.Goals as goal

pub returns-in_err-layout : goal.returns-in_err-layout
returns-in_err-layout g c =
    let p = err_from_is_err_and c.from_residual.result c.from_residual.ensures.1 in
    let m = g.S.Scale.meaning c.args.scale.now in
    let stated = layout_shape _ c.layout-stated.result c.layout-stated.ensures.layout in
    let bad = subst (λ (s : Shape). BadLayout m s c.in_err-layout.field-0.0) stated c.in_err-layout.ensures in
    rw (p.1, p.2) (λ ys. (c.layout-stated.ensures.formed, bad))
