use Rattle.std.proofs.Common.{◌≡◌, ℕ, ◌+◌, ◌<◌, subst₂, List, sym, subst, arith}
use Rattle.std.proofs.lemmas.List.{length-take, get_or-take}
use Rattle.std.proofs.lemmas.Result.{err_from_is_err_and}
use Rattle.ties.specs.Equations.{nth_equation}
use Rattle.ties.specs.Faults.{Faulty, Sound}
use Rattle.ties.specs.Layouts.{shape}
use Rattle.tie_file.specs.Bodies.{equations, file_shape}
use Rattle.tie_file.specs.Table.{entries}
use Rattle.multipliers.specs.declared.fault.CheckFault.{CheckFault}
use Rattle.multipliers.specs.declared.totals.Totals.{Totals}
use Rattle.multipliers.specs.Checked.{Stopped, Usable}
use Rattle.multipliers.specs.Totals.{Added}
use Rattle.multipliers.proofs.Concluding.{Sofar, concluded, sofar_more, sofar_none, stopped_at, stopped_short}
use Rattle.multipliers.proofs.check.Goals as goal

pub returns-in_err-layout : goal.returns-in_err-layout
returns-in_err-layout g c =
    let m = g.S.Scale.meaning c.args.scale.now in
    let ys = c.args.multipliers.now in
    let p = err_from_is_err_and c.from_residual-in_err-layout.result c.from_residual-in_err-layout.ensures.1 in
    let stopped =
    subst (λ (f : List ℕ). Stopped m f ys c.in_err-layout.field-0.0) c.in_ok-whole.ensures.1 (c.in_err-layout.ensures ys) in
    rw (p.1, p.2) (record { answer = stopped; trusted = tt })

pub returns-then-multipliers-ties : goal.returns-then-multipliers-ties
returns-then-multipliers-ties g c =
    let m = g.S.Scale.meaning c.args.scale.now in
    let same = c.in_ok-whole.ensures.1 in
    let usable = subst (Usable m) same c.in_ok-layout.ensures.0 in
    let ties = subst (λ (f : List ℕ). c.ties-ties.result + 1 ≡ entries f) same c.ties-ties.ensures in
    let short = stopped_short m c.args.file.now c.args.multipliers.now _ usable ties c.if-multipliers-ties.true in
    record { answer = short; trusted = tt }

pub loop-i-init : goal.loop-i-init
loop-i-init g c =
    let m = g.S.Scale.meaning c.args.scale.now in
    let l = g.met.S.Scale.lawful c.args.scale.now in
    let s = shape c.in_ok-layout.layout in
    let es = equations c.args.file.now in
    let ys = c.args.multipliers.now in
    subst (λ (t : Totals). Sofar m s es ys 0 t) (sym c.new-totals.ensures) (sofar_none m l s es ys)

pub returns-in_err-add_nth : goal.returns-in_err-add_nth
returns-in_err-add_nth g c =
    let m = g.S.Scale.meaning c.args.scale.now in
    let f = c.args.file.now in
    let ys = c.args.multipliers.now in
    let s = shape c.in_ok-layout.layout in
    let i = c.loop-i.i in
    let same = c.in_ok-whole.ensures.1 in
    let usable = subst (Usable m) same c.in_ok-layout.ensures.0 in
    let shaped = subst (λ (w : List ℕ). s ≡ file_shape w) same c.in_ok-layout.ensures.1 in
    let ties = subst (λ (w : List ℕ). c.ties-ties.result + 1 ≡ entries w) same c.ties-ties.ensures in
    let p = err_from_is_err_and c.from_residual-in_err-add_nth.result c.from_residual-in_err-add_nth.ensures.1 in
    let fault = c.in_err-add_nth.ensures in
    let faulty = subst (λ (w : List ℕ). Faulty m s (nth_equation (equations w) i) fault.0) same fault.2 in
    let stopped =
    stopped_at m f ys c.ties-ties.result i s fault.0 usable ties c.if-multipliers-ties.false
    (omega (arith, length-take c.ties-ties.result ys, c.loop-i-test.true)) shaped
    c.loop-i.invariant.1 faulty
    in
    rw (p.1, p.2) (record { answer = subst (λ (g : CheckFault). Stopped m f ys g) (sym fault.1) stopped; trusted = tt })

pub loop-i-preserved : goal.loop-i-preserved
loop-i-preserved g c =
    let m = g.S.Scale.meaning c.args.scale.now in
    let s = shape c.in_ok-layout.layout in
    let same = c.in_ok-whole.ensures.1 in
    let added = c.in_ok-add_nth.ensures in
    let ys = c.args.multipliers.now in
    let below : c.loop-i.i < c.ties-ties.result = omega (arith, length-take c.ties-ties.result ys, c.loop-i-test.true) in
    sofar_more m s (equations c.args.file.now) c.args.multipliers.now
    c.loop-i.i c.loop-i.totals c.add_nth.new.totals c.loop-i.invariant
    (subst (λ (w : List ℕ). Sound m s (nth_equation (equations w) c.loop-i.i)) same added.0) added.1
    (subst₂ (λ (w : List ℕ) (y : ℕ). Added m s (nth_equation (equations w) c.loop-i.i) y c.loop-i.totals c.add_nth.new.totals)
    same (get_or-take c.ties-ties.result ys c.loop-i.i 0 below) added.2)

pub returns : goal.returns
returns g c =
    let m = g.S.Scale.meaning c.args.scale.now in
    let l = g.met.S.Scale.lawful c.args.scale.now in
    let same = c.in_ok-whole.ensures.1 in
    let s = shape c.in_ok-layout.layout in
    let usable = subst (Usable m) same c.in_ok-layout.ensures.0 in
    let shaped = subst (λ (f : List ℕ). s ≡ file_shape f) same c.in_ok-layout.ensures.1 in
    let ties = subst (λ (f : List ℕ). c.ties-ties.result + 1 ≡ entries f) same c.ties-ties.ensures in
    let end : c.loop-i.i ≡ c.ties-ties.result = omega (arith, length-take c.ties-ties.result c.args.multipliers.now) in
    let done =
    concluded m l c.args.file.now c.args.multipliers.now c.loop-i.totals c.loop-i.i c.contradict.result s
    usable (omega arith) (omega (arith, c.if-multipliers-ties.false)) shaped c.loop-i.invariant c.contradict.ensures
    in
    record { answer = done.0; trusted = done.1 }
