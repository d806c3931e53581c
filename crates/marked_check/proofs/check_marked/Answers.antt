use Rattle.std.proofs.Common.{◌≡◌, ℕ, List, subst}
use Rattle.tie_file.specs.Bodies.{file_mark}
use Rattle.marked_check.proofs.Naming.{answered, made_scale, numbers_of}
use Rattle.marked_check.proofs.check_marked.Goals as goal

pub returns : goal.returns
returns c =
    let f = c.args.file.now in
    let stated = c.layout.result.mark in
    let mark = subst (λ (w : List ℕ). stated ≡ file_mark w) c.in_ok-verify.ensures.1 c.layout.ensures.layout.mark in
    let made = c.in_ok-scale.ensures in
    let is = made_scale f _ _ mark made.1 in
    let done = c.in_ok-check.ensures in
    let says = answered f c.args.multipliers.now _ c.in_ok-check.field-0 is done.answer done.trusted in
    record { answer = (numbers_of f _ mark made.0, says.0.0, says.0.1); trusted = says.1 }
