use Rattle.std.proofs.Common.{◌≡◌, ℕ, ap, ◌∙◌}
use Rattle.scale.specs.Meaning.{reading}
use Rattle.scale.proofs.Codes.{reading_code, reading_of}
use Rattle.scale.proofs.Scale.gather.Goals as goal
use Rattle.scale.proofs.Scale.gather.Goals.{in-Ok, in-Err}

pub returns : goal.returns
returns g c =
    let m = g.Self.Scale.meaning c.args.self.now in
    let l = g.met.Self.Scale.lawful c.args.self.now in
    let product : ℕ = m.product (reading m c.args.b) (reading m c.args.c) in
    let product_code = l.product_code _ _ (reading_code m l c.args.b) (reading_code m l c.args.c) in
    let total_code = reading_code m l c.args.total in
    let same : reading m c.match-try_from.total ≡ reading m c.args.total =
    elim c.match-try_from.branch [
      | in-Ok w ↦ ap (reading m) (w.total-is ∙ w.in-Ok.ensures.1)
      | in-Err w ↦ ap (reading m) (w.total-is ∙ w.gathered-total.ensures) ∙ reading_of m l (reading m c.args.total) total_code
    ]
    in
    let is = c.from.ensures ∙ c.add_product.ensures ∙ ap (λ (a : ℕ). m.sum a product) same in
    ap (reading m) is ∙ reading_of m l (m.sum (reading m c.args.total) product) (l.sum_code _ _ total_code product_code)
