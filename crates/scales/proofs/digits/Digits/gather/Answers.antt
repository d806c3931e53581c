use Rattle.std.proofs.Common.{◌≡◌, ℕ, ◌+◌, ◌*◌, ◌%◌, sym, ap, ap₂, ◌∙◌, rules}
use native.Mathlib.Nat.{add-mod, mod-mod}
use Rattle.scale.specs.Meaning.{size}
use Rattle.scales.specs.Counting.{counting}
use Rattle.scales.proofs.digits.Digits.gather.Goals as goal

pub returns-in-Some : goal.returns-in-Some
returns-in-Some g c =
    let n : ℕ = size (counting (g.Self.Digits.counts c.args.self.now)) in
    let sum : c.in-Some.sum ≡ c.args.total + c.from.result * c.from-2.result = search rules in
    ap (λ (x : ℕ). x % n) (sum ∙ ap₂ (λ (x y : ℕ). c.args.total + x * y) c.from.ensures c.from-2.ensures)

pub returns-in-None : goal.returns-in-None
returns-in-None g c =
    let n : ℕ = size (counting (g.Self.Digits.counts c.args.self.now)) in
    let total = c.args.total in
    let product : ℕ = c.args.b * c.args.c in
    simp (c.from-in-None.ensures, c.remainder.ensures, c.from.ensures, c.from-2.ensures)
    (add-mod (total % n) product n
    ∙ ap (λ (x : ℕ). (x + product % n) % n) (mod-mod total n)
    ∙ sym (add-mod total product n))
