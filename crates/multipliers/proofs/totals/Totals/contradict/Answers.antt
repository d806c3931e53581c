use Rattle.std.proofs.Common.{◌≡◌, ◌≢◌, ℕ, ◌<◌, ◌∙◌, sym, ap, List, length, get_or, Bool, true, false, MatchBool, rules, take, arith, subst}
use borrow.Author.Tests.{clash}
use Rattle.std.specs.List.{AllWithin, HoldsAt}
use Rattle.std.proofs.lemmas.Iterator.{cases_from_all, YieldsList-from_slice}
use Rattle.std.proofs.lemmas.List.{get_or-take, length-take}
use Rattle.ties.specs.Layouts.{shape}
use Rattle.ties.proofs.Places.{place_counter}
use Rattle.multipliers.proofs.totals.Totals.contradict.Goals as goal

-- where the test of the first n numbers answers no, one of them is not 0
seen :
    (xs : List ℕ) (n : ℕ) (b : Bool)
    → MatchBool b (AllWithin (λ x. x ≡ 0) (take n xs) 0 (length (take n xs)))
    ((k : ℕ) × (k < length (take n xs)) × HoldsAt (λ x. x ≢ 0) (take n xs) k)
    → b ≡ false
    → (k : ℕ) × (k < n) × (get_or xs k 0 ≢ 0)
seen xs n true all e = absurd (clash (sym e))
seen xs n false (k, h, other) e =
    let below : k < n = omega (arith, length-take n xs) in (k, below, λ z. other 0 (get_or-take n xs k 0 below ∙ z))

pub returns-else-all : goal.returns-else-all
returns-else-all c =
    let s = shape c.args.layout.now in
    let xs = c.args.self.now.counters in
    let all =
    cases_from_all _ _ c.all.result (λ x. x ≡ 0) (λ x. x ≢ 0) c.all.ensures.ran
    (YieldsList-from_slice (take c.places.result xs) c.iter.ensures.rest) (λ x q k. search rules) (λ x q k. search rules) in
    let found = seen xs c.places.result c.all.result all c.if-all.false in
    let at = place_counter s found.0 (subst (λ (n : ℕ). found.0 < n) c.places.ensures.0 found.1) in (
      λ e. absurd (clash (sym c.if-all.false ∙ e)),
      λ bad. absurd (found.2 (ap (λ p. get_or xs p 0) (sym at.1) ∙ bad.0 _ _ at.0)),
    )
