use Rattle.std.proofs.Common.{ℕ, ◌+◌, ◌<◌, List, [], ◌∷◌, ◌++◌, length, get_or, sym, ◌∙◌, ap, subst, subst₂}
use Rattle.arrayvec.specs.ArrayVec.{ArrayVec}
use Rattle.book.specs.declared.dividing.Divisor.{Divisor}
use Rattle.book.specs.Dividing.{DividesBy, Scanned}
use Rattle.book.proofs.Choosing.{scanned_more, scanned_new}
use Rattle.book.proofs.dividing.choose.Goals as goal
use Rattle.book.proofs.dividing.choose.Goals.{in-Some, in-None}

pub loop-i-preserved : goal.loop-i-preserved
loop-i-preserved g c =
    let m = g.S.Scale.meaning c.args.scale.now in
    let l = g.met.S.Scale.lawful c.args.scale.now in
    let ds = c.args.products.now.items in
    let i = c.loop-i.i in
    let p = c.loop-i.number in
    let before = c.loop-i.invariant.2 in
    let inside : i < length ds = rw c.deref-product-items.ensures.0 at c.loop-i-test.true in
    let P : ℕ → Divisor → List ℕ → Type 0 = λ q d qs.
    (q < length ds) × DividesBy m (get_or ds q 0) d × Scanned m ds (i + 1) q qs
    in
    let items = λ (v : ArrayVec ℕ). v.items in
    elim c.match-quotient.branch [
      | in-Some w ↦
          let found = rw c.deref-product-items.ensures.0 at w.in-Some.ensures (get_or ds p 0) (c.requires.codes p) c.loop-i.invariant.1 in
          let more = scanned_more m ds _ i _ _ before found.0 found.1 in
          subst (λ d. P c.match-quotient.number d c.match-quotient.quotients.items) (sym w.divisor-is)
          (subst₂ (λ q qs. P q c.loop-i.divisor qs) (sym w.number-is) (sym (ap items w.quotients-is ∙ w.push.ensures.items))
          (c.loop-i.invariant.0, c.loop-i.invariant.1, more))
      | in-None w ↦
          let low = rw c.deref-product-items.ensures.0 at w.in-None.ensures (get_or ds p 0) (c.requires.codes p) c.loop-i.invariant.1 in
          let new = scanned_new m ds _ i l _ inside (c.requires.codes i) before low in
          let by = rw c.deref-product-items.ensures.0 at w.of-divisor-in-None.ensures in
          subst (λ d. P c.match-quotient.number d c.match-quotient.quotients.items) (sym w.divisor-is)
          (subst₂ (λ q qs. P q w.of-divisor-in-None.result qs) (sym w.number-is)
          (sym (ap items w.quotients-is ∙ w.push-in-None.ensures.items ∙ ap (λ (q : ℕ). c.loop-i.quotients.items ++ (q ∷ [])) w.one.ensures))
          (inside, by, new))
    ]
