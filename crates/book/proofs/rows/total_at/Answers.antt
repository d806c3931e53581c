use Rattle.std.proofs.Common.{◌≡◌, ℕ, ◌<◌, length, get_or, sym, ap, ◌∙◌, ap₂, subst, add-one, arith}
use Rattle.scale.specs.Meaning.{Code, reading, summed}
use Rattle.scale.proofs.Codes.{reading_code, reading_of, reading_zero, zero_code}
use Rattle.ties.specs.Equations.{code_at, term_at}
use Rattle.ties.specs.Layouts.{shape}
use Rattle.ties.proofs.Places.{place_below}
use Rattle.book.specs.Rows.{row_of}
use Rattle.book.proofs.Spots.{total_none}
use Rattle.book.proofs.rows.total_at.Goals as goal

pub returns-then-is_zero : goal.returns-then-is_zero
returns-then-is_zero g c =
    let tie = c.args.tie.now in
    let m = g.S.Scale.meaning tie.scale.now in
    let l = g.met.S.Scale.lawful tie.scale.now in
    let none =
    total_none m l (shape tie.layout.now) tie.tie.terms.now c.args.row.now tie.sound.exist
    (λ i h. (tie.sound.codes i (omega (arith, h))).0 h) c.requires.whole (c.is_zero.ensures.0 c.if-is_zero.true)
    in
    (zero_code m l, sym none)

pub bounds-row-place : goal.bounds-row-place
bounds-row-place g c =
    let below = place_below (shape c.args.tie.now.layout.now) _ _ (c.args.tie.now.sound.exist 0 (omega (arith, c.in-len1.len_at_least))) in
    omega (arith, c.place.ensures)

pub returns-in-len1 : goal.returns-in-len1
returns-in-len1 g c =
    let tie = c.args.tie.now in
    let m = g.S.Scale.meaning tie.scale.now in
    let l = g.met.S.Scale.lawful tie.scale.now in
    let s = shape tie.layout.now in
    let row = c.args.row.now in
    let x : ℕ = get_or row c.place.result 0 in
    let some : 0 < length tie.tie.terms.now = omega (arith, c.in-len1.len_at_least) in
    let one : 1 ≡ length tie.tie.terms.now = omega (arith, c.in-len1.len_at_least, c.in-len1.len_below) in
    let F : ℕ → ℕ = λ k. m.product (term_at tie.tie.terms.now k).factor (code_at (row_of s row) (term_at tie.tie.terms.now k)) in
    let factor_code = (tie.sound.codes 0 (omega (arith, some))).0 some in
    let code_is = ap (λ p. get_or row p 0) c.place.ensures in
    let code_code = subst (Code m) code_is (c.requires.codes c.place.result) in
    let product_is : c.product.result ≡ F 0 =
    c.product.ensures ∙ ap₂ m.product (reading_of m l _ factor_code) (reading_of m l x (c.requires.codes c.place.result) ∙ code_is)
    in
    let product_code : Code m (F 0) = l.product_code _ _ factor_code code_code in
    let alone : m.sum 0 (F 0) ≡ F 0 = l.sum_comm 0 (F 0) (zero_code m l) product_code ∙ l.sum_zero (F 0) product_code in (
      subst (Code m) (sym product_is) product_code,
      product_is ∙ sym alone ∙ ap (λ n. summed m n F) one,
    )

pub bounds-row-place-in-loop-term : goal.bounds-row-place-in-loop-term
bounds-row-place-in-loop-term g c =
    let below = place_below (shape c.args.tie.now.layout.now) _ _ (c.args.tie.now.sound.exist c.loop-term.term-index c.loop-term-test.true) in
    omega (arith, c.place-in-loop-term.ensures)

pub loop-term-init : goal.loop-term-init
loop-term-init g c =
    let tie = c.args.tie.now in
    reading_zero (g.S.Scale.meaning tie.scale.now) (g.met.S.Scale.lawful tie.scale.now)

pub loop-term-preserved : goal.loop-term-preserved
loop-term-preserved g c =
    let tie = c.args.tie.now in
    let m = g.S.Scale.meaning tie.scale.now in
    let l = g.met.S.Scale.lawful tie.scale.now in
    let i = c.loop-term.term-index in
    let t = term_at tie.tie.terms.now i in
    let s = shape tie.layout.now in
    let row = c.args.row.now in
    let x : ℕ = get_or row c.place-in-loop-term.result 0 in
    let factor_is = reading_of m l t.factor ((tie.sound.codes i (omega (arith, c.loop-term-test.true))).0 c.loop-term-test.true) in
    let code_is : reading m x ≡ code_at (row_of s row) t =
    reading_of m l x (c.requires.codes c.place-in-loop-term.result) ∙ ap (λ p. get_or row p 0) c.place-in-loop-term.ensures
    in
    let F : ℕ → ℕ = λ k. m.product (term_at tie.tie.terms.now k).factor (code_at (row_of s row) (term_at tie.tie.terms.now k)) in
    c.gather-total.ensures
    ∙ ap₂ m.sum c.loop-term.invariant (ap₂ m.product factor_is code_is)
    ∙ ap (λ n. summed m n F) (sym (add-one i))

pub returns : goal.returns
returns g c =
    let tie = c.args.tie.now in
    let m = g.S.Scale.meaning tie.scale.now in
    let l = g.met.S.Scale.lawful tie.scale.now in
    let end : c.loop-term.term-index ≡ length tie.tie.terms.now = omega (arith, c.loop-term.auto.term-index-end, c.loop-term-test.false) in (
      subst (Code m) (sym c.gathered.ensures) (reading_code m l c.loop-term.total),
      c.gathered.ensures ∙ rw end at c.loop-term.invariant,
    )
