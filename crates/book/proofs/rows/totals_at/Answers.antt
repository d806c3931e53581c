use Rattle.std.proofs.Common.{◌≡◌, ℕ, ◌+◌, ◌-◌, ◌*◌, ◌<◌, List, [], ◌∷◌, ◌++◌, length, get_or, sym, ap, ◌∙◌, subst, arith, below_more}
use Rattle.std.proofs.lemmas.List.{get_or_append_left, get_or_push, length_push}
use Rattle.scale.specs.Meaning.{Code}
use Rattle.ties.specs.Equations.{total}
use Rattle.ties.specs.Layouts.{places, shape}
use Rattle.book.specs.Sheets.{generator_of}
use Rattle.book.proofs.Filling.{all_codes, part_codes}
use Rattle.book.proofs.Spots.{total_cut}
use Rattle.book.proofs.rows.totals_at.Goals as goal

pub total_at-requires-clause-codes : goal.total_at-requires-clause-codes
total_at-requires-clause-codes g c =
    let tie = c.args.tie.now in
    part_codes (g.S.Scale.meaning tie.scale.now) (g.met.S.Scale.lawful tie.scale.now) _ _ c.args.rows.now c.requires.codes

pub loop-i-preserved : goal.loop-i-preserved
loop-i-preserved g c =
    let tie = c.args.tie.now in
    let m = g.S.Scale.meaning tie.scale.now in
    let s = shape tie.layout.now in
    let rows = c.args.rows.now in
    let n : ℕ = c.places-n.result in
    let is = c.places-n.ensures.0 in
    let i = c.loop-i.i in
    let cur = c.loop-i.totals.items in
    let v = c.total_at.result in
    let P : ℕ → ℕ → Type 0 = λ j a. Code m a × (a ≡ total m tie.tie.terms.now (generator_of s rows j)) in
    let here =
    total_cut m s tie.tie.terms.now rows (places s + i * places s) (n + i * n) (n + i * n + n - (n + i * n)) tie.sound.exist (ap (λ k. k + i * k) is) (omega (arith, is))
    in
    let pushed : List ℕ = cur ++ (v ∷ []) in
    let each : (j : ℕ) → j < i + 1 → P j (get_or pushed j 0) =
    below_more (λ j. P j (get_or pushed j 0)) i
    (λ j h. subst (P j) (sym (get_or_append_left cur (v ∷ []) 0 j (omega (arith, c.loop-i.invariant.0)))) (c.loop-i.invariant.1 j h))
    (subst (P i) (sym (get_or_push cur v 0 i c.loop-i.invariant.0)) (c.total_at.ensures.0, c.total_at.ensures.1 ∙ here))
    in
    subst (λ xs. (length xs ≡ i + 1) × ((j : ℕ) → j < i + 1 → P j (get_or xs j 0))) (sym c.push.ensures.items)
    (length_push cur v ∙ ap (λ k. k + 1) c.loop-i.invariant.0, each)

pub returns : goal.returns
returns g c =
    let tie = c.args.tie.now in
    let m = g.S.Scale.meaning tie.scale.now in
    let l = g.met.S.Scale.lawful tie.scale.now in
    let totals = c.loop-i.totals.items in
    let end : c.loop-i.i ≡ places (shape tie.layout.now) = omega (arith, c.loop-i.auto.i-end, c.loop-i-test.false, c.places-n.ensures.0) in
    record {
      codes = all_codes m l totals (λ j h. (c.loop-i.invariant.1 j (omega (arith, h, c.loop-i.invariant.0))).0);
      count = c.loop-i.invariant.0 ∙ end;
      each = λ j h. (c.loop-i.invariant.1 j (omega (arith, h, end))).1;
    }
