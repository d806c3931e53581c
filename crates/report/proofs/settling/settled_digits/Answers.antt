use Rattle.std.proofs.Common.{◌≡◌, ℕ, ◌+◌, ◌-◌, ◌*◌, ◌/◌, ◌%◌, ◌≤◌, List, ◌++◌, drop, get_or, replicate, sym, ◌∙◌, ap₂, subst, arith}
use Rattle.std.proofs.lemmas.List.{get_or-append_right, get_or-drop, get_or_append_left, length-take}
use Rattle.ties.specs.Layouts.{counters_of, places, shape}
use Rattle.ties.proofs.Places.{layout_sized, places_most}
use Rattle.multipliers.proofs.Concluding.{zeros_read}
use Rattle.book.specs.Standing.{ledger}
use Rattle.report.specs.Reported.{SettledAt}
use Rattle.report.proofs.Own.{by_counter}
use Rattle.book.proofs.Filling.{each_more}
use Rattle.report.proofs.settling.settled_digits.Goals as goal

pub loop-i-preserved : goal.loop-i-preserved
loop-i-preserved g c =
    let b = c.args.book.now in
    let s = shape b.layout in
    let P : ℕ → ℕ → Type 0 = λ j v. SettledAt (g.S.Scale.meaning b.scale) s (ledger b.table) (j / counters_of s) (j % counters_of s) v in
    let ek : c.from-counters.result ≡ counters_of s = c.from-counters.ensures ∙ c.counters.ensures in
    each_more P c.loop-i.i c.loop-i.digits-items c.settled_at.result (omega arith) (rw (← ek) c.settled_at.ensures) c.loop-i.invariant

pub returns : goal.returns
returns g c =
    let b = c.args.book.now in
    let s = shape b.layout in
    let all = ap₂ (λ (h k : ℕ). h * k) (c.from.ensures ∙ c.heads.ensures) (c.from-counters.ensures ∙ c.counters.ensures) in
    let most : places s ≤ 32 = places_most s (layout_sized b.layout) in
    let long = length-take {A = ℕ} (c.from.result * c.from-counters.result) (replicate 32 0) in
    let rest : List ℕ = drop (c.from.result * c.from-counters.result) (replicate 32 0) in
    let settled =
    by_counter s (λ h k i. SettledAt (g.S.Scale.meaning b.scale) s (ledger b.table) h k (get_or (c.loop-i.digits-items ++ rest) i 0))
    (λ i below.
    subst (λ (v : ℕ). SettledAt (g.S.Scale.meaning b.scale) s (ledger b.table) (i / counters_of s) (i % counters_of s) v)
    (sym (get_or_append_left c.loop-i.digits-items rest 0 i (omega (arith, below, all, most, long, c.loop-i.auto.digits-items))))
    (c.loop-i.invariant i (omega (arith, below, all, most, long, c.loop-i-test.false)))) in
    record {
      counters = settled;
      rest = λ i behind.
          get_or-append_right c.loop-i.digits-items rest (places s) i 0
          (omega (arith, all, most, long, c.loop-i.auto.digits-items, c.loop-i-test.false)) behind
          ∙ get_or-drop (c.from.result * c.from-counters.result) (replicate 32 0) (i - places s) 0
          ∙ zeros_read 32 (c.from.result * c.from-counters.result + (i - places s));
    }
