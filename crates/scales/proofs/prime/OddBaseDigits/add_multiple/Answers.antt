use Rattle.std.proofs.Common.{◌≡◌, ℕ, ◌+◌, ◌*◌, ◌%◌, ◌<◌, get_or, ap₂, sym, ◌∙◌, subst, mod-lt, arith}
use Rattle.scales.specs.Counting.{counting}
use Rattle.scales.specs.Kinds.{prime_mark}
use Rattle.scales.proofs.Adding.{multiple_more, multipliers_add}
use Rattle.scales.proofs.OddBases.{odd_size, odd_twice}
use Rattle.scales.proofs.prime.OddBaseDigits.add_multiple.Goals as goal

both_small : (c : goal.After-times-in-loop-j) → c.times.result + c.times-in-loop-j.result < c.args.self.now.size + c.args.self.now.size
both_small c =
    let first = subst (λ (x : ℕ). x < c.args.self.now.size) (sym c.times.ensures) (mod-lt _ (odd_size c.args.self.now)) in
    let second = subst (λ (x : ℕ). x < c.args.self.now.size) (sym c.times-in-loop-j.ensures) (mod-lt _ (odd_size c.args.self.now)) in
    omega (arith, first, second)

pub overflow_add-times : goal.overflow_add-times
overflow_add-times c = let small = both_small c in omega (arith, small, odd_twice c.args.self.now)

pub within-requires : goal.within-requires
within-requires c = both_small c

pub loop-j-preserved : goal.loop-j-preserved
loop-j-preserved c =
    let s = c.args.self.now in
    let a = get_or c.loop-j.to c.loop-j.j 0 in
    let b = get_or c.args.from.now c.loop-j.j 0 in
    let is =
    c.within.ensures
    ∙ ap₂ (λ (x y : ℕ). (x + y) % s.size) c.times.ensures c.times-in-loop-j.ensures
    ∙ multipliers_add s.size a c.args.by b _ _ c.multiplier-one.ensures.by c.multiplier-by.ensures.by
    in
    multiple_more (counting (prime_mark s.base s.length)) c.args.by c.args.from.now c.args.to.now c.loop-j.to c.loop-j.j
    c.within.result (omega arith)
    (subst (λ (n : ℕ). c.within.result ≡ (a % n + c.args.by % n * (b % n) % n) % n) s.whole is) c.loop-j.invariant
