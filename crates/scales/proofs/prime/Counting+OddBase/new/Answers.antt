use Rattle.std.proofs.Common.{◌≡◌, ℕ, ◌^◌, ◌<◌, ◌≤◌, sym, subst, subst₂, lt_of_le_of_lt, arith, lit<}
use Rattle.std.proofs.Math.Nat.{one-le-pow}
use Rattle.scales.specs.Kinds.{longest, prime_mark}
use Rattle.scales.specs.Known.{fits}
use Rattle.scales.specs.Whole.{Fit}
use Rattle.scales.proofs.prime.Counting+OddBase.new.Goals as goal

fit : (base length most : ℕ) → most ≡ longest 2 base → 1 ≤ length → length ≤ most → Fit (prime_mark base length)
fit base length most is some short =
    (fits (prime_mark base length) (some, subst (λ (l : ℕ). length ≤ l) is short)).0

pub pow-size-requires : goal.pow-size-requires
pow-size-requires c =
    let numbers = fit c.args.base c.args.length c.greatest_length.result c.greatest_length.ensures (omega (arith, c.if-length-eq0.false)) c.if-length-greatest_length.false in
    subst₂ (λ (b e : ℕ). b ^ e < 2 ^ 32) (sym c.from.ensures) (sym c.from-2.ensures)
    (lt_of_le_of_lt numbers.size_most (lit< tt))

pub nonzero_div-result : goal.nonzero_div-result
nonzero_div-result c =
    let numbers = fit c.args.base c.args.length c.greatest_length.result c.greatest_length.ensures (omega (arith, c.if-length-eq0.false)) c.if-length-greatest_length.false in
    let some = one-le-pow c.from-2.result c.from.result (omega (arith, c.from.ensures, numbers.base_least)) in
    omega (arith, c.from-3.ensures, c.pow-size.ensures, some)
