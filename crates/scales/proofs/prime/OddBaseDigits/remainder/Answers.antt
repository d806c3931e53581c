use Rattle.std.proofs.Common.{ℕ, ◌*◌, ◌/◌, ◌%◌, ◌<◌, refl, sym, arith, ap, ◌∙◌, one-mul}
use Rattle.scales.specs.declared.prime.OddBase.{OddBase}
use Rattle.scales.proofs.OddBases.{odd_size, odd_twice}
use Rattle.scales.proofs.Quotients.{Near, near, reciprocal_high, reciprocal_low}
use Rattle.scales.proofs.prime.OddBaseDigits.remainder.Goals as goal

left : (s : OddBase) (x : ℕ) → x < 18446744073709551616 → Near x s.size (x * s.reciprocal / 18446744073709551616)
left s x fits =
    near 18446744073709551616 s.size s.reciprocal 1 x x _ (odd_size s) fits
    (reciprocal_low 18446744073709551616 s.size s.reciprocal s.rounded)
    (reciprocal_high 18446744073709551616 s.size s.reciprocal (odd_size s) (omega arith) s.rounded)
    (sym (one-mul x)) refl

pub overflow_sub-x : goal.overflow_sub-x
overflow_sub-x c =
    let s = c.args.self.now in
    rw (c.from.ensures, c.from-2.ensures, c.from-3.ensures) (left s c.args.x c.ranges.x.fits).most

pub overflow_cast-x : goal.overflow_cast-x
overflow_cast-x c =
    let s = c.args.self.now in
    rw (c.from.ensures, c.from-2.ensures, c.from-3.ensures) (
    let small = (left s c.args.x c.ranges.x.fits).small in
    omega (arith, small, odd_twice s)
    )

pub within-requires : goal.within-requires
within-requires c =
    let s = c.args.self.now in
    rw (c.from.ensures, c.from-2.ensures, c.from-3.ensures) (left s c.args.x c.ranges.x.fits).small

pub returns : goal.returns
returns c =
    let s = c.args.self.now in
    c.within.ensures
    ∙ rw (c.from.ensures, c.from-2.ensures, c.from-3.ensures)
    ((left s c.args.x c.ranges.x.fits).same ∙ ap (λ (d : ℕ). c.args.x % d) s.whole)
