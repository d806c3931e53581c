use Rattle.std.proofs.Common.{◌≡◌, ℕ, refl, ◌*◌, ◌/◌, ◌<◌, arith, ap, ◌∙◌, mul_comm}
use Rattle.scales.specs.declared.prime.Multiplier.{Multiplier}
use Rattle.scales.specs.declared.prime.OddBase.{OddBase}
use Rattle.scales.proofs.OddBases.{odd_size, odd_twice}
use Rattle.scales.proofs.Quotients.{Near, near, ratio_high, ratio_low}
use Rattle.scales.proofs.prime.OddBase.times.Goals as goal

left :
    (s : OddBase) (m : Multiplier) (c : ℕ)
    → m.ratio ≡ m.by * 4294967296 / s.size
    → c < 4294967296
    → Near (m.by * c) s.size (m.ratio * c / 4294967296)
left s m c made fits =
    near 4294967296 s.size m.ratio m.by c (m.by * c) _ (odd_size s) fits
    (ratio_low 4294967296 s.size m.ratio m.by made)
    (ratio_high 4294967296 s.size m.ratio m.by (odd_size s) made)
    refl (ap (λ (y : ℕ). y / 4294967296) (mul_comm m.ratio c))

pub overflow_sub-product : goal.overflow_sub-product
overflow_sub-product c =
    let s = c.args.self.now in
    rw (c.from.ensures, c.from-2.ensures, c.from-3.ensures, c.from-4.ensures, c.from-5.ensures)
    (left s c.args.multiplier c.args.c c.requires c.ranges.c.fits).most

pub overflow_cast-product : goal.overflow_cast-product
overflow_cast-product c =
    let s = c.args.self.now in
    rw (c.from.ensures, c.from-2.ensures, c.from-3.ensures, c.from-4.ensures, c.from-5.ensures) (
    let small = (left s c.args.multiplier c.args.c c.requires c.ranges.c.fits).small in
    omega (arith, small, odd_twice s)
    )

pub within-requires : goal.within-requires
within-requires c =
    let s = c.args.self.now in
    rw (c.from.ensures, c.from-2.ensures, c.from-3.ensures, c.from-4.ensures, c.from-5.ensures)
    (left s c.args.multiplier c.args.c c.requires c.ranges.c.fits).small

pub returns : goal.returns
returns c =
    let s = c.args.self.now in
    c.within.ensures
    ∙ rw (c.from.ensures, c.from-2.ensures, c.from-3.ensures, c.from-4.ensures, c.from-5.ensures)
    (left s c.args.multiplier c.args.c c.requires c.ranges.c.fits).same
