use Rattle.std.proofs.Common.{◌≡◌, ℕ, ◌+◌, ◌*◌, ◌/◌, ◌%◌, sym, ap, ◌∙◌, subst₂}
use Rattle.scales.specs.Parting.{Parted}
use Rattle.scales.proofs.OddBases.{odd_power}
use Rattle.scales.specs.Zeros.{shed_some}
use Rattle.scales.proofs.prime.OddBase.shed.Goals as goal

pub nonzero_rem-unit : goal.nonzero_rem-unit
nonzero_rem-unit c = odd_power c.args.self.now c.args.digits c.requires.raised

divides : (c : goal.After-from) → c.args.parts.unit % c.args.power ≡ 0
divides c = ap (λ (x : ℕ). x % c.args.power) (sym c.from-unit.ensures) ∙ c.if-unit-power-ne0.false

pub returns : goal.returns
returns c =
    let parts = c.args.parts in
    let s = c.args.self.now in
    let d : ℕ = c.args.power in
    let some = odd_power s c.args.digits c.requires.raised in
    record {
      after =
          subst₂
          (λ (p u : ℕ). Parted s.base d (parts.power * parts.unit) (record { level = parts.level + c.args.digits; power = p * d; unit = u / d }))
          (sym c.from.ensures) (sym c.from-unit.ensures)
          (shed_some s.base d c.args.digits parts some c.requires.raised c.requires.before (divides c));
      short = c.requires.short;
    }
