use Rattle.std.proofs.Common.{◌≡◌, ℕ, ◌≤◌, get_or, length}
use Rattle.scale.specs.Meaning.{Code, summed}
use Rattle.ties.specs.Equations.{term_at}
use Rattle.ties.specs.Layouts.{places, shape}
use Rattle.multipliers.specs.Refuting.{factor_in}
use Rattle.multipliers.specs.Totals.{Codes, Shares}
use Rattle.multipliers.proofs.adding.add_terms.Given as goal

abbrev pub invariant-loop-term : goal.invariant-loop-term
invariant-loop-term g l =
    let m = g.S.Scale.meaning l.tie.scale.now in
    (length l.row ≡ 32)
    × ((i : ℕ) → places (shape l.tie.layout.now) ≤ i → get_or l.row i 0 ≡ get_or l.initial.row i 0)
    × (Code m l.by
    → Codes m l.initial.row
    → Codes m l.row
    × Shares m (shape l.tie.layout.now)
    (λ h c. m.product l.by (summed m l.term-index (λ j. factor_in (term_at l.tie.tie.terms.now j) h c)))
    l.initial.row l.row)
