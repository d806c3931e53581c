use Rattle.std.proofs.Common.{◌≡◌, ℕ, ◌<◌, length, get_or}
use Rattle.scale.specs.Meaning.{Code}
use Rattle.ties.specs.Equations.{total}
use Rattle.ties.specs.Layouts.{shape}
use Rattle.book.specs.Sheets.{generator_of}
use Rattle.book.proofs.rows.totals_at.Given as goal

abbrev pub invariant-loop-i : goal.invariant-loop-i
invariant-loop-i g l =
    let m = g.S.Scale.meaning l.tie.scale.now in
    let totals = l.totals.items in
    (length totals ≡ l.i)
    × ((j : ℕ)
    → j < l.i
    → Code m (get_or totals j 0) × (get_or totals j 0 ≡ total m l.tie.tie.terms.now (generator_of (shape l.tie.layout.now) l.rows j)))
