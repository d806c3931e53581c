use Rattle.std.proofs.Common.{◌≡◌}
use Rattle.scale.specs.Meaning.{reading, summed}
use Rattle.ties.specs.Equations.{code_at, term_at}
use Rattle.ties.specs.Layouts.{shape}
use Rattle.book.specs.Rows.{row_of}
use Rattle.book.proofs.rows.total_at.Given as goal

abbrev pub invariant-loop-term : goal.invariant-loop-term
invariant-loop-term g l =
    let m = g.S.Scale.meaning l.tie.scale.now in
    reading m l.total
    ≡ summed m l.term-index
    (λ i. m.product (term_at l.tie.tie.terms.now i).factor (code_at (row_of (shape l.tie.layout.now) l.row) (term_at l.tie.tie.terms.now i)))
