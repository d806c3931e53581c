use Rattle.std.proofs.Common.{get_or}
use Rattle.book.specs.Rows.{Codes}
use Rattle.book.proofs.Filling.{Written}
use Rattle.book.proofs.rows.multiply.Given as goal

abbrev pub invariant-loop-code : goal.invariant-loop-code
invariant-loop-code g l =
    let m = g.S.Scale.meaning l.scale in
    let old = l.initial.row in
    Codes m l.row × Written l.code-index (λ j. m.product l.by (get_or old j 0)) old l.row
