use Rattle.std.proofs.Common.{length}
use Rattle.book.specs.Rows.{Codes}
use Rattle.book.proofs.Steps.{Spreading}
use Rattle.book.proofs.pivot.Step.spread.Given as goal

abbrev pub invariant-loop-i : goal.invariant-loop-i
invariant-loop-i g l =
    let m = g.S.Scale.meaning l.self.scale.now in
    let row = l.self.pivot.now.row.items in
    Codes m l.rows × Spreading m (length row) l.self.pivot.now.number row l.factors l.i l.initial.rows l.rows
