use Rattle.ties.specs.Equations.{depth, equation}
use Rattle.ties.specs.Layouts.{shape}
use Rattle.book.specs.Querying.{Least}
use Rattle.book.proofs.settling.settled_digits.Given as goal

abbrev pub invariant-loop-total : goal.invariant-loop-total
invariant-loop-total g l =
    let m = g.S.Scale.meaning l.tie.scale.now in
    Least m (depth (shape l.tie.layout.now) (equation l.tie.tie)) l.totals l.total-index l.settled
