use Rattle.std.proofs.Common.{◌≡◌, suc, length, get_or, take, vec_items}
use Rattle.std.specs.Iterator.Adapters.{enumerate_count, enumerate_source, rev_source}
use Rattle.std.specs.Slice.Iter.{iter_rest}
use Rattle.ties.specs.Equations.{equation}
use Rattle.ties.specs.Layouts.{shape}
use Rattle.book.specs.Rows.{Keeps}
use Rattle.book.proofs.Refuting.{Refuting}
use Rattle.book.proofs.evidence.refute.Given as goal

abbrev pub invariant-loop-k : goal.invariant-loop-k
invariant-loop-k g l =
    let ks = vec_items l.table.standing in
    let left = iter_rest (enumerate_source (rev_source l.k-iterator)) in
    (enumerate_count (rev_source l.k-iterator) ≡ 0)
    × (left ≡ take (length left) ks)
    × Refuting (g.S.Scale.meaning l.fn.tie.scale.now) (g.met.S.Scale.lawful l.fn.tie.scale.now) (shape l.fn.tie.layout.now)
    ks (equation l.fn.tie.tie) (length left) l.multipliers l.row
    × (get_or l.multipliers l.count 0 ≡ l.lead)
    × Keeps (suc l.count) l.initial.multipliers l.multipliers
