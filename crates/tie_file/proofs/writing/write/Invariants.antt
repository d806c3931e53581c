use Rattle.std.proofs.Common.{◌≡◌, map}
use Rattle.tie_file.specs.Putting.{Begun}
use Rattle.tie_file.specs.Writing.{Bytes, ties_end}
use Rattle.ties.specs.Layouts.{shape}
use Rattle.tie_file.proofs.writing.write.Given as goal

abbrev pub invariant-loop-i : goal.invariant-loop-i
invariant-loop-i g l =
    let s = shape l.layout in
    let es = map g.T.Tied.states l.ties in
    Begun l.fn.mark s es l.i l.fn.list l.list × (l.end ≡ ties_end s es l.i) × Bytes l.list
