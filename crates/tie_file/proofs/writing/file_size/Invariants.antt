use Rattle.std.proofs.Common.{◌≡◌, ◌≤◌, ◌+◌, ◌*◌, map}
use Rattle.tie_file.specs.Putting.{Small}
use Rattle.tie_file.specs.Writing.{ties_end}
use Rattle.ties.specs.Layouts.{shape}
use Rattle.tie_file.proofs.writing.file_size.Given as goal

abbrev pub invariant-loop-tie : goal.invariant-loop-tie
invariant-loop-tie g l =
    let es = map g.T.Tied.states l.ties in
    (l.size ≡ ties_end (shape l.layout) es l.tie-index)
    × (l.size ≤ 335 + 197 * l.tie-index)
    × Small es l.tie-index
