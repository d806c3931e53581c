use Rattle.std.proofs.Common.{ℕ, ◌<◌}
use Rattle.ties.specs.Layouts.{Within, counters_of, shape}
use Rattle.endomorphisms.specs.Groups.{Fits, numbers}
use Rattle.endomorphisms.proofs.matrix.Matrix.is_endomorphism.Given as goal

abbrev pub invariant-loop-target : goal.invariant-loop-target
invariant-loop-target g l =
    let m = g.S.Scale.meaning l.scale in
    let s = shape l.layout in
    Within m s × ((c r : ℕ) → c < l.target → r < counters_of s → Fits m s (numbers l.self) c r)

abbrev pub invariant-loop-source : goal.invariant-loop-source
invariant-loop-source g l =
    let m = g.S.Scale.meaning l.scale in
    let s = shape l.layout in
    Within m s
    × ((c r : ℕ) → c < l.target → r < counters_of s → Fits m s (numbers l.self) c r)
    × ((r : ℕ) → r < l.source → Fits m s (numbers l.self) l.target r)
