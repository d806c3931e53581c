use Rattle.ties.specs.Layouts.{shape}
use Rattle.tie_file.specs.Bodies.{equations}
use Rattle.multipliers.proofs.Concluding.{Sofar}
use Rattle.multipliers.proofs.check.Given as goal

abbrev pub invariant-loop-i : goal.invariant-loop-i
invariant-loop-i g l =
    Sofar (g.S.Scale.meaning l.scale) (shape l.layout) (equations l.file) l.multipliers l.i l.totals
