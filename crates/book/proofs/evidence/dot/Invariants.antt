use Rattle.std.proofs.Common.{◌≡◌, length, get_or}
use Rattle.scale.specs.Meaning.{reading, summed}
use Rattle.book.proofs.evidence.dot.Given as goal

abbrev pub invariant-loop-x : goal.invariant-loop-x
invariant-loop-x g l =
    let m = g.S.Scale.meaning l.scale in
    reading m l.total ≡ summed m (length l.yielded) (λ j. m.product (get_or l.a j 0) (get_or l.b j 0))
