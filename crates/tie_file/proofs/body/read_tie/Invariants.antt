use Rattle.std.proofs.Common.{◌≡◌, map, take}
use Rattle.std.specs.List.{range_with_len}
use Rattle.tie_file.specs.Bodies.{term_in}
use Rattle.tie_file.proofs.body.read_tie.Given as goal

abbrev pub invariant-loop-i : goal.invariant-loop-i
invariant-loop-i l = take l.i l.term-items ≡ map (term_in l.body) (range_with_len 0 l.i)
