use Rattle.std.proofs.Common.{◌≡◌, ◌+◌, ◌*◌, map}
use Rattle.std.specs.List.{range_with_len}
use Rattle.ties.specs.Layouts.{counters_of, shape}
use Rattle.endomorphisms.specs.Equations.{group_equation, term_of}
use Rattle.endomorphisms.proofs.equation.HeadEquation.tie.Given as goal

abbrev pub invariant-loop-head : goal.invariant-loop-head
invariant-loop-head l =
    let s = shape l.layout in
    l.terms.items ≡ map (term_of s (group_equation l.self) l.counter) (range_with_len 0 (l.head * counters_of s))

abbrev pub invariant-loop-source : goal.invariant-loop-source
invariant-loop-source l =
    let s = shape l.layout in
    l.terms.items ≡ map (term_of s (group_equation l.self) l.counter) (range_with_len 0 (l.head * counters_of s + l.source))
