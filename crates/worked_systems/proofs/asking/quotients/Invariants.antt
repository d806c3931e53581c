use Rattle.std.proofs.Common.{◌≡◌, ℕ, ◌<◌, ◌==◌, false, slice_index_or}
use Rattle.scale.specs.Meaning.{reading}
use Rattle.worked_systems.proofs.asking.quotients.Given as goal

abbrev pub invariant-loop-c : goal.invariant-loop-c
invariant-loop-c g l =
    let m = g.S.Scale.meaning l.scale in
    (k : ℕ) → k < l.c → slice_index_or l.is_quotient-items k false ≡ (m.product (reading m l.b) (reading m k) == l.a)
