-- That a term stands above another can be so in one way only, so a type can carry that a tie is sound.
use Rattle.std.specs.Prelude.{◌≡◌, ◌<◌}
use Rattle.std.proofs.Common.{inl, inr, ap, arith}
use Rattle.std.proofs.Math.Bridge.{le_prop}
use Rattle.std.proofs.Props.{props}
use Rattle.ties.specs.declared.tie.Term.{Term}
use Rattle.ties.specs.Faults.{Above}

pub Above_prop : (t u : Term) → IsProp (Above t u)
Above_prop t u (inl a) (inl b) = ap inl (le_prop a b)
Above_prop t u (inl a) (inr b) = absurd (omega (arith, b.0, a))
Above_prop t u (inr a) (inl b) = absurd (omega (arith, a.0, b))
Above_prop t u (inr a) (inr b) =
    let same : IsProp ((u.head ≡ t.head) × (u.counter < t.counter)) = Prim.hlevel props in ap inr (same a b)
