use Rattle.std.proofs.Common.{Option, Some, None, IsSome, MatchOption, refl}
use Rattle.tie_file.specs.declared.body.LayoutBody.{LayoutBody}
use Rattle.tie_file.proofs.WellFormed.{layout_there}
use Rattle.tie_file.proofs.file.TieFile.layout.Goals as goal

-- what is there is read
read : (r : Option LayoutBody) (P : Type 0) (Q : LayoutBody → Type 0) → MatchOption r (P → ⊥) Q → P → IsSome r
read None P Q none p = absurd (none p)
read (Some l) P Q some p = refl

pub unwrap-requires : goal.unwrap-requires
unwrap-requires c =
    read c.layout_in.result _ _ c.layout_in.ensures (layout_there c.self.inside.bytes.now c.self.invariant.0)
