use Rattle.std.proofs.Common.{ℕ, Option, Some, None, MatchOption, ◌≤◌, ◌<◌, ◌+◌, ◌≡◌, List, length, ◌∙◌, sym, arith}
use Rattle.ties.specs.declared.tie.Term.{Term}
use Rattle.ties.specs.Equations.{nth_equation}
use Rattle.tie_file.specs.declared.body.TieBody.{TieBody}
use Rattle.tie_file.specs.Bodies.{equations}
use Rattle.tie_file.specs.Reading.{HasReadableTie, ReadInto, equation_read}
use Rattle.tie_file.specs.Table.{WellFormed, body_at, entries}
use Rattle.tie_file.proofs.WellFormed.{tie_readable, equations_at}
use Rattle.tie_file.proofs.file.TieFile.read_tie.Goals as goal

-- a tie that stands in a well-formed file is read into a room of 32, and is the file's equation
read :
    (f : List ℕ) → WellFormed f → (i : ℕ) → i + 1 < entries f → (before after : List Term) → 32 ≤ length before
    → (r : Option TieBody)
    → MatchOption r ((HasReadableTie f i before → ⊥) × (after ≡ before)) (ReadInto (body_at f (i + 1)) before after)
    → MatchOption r ((entries f ≤ i + 1) × (after ≡ before)) (λ t. (i + 1 < entries f) × ReadInto (body_at f (i + 1)) before after t × (equation_read t after ≡ nth_equation (equations f) i))
read f w i h before after long None none = absurd (none.0 (tie_readable f w i h before long))
read f w i h before after long (Some t) some = (h, some, some.equation ∙ sym (equations_at f i _ h))

pub returns : goal.returns
returns c =
    rw (← c.self.view_is)
    (read c.self.inside.bytes.now c.self.invariant.0 c.args.i (omega (arith, c.self.invariant.1, c.if-self-i.false))
    c.args.room.now c.read_tie_in.new.room (omega (arith, c.told-room)) c.read_tie_in.result c.read_tie_in.ensures)
