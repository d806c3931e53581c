use Rattle.std.proofs.Common.{ℕ, Option, Some, None, MatchOption, ◌≤◌, ◌<◌, ◌+◌, ◌≡◌, List, ◌∙◌, sym, arith}
use Rattle.ties.specs.declared.owned.OwnedTie.{OwnedTie}
use Rattle.tie_file.specs.Bodies.{equation_of, equations}
use Rattle.tie_file.specs.Reading.{HasTie}
use Rattle.tie_file.specs.Table.{WellFormed, body_at, entries}
use Rattle.ties.specs.Equations.{equation_in, nth_equation}
use Rattle.tie_file.proofs.WellFormed.{tie_there, equations_at}
use Rattle.tie_file.proofs.file.TieFile.tie.Goals as goal

-- a tie that stands in a well-formed file is read, and is the file's equation
read :
    (f : List ℕ) → WellFormed f → (i : ℕ) → i + 1 < entries f → (r : Option OwnedTie)
    → MatchOption r (HasTie f i → ⊥) (λ t. HasTie f i × (equation_in t ≡ equation_of (body_at f (i + 1))))
    → MatchOption r (entries f ≤ i + 1) (λ t. (i + 1 < entries f) × (equation_in t ≡ nth_equation (equations f) i))
read f w i h None none = absurd (none (tie_there f w i h))
read f w i h (Some t) some = (h, some.1 ∙ sym (equations_at f i _ h))

pub returns-then-i-self : goal.returns-then-i-self
returns-then-i-self c =
    rw (← c.self.view_is)
    (read c.self.inside.bytes.now c.self.invariant.0 c.args.i (omega (arith, c.self.invariant.1)) c.tie_in.result c.tie_in.ensures)
