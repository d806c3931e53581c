-- What is asked of a layout and of a tie, and which fault is given where it fails.
use Rattle.std.specs.Prelude.{◌≡◌, ℕ, suc, ◌+◌, ◌-◌, ◌<◌, ◌≤◌, ◌⊎◌, List, length, Some, None, Option}
use Rattle.refusals.specs.declared.Refusal.{Refusal}
use Rattle.refusals.specs.declared.Refusal.TheVariants as refusal
use Rattle.scale.specs.Meaning.{Meaning, Code}
use Rattle.ties.specs.declared.fault.LayoutFault.{LayoutFault}
use Rattle.ties.specs.declared.fault.LayoutFault.TheVariants.{Shape as BadShape, Width as BadWidth}
use Rattle.ties.specs.declared.fault.TermFault.{TermFault}
use Rattle.ties.specs.declared.fault.TermFault.TheVariants.{Absent, Order, NoCode, Coarse}
use Rattle.ties.specs.declared.fault.TieFault.{TieFault}
use Rattle.ties.specs.declared.fault.TieFault.TheVariants.{Target, Term as OfTerm}
use Rattle.ties.specs.declared.tie.Term.{Term}
use Rattle.ties.specs.Layouts.{Shape, Sized, Within, Has, counters_of, width_of}
use Rattle.ties.specs.Equations.{Equation, depth, term_at}

-- the refusal that each fault is, and the place that it names
abbrev pub layout_refusal : LayoutFault → Refusal
layout_refusal BadShape = refusal.Shape
layout_refusal BadWidth = refusal.Width

abbrev pub term_refusal : TermFault → Refusal
term_refusal (Absent i) = refusal.Absent
term_refusal (Order i) = refusal.Order
term_refusal (NoCode i) = refusal.NoCode
term_refusal (Coarse i) = refusal.Coarse

abbrev pub term_place : TermFault → ℕ
term_place (Absent i) = i
term_place (Order i) = i
term_place (NoCode i) = i
term_place (Coarse i) = i

abbrev pub tie_refusal : TieFault → Refusal
tie_refusal Target = refusal.Target
tie_refusal (OfTerm f) = term_refusal f

abbrev pub tie_place : TieFault → Option ℕ
tie_place Target = None
tie_place (OfTerm f) = Some (term_place f)

-- a layout is refused with the first of its two checks that fails
abbrev pub BadLayout : Meaning → Shape → LayoutFault → Type 0
BadLayout m s BadShape = Sized s → ⊥
BadLayout m s BadWidth = Sized s × (Within m s → ⊥)

-- a term stands above another: by head, then by counter
abbrev pub Above : Term → Term → Type 0
Above t u = (u.head < t.head) ⊎ ((u.head ≡ t.head) × (u.counter < t.counter))

-- the checks on terms, place by place
abbrev pub Exists : Shape → List Term → ℕ → Type 0
Exists s ts i = Has s (term_at ts i).head (term_at ts i).counter

abbrev pub Rises : List Term → ℕ → Type 0
Rises ts i = 0 < i → Above (term_at ts i) (term_at ts (i - 1))

-- the right side has the place behind the terms
abbrev pub Coded : Meaning → List Term → ℕ → ℕ → Type 0
Coded m ts right i =
    (i < length ts → Code m (term_at ts i).factor) × (i ≡ length ts → Code m right)

abbrev pub Fine : Meaning → Shape → ℕ → List Term → ℕ → Type 0
Fine m s d ts i = d ≤ m.level (term_at ts i).factor + width_of s (term_at ts i).counter

-- a check passes at the places below n, or fails first at place i
abbrev pub Passes : (ℕ → Type 0) → ℕ → Type 0
Passes P n = (i : ℕ) → i < n → P i

abbrev pub FailsFirst : (ℕ → Type 0) → ℕ → ℕ → Type 0
FailsFirst P n i = (i < n) × (P i → ⊥) × Passes P i

-- a tie passes all its checks
pub record Sound (m : Meaning) (s : Shape) (e : Equation) : Type 0 where
  pub target : e.target < counters_of s
  pub exist : Passes (Exists s e.terms) (length e.terms)
  pub rise : Passes (Rises e.terms) (length e.terms)
  pub codes : Passes (Coded m e.terms e.right) (suc (length e.terms))
  pub fine : Passes (Fine m s (depth s e) e.terms) (length e.terms)

-- a tie is refused with the first check that fails, at the first place where it fails
abbrev pub Faulty : Meaning → Shape → Equation → TieFault → Type 0
Faulty m s e Target = e.target < counters_of s → ⊥
Faulty m s e (OfTerm (Absent i)) =
    (e.target < counters_of s) × FailsFirst (Exists s e.terms) (length e.terms) i
Faulty m s e (OfTerm (Order i)) =
    (e.target < counters_of s)
    × Passes (Exists s e.terms) (length e.terms)
    × FailsFirst (Rises e.terms) (length e.terms) i
Faulty m s e (OfTerm (NoCode i)) =
    (e.target < counters_of s)
    × Passes (Exists s e.terms) (length e.terms)
    × Passes (Rises e.terms) (length e.terms)
    × FailsFirst (Coded m e.terms e.right) (suc (length e.terms)) i
Faulty m s e (OfTerm (Coarse i)) =
    (e.target < counters_of s)
    × Passes (Exists s e.terms) (length e.terms)
    × Passes (Rises e.terms) (length e.terms)
    × Passes (Coded m e.terms e.right) (suc (length e.terms))
    × FailsFirst (Fine m s (depth s e) e.terms) (length e.terms) i
