-- The equations that ties state, and which assignments meet them.
use Rattle.std.specs.Prelude.{◌≡◌, ℕ, ◌^◌, ◌<◌, ◌≤◌, List, [], length, slice_index_or}
use Rattle.std.specs.List.{All}
use Rattle.scale.specs.Meaning.{Meaning, base, summed}
use Rattle.ties.specs.declared.tie.Term.{Term}
use Rattle.ties.specs.declared.tie.Tie.{Tie}
use Rattle.ties.specs.declared.owned.OwnedTie.{OwnedTie}
use Rattle.ties.specs.Layouts.{Shape, width_of, Assignment, Assigns, Same, less}

-- the equation that a tie states: a target counter, a right side, and terms
pub record Equation : Type 0 where
  pub target : ℕ
  pub right : ℕ
  pub terms : List Term

abbrev pub equation : Tie → Equation
equation t = record { target = t.target; right = t.right; terms = t.terms.now }

-- the same of a tie that owns its terms
abbrev pub equation_in : OwnedTie → Equation
equation_in t = record { target = t.target; right = t.right; terms = t.terms.items }

-- the digits that an equation speaks of: those of its target
abbrev pub depth : Shape → Equation → ℕ
depth s e = width_of s e.target

-- the term at a place
abbrev pub term_at : List Term → ℕ → Term
term_at ts i = slice_index_or ts i (record { head = 0; counter = 0; factor = 0 })

-- the code that an assignment gives to the counter of a term
abbrev pub code_at : Assignment → Term → ℕ
code_at x t = x t.head t.counter

-- the sum of factor times code
abbrev pub total : Meaning → List Term → Assignment → ℕ
total m ts x = summed m (length ts) (λ i. m.product (term_at ts i).factor (code_at x (term_at ts i)))

-- terms less right side
abbrev pub value : Meaning → Equation → Assignment → ℕ
value m e x = less m (total m e.terms x) e.right

-- an assignment meets an equation up to the digits that it speaks of
abbrev pub Meets : Meaning → Shape → Equation → Assignment → Type 0
Meets m s e x = depth s e ≤ m.level (value m e x)

abbrev pub MeetsAll : Meaning → Shape → List Equation → Assignment → Type 0
MeetsAll m s es x = All (λ e. Meets m s e x) es

-- an assignment that meets them all
abbrev pub Solves : Meaning → Shape → List Equation → Assignment → Type 0
Solves m s es x = Assigns m s x × MeetsAll m s es x

-- no assignment does
abbrev pub Contradictory : Meaning → Shape → List Equation → Type 0
Contradictory m s es = (x : Assignment) → Solves m s es x → ⊥

-- the i-th of a list of equations
abbrev pub nth_equation : List Equation → ℕ → Equation
nth_equation es i = slice_index_or es i (record { target = 0; right = 0; terms = [] })

-- the i-th of a list of assignments
abbrev pub nth : List Assignment → ℕ → Assignment
nth xs i = slice_index_or xs i (λ h c. 0)

-- exactly q^f different assignments meet the equations: each of the list does, no two of the list are the same, and each
-- that meets them is the same as one of the list
pub record Count (m : Meaning) (s : Shape) (es : List Equation) (f : ℕ) : Type 0 where
  pub list : List Assignment
  pub number : length list ≡ base m ^ f
  pub solve : (i : ℕ) → i < length list → Solves m s es (nth list i)
  pub different : (i j : ℕ) → i < length list → j < length list → Same m s (nth list i) (nth list j) → i ≡ j
  pub complete : (x : Assignment) → Solves m s es x → (i : ℕ) × (i < length list) × Same m s x (nth list i)
