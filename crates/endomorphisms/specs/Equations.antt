-- Equations between elements of the group, the ties that they are, and what it means to solve a table of them.
use Rattle.std.specs.Prelude.{ℕ, ◌*◌, ◌/◌, ◌%◌, ◌<◌, ◌≤◌, List, [], map, length, slice_index, slice_index_or}
use Rattle.std.specs.List.{All, range_with_len}
use Rattle.scale.specs.Meaning.{Meaning, Code, summed}
use Rattle.ties.specs.declared.tie.Term.{Term}
use Rattle.ties.specs.Layouts.{Assigns, Assignment, Shape, counters_of, less, places, width_of}
use Rattle.ties.specs.Equations.{Equation}
use Rattle.endomorphisms.specs.declared.equation.HeadEquation.{HeadEquation}
use Rattle.endomorphisms.specs.declared.matrix.Matrix.{Matrix}
use Rattle.endomorphisms.specs.Groups.{Element, Endomorphism, IsElement, Numbers, SameElement, act, numbers}

-- a matrix for each head, and an element on the right
pub record GroupEquation : Type 0 where
  pub matrices : List Matrix
  pub codes : List ℕ

abbrev pub group_equation : HeadEquation → GroupEquation
group_equation e = record { matrices = e.factors.now; codes = e.right }

-- the numbers at a head: 0 for a head without a matrix
abbrev pub factors : GroupEquation → ℕ → Numbers
factors e h = numbers (slice_index_or e.matrices h (record { columns = [] }))

abbrev pub right : GroupEquation → Element
right e c = slice_index e.codes c

-- an assignment gives each head an element, and the left side is the sum of what the matrices make of these
abbrev pub left : Meaning → Shape → GroupEquation → Assignment → Element
left m s e x c = summed m s.heads (λ h. act m s (factors e h) (x h) c)

-- the equation holds at one counter, or altogether: both sides are the same element
abbrev pub HoldsAt : Meaning → Shape → GroupEquation → Assignment → ℕ → Type 0
HoldsAt m s e x c = width_of s c ≤ m.level (less m (left m s e x c) (right e c))

abbrev pub Holds : Meaning → Shape → GroupEquation → Assignment → Type 0
Holds m s e x = SameElement m s (left m s e x) (right e)

-- an assignment solves a table if each of its equations holds
abbrev pub SolvesTable : Meaning → Shape → List GroupEquation → Assignment → Type 0
SolvesTable m s es x = Assigns m s x × All (λ e. Holds m s e x) es

-- no assignment does
abbrev pub Insoluble : Meaning → Shape → List GroupEquation → Type 0
Insoluble m s es = (x : Assignment) → SolvesTable m s es x → ⊥

-- the numbers that go into a counter are codes
abbrev pub CodedAt : Meaning → Shape → GroupEquation → ℕ → Type 0
CodedAt m s e c = (h r : ℕ) → h < s.heads → r < counters_of s → Code m (factors e h c r)

-- an equation between elements of the group whose factors are endomorphisms of it
pub record OverGroup (m : Meaning) (s : Shape) (e : GroupEquation) : Type 0 where
  pub factor : (h : ℕ) → h < s.heads → Endomorphism m s (factors e h)
  pub element : IsElement m s (right e)

-- the tie that an equation is at counter c: it has a term for each counter of each head, in order
abbrev pub term_of : Shape → GroupEquation → ℕ → ℕ → Term
term_of s e c p =
    let h = p / counters_of s in
    let r = p % counters_of s in
    record { head = h; counter = r; factor = factors e h c r }

abbrev pub tie_of : Shape → GroupEquation → ℕ → Equation
tie_of s e c = record { target = c; right = right e c; terms = map (term_of s e c) (range_with_len 0 (places s)) }

-- the equations of a table
abbrev pub table_of : List HeadEquation → List GroupEquation
table_of = map group_equation

-- the i-th of them
abbrev pub nth_row : List GroupEquation → ℕ → GroupEquation
nth_row es i = slice_index_or es i (record { matrices = []; codes = [] })

-- the ties of a table: one for each counter of each equation, in order
abbrev pub ties_of : Shape → List GroupEquation → List Equation
ties_of s es =
    let k = counters_of s in
    map (λ i. tie_of s (nth_row es (i / k)) (i % k)) (range_with_len 0 (length es * k))
