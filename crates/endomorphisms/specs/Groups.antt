-- The finite abelian group that the counters of one head make, and its endomorphisms.
use Rattle.std.specs.Prelude.{ℕ, ◌+◌, ◌<◌, ◌≤◌, cond, [], ◌==◌, slice_index, slice_index_or}
use Rattle.scale.specs.Meaning.{Meaning, Code, summed}
use Rattle.ties.specs.Layouts.{Shape, Within, counters_of, width_of, less}
use Rattle.endomorphisms.specs.declared.matrix.Matrix.{Matrix}

-- an element of the group is a code for each counter of one head
abbrev pub Element : Type 0
Element = ℕ → ℕ

abbrev pub IsElement : Meaning → Shape → Element → Type 0
IsElement m s g = (c : ℕ) → c < counters_of s → Code m (g c)

-- two are the same if at each counter they differ by its width's level or more
abbrev pub SameElement : Meaning → Shape → Element → Element → Type 0
SameElement m s g h = (c : ℕ) → c < counters_of s → width_of s c ≤ m.level (less m (g c) (h c))

-- they are added counter by counter
abbrev pub plus : Meaning → Element → Element → Element
plus m g h c = m.sum (g c) (h c)

-- an additive map of the group into itself: the layout is the scale's, and it takes elements to elements, the same to the
-- same, and sums to sums
abbrev pub Map : Type 0
Map = Element → Element

pub record Additive (m : Meaning) (s : Shape) (f : Map) : Type 0 where
  pub within : Within m s
  pub elements : (g : Element) → IsElement m s g → IsElement m s (f g)
  pub respects :
      (g h : Element) → IsElement m s g → IsElement m s h → SameElement m s g h → SameElement m s (f g) (f h)
  pub adds :
      (g h : Element) → IsElement m s g → IsElement m s h → SameElement m s (f (plus m g h)) (plus m (f g) (f h))

-- the element that has a code at counter r, and 0 elsewhere
abbrev pub part : ℕ → ℕ → Element
part r v c = cond (c == r) v 0

-- numbers for pairs of counters: first the target, then the source
abbrev pub Numbers : Type 0
Numbers = ℕ → ℕ → ℕ

abbrev pub numbers : Matrix → Numbers
numbers a c r = slice_index (slice_index_or a.columns r []) c

abbrev pub Coded : Meaning → Shape → Numbers → Type 0
Coded m s a = (c r : ℕ) → c < counters_of s → r < counters_of s → Code m (a c r)

-- they act on an element: each counter of the result is a sum over the counters of the element
abbrev pub act : Meaning → Shape → Numbers → Element → Element
act m s a g c = summed m (counters_of s) (λ r. m.product (a c r) (g r))

-- where elements are the same, so are the results
abbrev pub Acts : Meaning → Shape → Numbers → Type 0
Acts m s a =
    (g h : Element)
    → IsElement m s g
    → IsElement m s h
    → SameElement m s g h
    → SameElement m s (act m s a g) (act m s a h)

-- an endomorphism of the group: the numbers are codes, and act as an additive map of the group into itself
pub record Endomorphism (m : Meaning) (s : Shape) (a : Numbers) : Type 0 where
  pub codes : Coded m s a
  pub additive : Additive m s (act m s a)

-- the rule on factors: the level of a number and the width of its source make up the width of its target
abbrev pub Fine : Meaning → Shape → Numbers → Type 0
Fine m s a = (c r : ℕ) → c < counters_of s → r < counters_of s → width_of s c ≤ m.level (a c r) + width_of s r

-- one number is a code, and keeps the rule
abbrev pub Fits : Meaning → Shape → Numbers → ℕ → ℕ → Type 0
Fits m s a c r = Code m (a c r) × (width_of s c ≤ m.level (a c r) + width_of s r)
