-- Additive maps of the group into itself, by what they do to the units.
use Rattle.std.specs.Prelude.{ℕ, ◌<◌, [], List, slice_index, slice_index_or}
use Rattle.scale.specs.Meaning.{Meaning}
use Rattle.ties.specs.Layouts.{Shape, counters_of}
use Rattle.endomorphisms.specs.Groups.{Additive, Element, Endomorphism, IsElement, Map, Numbers, SameElement, act, part}

-- the unit of counter r has one there, and 0 elsewhere
abbrev pub unit : Meaning → ℕ → Element
unit m r = part r m.one

-- the r-th of a list of elements
abbrev pub image : List (List ℕ) → ℕ → Element
image images r c = slice_index (slice_index_or images r []) c

-- a map takes the unit of each counter to an element that is the same as the one of the list
pub record TakesUnits (m : Meaning) (s : Shape) (images : List (List ℕ)) (f : Map) : Type 0 where
  pub elements : (r : ℕ) → r < counters_of s → IsElement m s (image images r)
  pub units : (r : ℕ) → r < counters_of s → SameElement m s (f (unit m r)) (image images r)

-- a map is what the numbers do
abbrev pub IsAct : Meaning → Shape → Map → Numbers → Type 0
IsAct m s f a = (g : Element) → IsElement m s g → SameElement m s (f g) (act m s a g)

-- numbers are those of the additive map that takes the units to these images
pub record Told (m : Meaning) (s : Shape) (images : List (List ℕ)) (a : Numbers) : Type 0 where
  pub endomorphism : Endomorphism m s a
  pub takes : TakesUnits m s images (act m s a)
  pub only : (f : Map) → Additive m s f → TakesUnits m s images f → IsAct m s f a

-- no additive map takes the units to these images
abbrev pub NoMap : Meaning → Shape → List (List ℕ) → Type 0
NoMap m s images = (f : Map) → Additive m s f → TakesUnits m s images f → ⊥

-- every additive map of the group into itself is what some endomorphism does
abbrev pub AllAreMatrices : Meaning → Shape → Type 0
AllAreMatrices m s = (f : Map) → Additive m s f → (a : Numbers) × Endomorphism m s a × IsAct m s f a
