-- Layouts, assignments, and when two assignments are the same.
use Rattle.std.specs.Prelude.{ℕ, ◌+◌, ◌*◌, ◌<◌, ◌≤◌, List, length, take, slice_index}
use Rattle.scale.specs.Meaning.{Meaning, Code, digits}
use Rattle.ties.specs.declared.layout.Layout.{Layout}

-- some heads, each with the same counters: counter r has the r-th width
pub record Shape : Type 0 where
  pub heads : ℕ
  pub widths : List ℕ

abbrev pub counters_of : Shape → ℕ
counters_of s = length s.widths

abbrev pub width_of : Shape → ℕ → ℕ
width_of s r = slice_index s.widths r

-- the shape that a layout holds
abbrev pub shape : Layout → Shape
shape l = record { heads = l.heads; widths = take l.counters l.widths }

-- 1 to 8 heads, 1 to 4 counters on each
abbrev pub Sized : Shape → Type 0
Sized s = (1 ≤ s.heads) × (s.heads ≤ 8) × (1 ≤ counters_of s) × (counters_of s ≤ 4)

-- each width is from 1 to a length
abbrev pub InWidths : ℕ → List ℕ → Type 0
InWidths most ws = (r : ℕ) → r < length ws → (1 ≤ slice_index ws r) × (slice_index ws r ≤ most)

-- each width is from 1 to the scale's length
abbrev pub Within : Meaning → Shape → Type 0
Within m s = InWidths (digits m) s.widths

-- the number of counters on all heads
abbrev pub places : Shape → ℕ
places s = s.heads * counters_of s

-- head h has a counter c
abbrev pub Has : Shape → ℕ → ℕ → Type 0
Has s h c = (h < s.heads) × (c < counters_of s)

-- the place of a counter in the order head, then counter
abbrev pub place : Shape → ℕ → ℕ → ℕ
place s h c = h * counters_of s + c

-- an assignment gives a code to each counter of each head
abbrev pub Assignment : Type 0
Assignment = ℕ → ℕ → ℕ

abbrev pub Assigns : Meaning → Shape → Assignment → Type 0
Assigns m s x = (h c : ℕ) → Has s h c → Code m (x h c)

-- the difference of two codes
abbrev pub less : Meaning → ℕ → ℕ → ℕ
less m a b = m.sum a (m.negative b)

-- two assignments are the same: at every counter the codes differ by its width's level or more
abbrev pub Same : Meaning → Shape → Assignment → Assignment → Type 0
Same m s x y = (h c : ℕ) → Has s h c → width_of s c ≤ m.level (less m (x h c) (y h c))
