-- What the checks ask of a single entry.
use Rattle.std.specs.Prelude.{◌≡◌, ℕ, ◌+◌, ◌≤◌, List, length}
use Rattle.tie_file.specs.Table.{TieLength, byte, extent_at, start_at}

-- the number of the kind that an entry's place asks for: the first is the layout, and all others are ties
abbrev pub InPlace : ℕ → ℕ → Type 0
InPlace i k = (i ≡ 0 → k ≡ 1) × (1 ≤ i → k ≡ 2)

-- a layout's body has five bytes, the last of them k, and k widths
abbrev pub LayoutLength : List ℕ → Type 0
LayoutLength b = (5 ≤ length b) × (length b ≡ 5 + byte b 4)

-- the body's length is one of its kind
abbrev pub BodyFits : List ℕ → ℕ → Type 0
BodyFits f i =
    (i ≡ 0 → (5 ≤ extent_at f i) × (extent_at f i ≡ 5 + byte f (start_at f i + 4))) × (1 ≤ i → TieLength (extent_at f i))
