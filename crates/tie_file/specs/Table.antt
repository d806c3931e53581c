-- The table of contents of a tie file, and what a well-formed file is.
-- Byte 0 is the number of entries. Each entry has five bytes: kind, start, length, the last two of 16 bits, low byte first.
use Rattle.std.specs.Prelude.{◌≡◌, ℕ, zero, suc, ◌+◌, ◌*◌, ◌<◌, ◌≤◌, List, length, take, drop, slice_index}

abbrev pub byte : List ℕ → ℕ → ℕ
byte f i = slice_index f i

-- 16 bits at a place, low byte first
abbrev pub word : List ℕ → ℕ → ℕ
word f i = byte f i + 256 * byte f (i + 1)

abbrev pub entries : List ℕ → ℕ
entries f = byte f 0

-- the three parts of entry i
abbrev pub kind_at : List ℕ → ℕ → ℕ
kind_at f i = byte f (1 + 5 * i)

abbrev pub start_at : List ℕ → ℕ → ℕ
start_at f i = word f (2 + 5 * i)

abbrev pub extent_at : List ℕ → ℕ → ℕ
extent_at f i = word f (4 + 5 * i)

-- the body of entry i
abbrev pub body_at : List ℕ → ℕ → List ℕ
body_at f i = take (extent_at f i) (drop (start_at f i) f)

-- where the part before entry i ends: the table, or the body of the entry before
abbrev pub end_before : List ℕ → ℕ → ℕ
end_before f zero = 1 + 5 * entries f
end_before f (suc i) = start_at f i + extent_at f i

-- the file is neither empty nor over 16,384 bytes, has 1 to 65 entries, and does not end within its table
pub record HasTable (f : List ℕ) : Type 0 where
  pub some : 1 ≤ length f
  pub most : length f ≤ 16384
  pub first : 1 ≤ entries f
  pub last : entries f ≤ 65
  pub whole : 1 + 5 * entries f ≤ length f

-- the first entry is the layout and all others are ties; the bodies follow the table without gaps, in its order, up to
-- the end of the file
pub record HasEntries (f : List ℕ) : Type 0 where
  pub layout : kind_at f 0 ≡ 1
  pub ties : (i : ℕ) → 1 ≤ i → i < entries f → kind_at f i ≡ 2
  pub gapless : (i : ℕ) → i < entries f → start_at f i ≡ end_before f i
  pub ends : end_before f (entries f) ≡ length f

-- the length of a tie's body that has t terms, of which there are 32 at most
abbrev pub TieLength : ℕ → Type 0
TieLength n = (t : ℕ) × (t ≤ 32) × (n ≡ 5 + 6 * t)

-- the layout's body has 5 bytes, the last of them k, and k widths; a tie's body has 5 bytes and 6 for each of at most 32 terms
pub record HasBodies (f : List ℕ) : Type 0 where
  pub layout_least : 5 ≤ extent_at f 0
  pub layout : extent_at f 0 ≡ 5 + byte f (start_at f 0 + 4)
  pub ties : (i : ℕ) → 1 ≤ i → i < entries f → TieLength (extent_at f i)

-- a file whose table, entries and bodies are in order
pub record WellFormed (f : List ℕ) : Type 0 where
  pub table : HasTable f
  pub entries : HasEntries f
  pub bodies : HasBodies f
