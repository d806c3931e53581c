-- Putting the parts of a file where they belong.
use Rattle.std.specs.Prelude.{◌≡◌, ℕ, suc, ◌+◌, ◌*◌, ◌<◌, ◌≤◌, ◌⊎◌, List, length}
use Rattle.scale.specs.declared.Mark.{Mark}
use Rattle.ties.specs.declared.tie.Term.{Term}
use Rattle.ties.specs.Layouts.{Shape, counters_of, width_of}
use Rattle.ties.specs.Equations.{Equation, nth_equation, term_at}
use Rattle.tie_file.specs.Table.{byte, entries, extent_at, kind_at, start_at}
use Rattle.tie_file.specs.Bodies.{long}
use Rattle.tie_file.specs.Writing.{tie_size, ties_end}

-- a list is kept but for some bytes from a place on
pub record KeptBut (at size : ℕ) (old new : List ℕ) : Type 0 where
  pub long : length new ≡ length old
  pub kept : (i : ℕ) → (i < at) ⊎ (at + size ≤ i) → byte new i ≡ byte old i

-- these bytes are put there
pub record Put (old new : List ℕ) (at : ℕ) (bs : List ℕ) : Type 0 where
  pub kept : KeptBut at (length bs) old new
  pub there : (i : ℕ) → i < length bs → byte new (at + i) ≡ byte bs i

-- line i of the table
pub record LineAt (f : List ℕ) (i k at size : ℕ) : Type 0 where
  pub kind : kind_at f i ≡ k
  pub start : start_at f i ≡ at
  pub extent : extent_at f i ≡ size

-- terms in their order, from a place on
abbrev pub TermAt : List ℕ → ℕ → Term → Type 0
TermAt f at t = (byte f at ≡ t.head) × (byte f (at + 1) ≡ t.counter) × (long f (at + 2) ≡ t.factor)

abbrev pub TermsAt : List ℕ → ℕ → List Term → ℕ → Type 0
TermsAt f at ts n = (i : ℕ) → i < n → TermAt f (at + 6 * i) (term_at ts i)

-- a tie as entry i, with its body at a place
pub record TieAt (f : List ℕ) (i at : ℕ) (e : Equation) : Type 0 where
  pub line : LineAt f i 2 at (tie_size e)
  pub target : byte f at ≡ e.target
  pub right : long f (at + 1) ≡ e.right
  pub terms : TermsAt f (at + 5) e.terms (length e.terms)

-- a tie is put there, and all else is kept
pub record TiePut (old new : List ℕ) (i at : ℕ) (e : Equation) : Type 0 where
  pub there : TieAt new i at e
  pub long : length new ≡ length old
  pub kept :
      (j : ℕ)
      → (j < 1 + 5 * i) ⊎ (6 + 5 * i ≤ j)
      → (j < at) ⊎ (at + tie_size e ≤ j)
      → byte new j ≡ byte old j

-- the layout as the first entry, with its body at a place
pub record LayoutAt (f : List ℕ) (at : ℕ) (k : Mark) (s : Shape) : Type 0 where
  pub line : LineAt f 0 1 at (5 + counters_of s)
  pub kind : byte f at ≡ k.kind
  pub base : byte f (at + 1) ≡ k.base
  pub length : byte f (at + 2) ≡ k.length
  pub heads : byte f (at + 3) ≡ s.heads
  pub counters : byte f (at + 4) ≡ counters_of s
  pub widths : (i : ℕ) → i < counters_of s → byte f (at + 5 + i) ≡ width_of s i

-- the first n ties have 32 terms at most
abbrev pub Small : List Equation → ℕ → Type 0
Small es n = (i : ℕ) → i < n → tie_size (nth_equation es i) ≤ 197

-- the number of entries, the layout and the first n ties are put, each where the one before ends, and the list is kept
-- behind them
pub record Begun (k : Mark) (s : Shape) (es : List Equation) (n : ℕ) (old new : List ℕ) : Type 0 where
  pub count : entries new ≡ suc (length es)
  pub layout : LayoutAt new (1 + 5 * suc (length es)) k s
  pub ties : (i : ℕ) → i < n → TieAt new (suc i) (ties_end s es i) (nth_equation es i)
  pub long : length new ≡ length old
  pub kept : (i : ℕ) → ties_end s es n ≤ i → byte new i ≡ byte old i
