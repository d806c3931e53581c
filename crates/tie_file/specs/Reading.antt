-- What the calls that read a file promise.
use Rattle.std.specs.Prelude.{◌≡◌, ℕ, ◌+◌, ◌*◌, ◌≤◌, ◌⊎◌, List, length, take, drop, ◌≢◌}
use Rattle.refusals.specs.declared.Refusal.{Refusal}
use Rattle.refusals.specs.declared.Refusal.TheVariants as refusal
use Rattle.ties.specs.declared.tie.Term.{Term}
use Rattle.ties.specs.Equations.{Equation}
use Rattle.ties.specs.Layouts.{Shape}
use Rattle.tie_file.specs.declared.fault.FileFault.{FileFault}
use Rattle.tie_file.specs.declared.fault.FileFault.TheVariants.{Contents, Entry as BadEntry, Body}
use Rattle.tie_file.specs.declared.entry.Kind.{Kind}
use Rattle.tie_file.specs.declared.entry.Kind.TheVariants as kind
use Rattle.tie_file.specs.declared.entry.Entry.{Entry}
use Rattle.tie_file.specs.declared.entry.Entry.TheVariants.{Layout, Tie}
use Rattle.tie_file.specs.declared.body.LayoutBody.{LayoutBody}
use Rattle.tie_file.specs.declared.body.TieBody.{TieBody}
use Rattle.tie_file.specs.Table.{HasTable, HasEntries, HasBodies, TieLength, kind_at, start_at, extent_at, body_at}
use Rattle.tie_file.specs.Bodies.{equation_of, mark_of, shape_of}

-- the refusal that each fault is
abbrev pub file_refusal : FileFault → Refusal
file_refusal Contents = refusal.Contents
file_refusal BadEntry = refusal.Entry
file_refusal Body = refusal.Body

-- a file is refused with the first of the three checks that fails
abbrev pub Bad : List ℕ → FileFault → Type 0
Bad f Contents = HasTable f → ⊥
Bad f BadEntry = HasTable f × (HasEntries f → ⊥)
Bad f Body = HasTable f × HasEntries f × (HasBodies f → ⊥)

-- the number of a kind of entries; any other number is no kind's
abbrev pub kind_number : Kind → ℕ
kind_number kind.Layout = 1
kind_number kind.Tie = 2

abbrev pub Unknown : ℕ → Type 0
Unknown n = (n ≢ 1) × (n ≢ 2)

-- the file has the five bytes of entry i, of a known kind, and all of its body
pub record HasEntry (f : List ℕ) (i : ℕ) : Type 0 where
  pub listed : 6 + 5 * i ≤ length f
  pub known : (kind_at f i ≡ 1) ⊎ (kind_at f i ≡ 2)
  pub within : start_at f i + extent_at f i ≤ length f

-- what entry i is: its kind's case, with its body
abbrev pub IsEntry : List ℕ → ℕ → Entry → Type 0
IsEntry f i (Layout b) = (kind_at f i ≡ 1) × (b.now ≡ body_at f i)
IsEntry f i (Tie b) = (kind_at f i ≡ 2) × (b.now ≡ body_at f i)

-- a layout's body is taken apart
pub record IsLayout (b : List ℕ) (l : LayoutBody) : Type 0 where
  pub whole : 5 ≤ length b
  pub mark : l.mark ≡ mark_of b
  pub heads : l.heads ≡ (shape_of b).heads
  pub widths : l.widths.now ≡ (shape_of b).widths

-- the shape that a layout's body states
abbrev pub shape_in : LayoutBody → Shape
shape_in l = record { heads = l.heads; widths = l.widths.now }

-- the equation that a tie's body states, with its terms at the front of a room
abbrev pub equation_read : TieBody → List Term → Equation
equation_read t room = record { target = t.target; right = t.right; terms = take t.terms room }

-- a tie's body can be read into a room: it is as long as t terms make it, 32 at most, and the room has a place for each
abbrev pub Readable : List ℕ → List Term → Type 0
Readable b room = (t : ℕ) × (t ≤ 32) × (length b ≡ 5 + 6 * t) × (t ≤ length room)

-- the body is read: its terms are the first of the room, and the places behind them are as they were
pub record ReadInto (b : List ℕ) (before after : List Term) (t : TieBody) : Type 0 where
  pub most : t.terms ≤ 32
  pub all : length b ≡ 5 + 6 * t.terms
  pub fits : t.terms ≤ length before
  pub equation : equation_read t after ≡ equation_of b
  pub rest : drop t.terms after ≡ drop t.terms before

-- the first entry is a layout's, and has its five bytes
abbrev pub HasLayout : List ℕ → Type 0
HasLayout f = HasEntry f 0 × (kind_at f 0 ≡ 1) × (5 ≤ length (body_at f 0))

-- the entry behind the layout and i ties is a tie's, and as long as its terms make it
abbrev pub HasTie : List ℕ → ℕ → Type 0
HasTie f i = HasEntry f (i + 1) × (kind_at f (i + 1) ≡ 2) × TieLength (length (body_at f (i + 1)))

-- the same, where a room takes its terms
abbrev pub HasReadableTie : List ℕ → ℕ → List Term → Type 0
HasReadableTie f i room = HasEntry f (i + 1) × (kind_at f (i + 1) ≡ 2) × Readable (body_at f (i + 1)) room
