-- The report on a tie file.
use Rattle.std.specs.Prelude.{◌≡◌, ℕ, ◌<◌, ◌≤◌, List, [], ◌∷◌, length, take, replicate, Some, None, Ok, Err, Option, Result, slice_index}
use Rattle.scale.specs.Meaning.{Meaning}
use Rattle.scales.specs.Kinds.{Numbers, named}
use Rattle.scales.specs.Made.{any_scale}
use Rattle.scales.specs.declared.any.AnyScale.{AnyScale}
use Rattle.ties.specs.Layouts.{Assignment, Has, Shape, Sized, Within, counters_of, place, places, shape}
use Rattle.ties.specs.Equations.{Count, Equation, Solves, nth_equation}
use Rattle.ties.specs.Faults.{BadLayout}
use Rattle.tie_file.specs.Table.{WellFormed}
use Rattle.tie_file.specs.Bodies.{file_mark, file_shape}
use Rattle.tie_file.specs.Reading.{Bad}
use Rattle.book.specs.declared.fault.Stop.{Stop}
use Rattle.book.specs.Held.{Held}
use Rattle.book.specs.Posting.{Accepted, PostStopped}
use Rattle.book.specs.Querying.{SettledDigits}
use Rattle.book.specs.Standing.{ledger}
use Rattle.report.specs.declared.answer.Report.{Report}
use Rattle.report.specs.declared.fault.ReportFault.{ReportFault}
use Rattle.report.specs.declared.fault.ReportFault.TheVariants.{File, Scale, Layout, Memory}

-- a file whose ties can be posted: it is well formed, its mark makes a scale, and its layout is in bounds
pub record Openable (f : List ℕ) : Type 0 where
  pub formed : WellFormed f
  pub numbers : Numbers (file_mark f)
  pub sized : Sized (file_shape f)
  pub within : Within (named (file_mark f)) (file_shape f)

-- a scale that a file's mark names
abbrev pub NamedBy : List ℕ → Meaning → Type 0
NamedBy f m = Numbers (file_mark f) × (m ≡ named (file_mark f))

-- a book for the ties of a file: it is over the file's mark and layout, and no tie stands
pub record OpenedOver {S : Type 0} (means : S → Meaning) (f : List ℕ) (b : Held S) : Type 0 where
  pub openable : Openable f
  pub meaning : means b.scale ≡ named (file_mark f)
  pub shape : shape b.layout ≡ file_shape f
  pub nothing : ledger b.table ≡ []

abbrev pub OpenedFor : List ℕ → Held AnyScale → Type 0
OpenedFor = OpenedOver any_scale

-- where posting stopped: nowhere, and then all ties stand, or at the first tie that does not, which is refused by those
-- before it with its fault, the list of multipliers having 64 numbers
abbrev pub StoppedAt : Meaning → Shape → List Equation → ℕ → Option Stop → Type 0
StoppedAt m s es n None = n ≡ length es
StoppedAt m s es n (Some stop) =
    (stop.tie ≡ n)
    × (n < length es)
    × PostStopped m s (take n es) (nth_equation es n) (replicate 64 0) stop.fault

abbrev pub stop_of : Result ℕ Stop → Option Stop
stop_of (Ok n) = None
stop_of (Err stop) = Some stop

-- the equation that states that a counter's code is 0, up to its own digits
abbrev pub own : Meaning → ℕ → ℕ → Equation
own m h c = record { target = c; right = 0; terms = record { head = h; counter = c; factor = m.one } ∷ [] }

-- n digits of the code of counter c of head h are settled where the equations es stand
abbrev pub SettledAt : Meaning → Shape → List Equation → ℕ → ℕ → ℕ → Type 0
SettledAt m s es h c = SettledDigits m s es (own m h c)

-- what a report says of the digits: exactly q^F assignments meet the equations, where F is the number of free digits, and
-- each counter of the shape has its settled digits at its place; behind the last counter stands 0
pub record Digits (m : Meaning) (s : Shape) (es : List Equation) (r : Report) : Type 0 where
  pub count : Count m s es r.free
  pub heads : r.heads ≡ s.heads
  pub counters : r.counters ≡ counters_of s
  pub settled : (h c : ℕ) → Has s h c → SettledAt m s es h c (slice_index r.settled (place s h c))
  pub rest : (i : ℕ) → places s ≤ i → slice_index r.settled i ≡ 0

-- what a report says of ties: each of those that stand is accepted behind the ones before it, some assignment meets all
-- of them, and the digits are theirs
pub record Reported (m : Meaning) (s : Shape) (es : List Equation) (r : Report) : Type 0 where
  pub most : r.standing ≤ length es
  pub accepted :
      (i : ℕ) → i < r.standing → (fixed : ℕ) × Accepted m s (take i es) (nth_equation es i) fixed
  pub solvable : (x : Assignment) × Solves m s (take r.standing es) x
  pub digits : Digits m s (take r.standing es) r
  pub stop : StoppedAt m s es r.standing r.stopped

-- what stops a report: the file first, then the numbers of its scale, then its layout; or want of memory, where none does
abbrev pub ReportStopped : List ℕ → ReportFault → Type 0
ReportStopped f (File g) = Bad f g
ReportStopped f (Scale g) = WellFormed f × (Numbers (file_mark f) → ⊥)
ReportStopped f (Layout g) = WellFormed f × Numbers (file_mark f) × BadLayout (named (file_mark f)) (file_shape f) g
ReportStopped f Memory = Openable f
