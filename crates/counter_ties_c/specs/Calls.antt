-- What each call for other languages promises: the number that it returns, and what its lists, numbers and structs then
-- hold.
use Rattle.std.specs.Prelude.{◌≡◌, ℕ, ◌⊎◌, List, take, replicate, Some, Ok, Err, Bool, Result, Decides}
use Rattle.std.specs.Int.{from_bool}
use Rattle.refusals.specs.declared.Refusal.TheVariants as refusal
use Rattle.refusals.specs.Numbers.{number}
use Rattle.scales.specs.Kinds.{Numbers}
use Rattle.tie_file.specs.Bodies.{equations, file_mark, file_shape}
use Rattle.multipliers.specs.Checked.{Checkable}
use Rattle.multipliers.specs.Refuting.{Refutes}
use Rattle.marked_check.specs.declared.fault.MarkedFault.{MarkedFault}
use Rattle.marked_check.specs.Marked.{MarkedStopped, marked_number, marked_place, marked_tie, scale_of}
use Rattle.book.specs.declared.fault.Stop.{Stop}
use Rattle.book.specs.Drawing.{Drawn, TooShort, sheet_size}
use Rattle.book.specs.Faults.{post_place, post_refusal}
use Rattle.book.specs.Loading.{accepted_of}
use Rattle.report.specs.declared.answer.Report.{Report}
use Rattle.report.specs.declared.fault.ReportFault.{ReportFault}
use Rattle.report.specs.Faults.{report_refusal}
use Rattle.report.specs.Reported.{Openable, ReportStopped, Reported}
use Rattle.counter_ties_c.specs.declared.answers.Spot.{Spot}
use Rattle.counter_ties_c.specs.declared.answers.Summary.{Summary}
use Rattle.counter_ties_c.specs.Crossing.{spot_after, status_of, summary_of}
use Rattle.counter_ties_c.specs.Filling.{FileAnswered, FileListing}

-- no book can be opened for a file, and the number returned says why
abbrev pub Unopened : List ℕ → ℕ → Type 0
Unopened f n = (g : ReportFault) × ReportStopped f g × (n ≡ status_of (report_refusal g))

-- the report on a file goes out; or nothing does, and the number says why
abbrev pub ReportOut : List ℕ → Summary → Summary → ℕ → Type 0
ReportOut f old new n =
    ((n ≡ 0)
    × Openable f
    × ((r : Report) × Reported (scale_of f) (file_shape f) (equations f) r × (new ≡ summary_of r)))
    ⊎ (Unopened f n × (new ≡ old))

-- a sheet of the file's ties that stand is drawn into a list
abbrev pub DrawnOf : List ℕ → List ℕ → List ℕ → ℕ → Type 0
DrawnOf f old new free =
    (r : Result ℕ Stop)
    × FileAnswered f (replicate 64 0) r
    × Drawn (scale_of f) (file_shape f) (take (accepted_of r) (equations f)) old new free

-- it is, and the free digits are told; or the list is too short for it; or no book can be opened
abbrev pub SheetOut : List ℕ → List ℕ → List ℕ → ℕ → ℕ → ℕ → Type 0
SheetOut f old new had has n =
    ((n ≡ 0) × Openable f × DrawnOf f old new has)
    ⊎ ((n ≡ number refusal.List) × Openable f × TooShort (sheet_size (file_shape f)) old new × (has ≡ had))
    ⊎ (Unopened f n × (new ≡ old) × (has ≡ had))

-- how posting a file's ties ended: 0, or the refusal's number, with the tie and the term
abbrev pub StopTold : Result ℕ Stop → ℕ → Spot → Spot → Type 0
StopTold (Ok ties) n had has = (n ≡ 0) × (has ≡ had)
StopTold (Err stop) n had has =
    (n ≡ number (post_refusal stop.fault)) × (has ≡ spot_after had (Some stop.tie) (post_place stop.fault))

-- the ties of a file are posted until one is refused, and the list is as posting leaves it; or no book can be opened
abbrev pub MultipliersOut : List ℕ → List ℕ → List ℕ → Spot → Spot → ℕ → Type 0
MultipliersOut f old new had has n =
    (Openable f × ((r : Result ℕ Stop) × FileAnswered f old r × FileListing f r old new × StopTold r n had has))
    ⊎ (Unopened f n × (new ≡ old) × (has ≡ had))

-- the check of multipliers goes through, and its answer is told, 1 for yes and 0 for no; or the number says what stopped
-- it, with the tie and the term
abbrev pub CheckOut : List ℕ → List ℕ → ℕ → ℕ → Spot → Spot → ℕ → Type 0
CheckOut f ys old new had has n =
    ((n ≡ 0)
    × Numbers (file_mark f)
    × Checkable (scale_of f) f ys
    × ((yes : Bool) × Decides yes (Refutes (scale_of f) (file_shape f) (equations f) ys) × (new ≡ from_bool yes))
    × (has ≡ had))
    ⊎ ((g : MarkedFault)
    × MarkedStopped f ys g
    × (n ≡ marked_number g)
    × (new ≡ old)
    × (has ≡ spot_after had (marked_tie g) (marked_place g)))
