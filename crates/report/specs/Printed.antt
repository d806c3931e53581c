-- The lines that the program prints.
use Rattle.std.specs.Prelude.{ℕ, zero, suc, ◌*◌, ◌/◌, ◌%◌, List, [], ◌++◌, Some, None, Ok, Err, codes, decimal, Option, Result, slice_index}
use Rattle.refusals.specs.declared.Refusal.{Refusal}
use Rattle.refusals.specs.Numbers.{number}
use Rattle.book.specs.declared.fault.Stop.{Stop}
use Rattle.book.specs.Faults.{post_refusal}
use Rattle.report.specs.declared.answer.Report.{Report}
use Rattle.report.specs.declared.fault.ReportFault.{ReportFault}
use Rattle.report.specs.declared.lines.Lines.{Lines}
use Rattle.report.specs.Faults.{report_refusal}

-- the lines for what a report answered: the report, or the refusal that its fault is, and none where it is none
abbrev pub refused_lines : Option Refusal → Option Lines
refused_lines None = None
refused_lines (Some g) = Some (record { 0 = Err g })

abbrev pub lines_of : Result Report ReportFault → Option Lines
lines_of (Ok r) = Some (record { 0 = Ok r })
lines_of (Err f) = refused_lines (report_refusal f)

-- the line on the tie that was refused, where there is one
abbrev pub stopped_line : Option Stop → List ℕ
stopped_line None = []
stopped_line (Some stop) =
    codes "\nstopped " ++ (decimal stop.tie ++ (codes " " ++ decimal (number (post_refusal stop.fault))))

-- how many ties stand, how many digits are free, and the line on the tie that was refused
abbrev pub front_lines : Report → List ℕ
front_lines r =
    codes "standing " ++ (decimal r.standing ++ (codes " free " ++ (decimal r.free ++ stopped_line r.stopped)))

-- the line on the counter at a place: its head, its counter, and how many digits of its code are settled
abbrev pub counter_line : Report → ℕ → List ℕ
counter_line r i =
    codes "\n"
    ++ (decimal (i / r.counters) ++ (codes " " ++ (decimal (i % r.counters) ++ (codes " " ++ decimal (slice_index r.settled i)))))

-- the lines on the counters at the first n places
abbrev pub counter_lines : Report → ℕ → List ℕ
counter_lines r zero = []
counter_lines r (suc n) = counter_lines r n ++ counter_line r n

-- the refusal's number; or the lines above, with one for each counter of each head
abbrev pub printed : Result Report Refusal → List ℕ
printed (Ok r) = front_lines r ++ counter_lines r (r.heads * r.counters)
printed (Err g) = codes "refused " ++ decimal (number g)
