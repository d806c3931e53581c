-- The faults of a report: the refusal that each is, and how each comes from those of opening a book.
use Rattle.std.specs.Prelude.{Some, None, Option}
use Rattle.refusals.specs.declared.Refusal.{Refusal}
use Rattle.scales.specs.Faults.{refused}
use Rattle.ties.specs.Faults.{layout_refusal}
use Rattle.tie_file.specs.Reading.{file_refusal}
use Rattle.book.specs.declared.fault.OpenFault.{OpenFault}
use Rattle.book.specs.declared.fault.OpenFault.TheVariants as opening
use Rattle.report.specs.declared.fault.ReportFault.{ReportFault}
use Rattle.report.specs.declared.fault.ReportFault.TheVariants.{File, Scale, Layout, Memory}

abbrev pub report_refusal : ReportFault → Option Refusal
report_refusal (File f) = Some (file_refusal f)
report_refusal (Scale f) = Some (refused f)
report_refusal (Layout f) = Some (layout_refusal f)
report_refusal Memory = None

abbrev pub from_open : OpenFault → ReportFault
from_open (opening.Layout f) = Layout f
from_open opening.Memory = Memory
