-- The refusals that the faults of a book are.
use Rattle.std.specs.Prelude.{ℕ, Some, None, Option}
use Rattle.refusals.specs.declared.Refusal.{Refusal}
use Rattle.refusals.specs.declared.Refusal.TheVariants as refusal
use Rattle.ties.specs.Faults.{layout_refusal, tie_place, tie_refusal}
use Rattle.tie_file.specs.Reading.{file_refusal}
use Rattle.book.specs.declared.fault.LoadFault.{LoadFault}
use Rattle.book.specs.declared.fault.LoadFault.TheVariants as load
use Rattle.book.specs.declared.fault.OpenFault.{OpenFault}
use Rattle.book.specs.declared.fault.OpenFault.TheVariants.{Layout, Memory}
use Rattle.book.specs.declared.fault.PostFault.{PostFault}
use Rattle.book.specs.declared.fault.PostFault.TheVariants.{List, Tie, Full, Contradiction}
use Rattle.book.specs.declared.fault.SheetFault.{SheetFault}
use Rattle.book.specs.declared.fault.SheetFault.TheVariants as sheet
use Rattle.book.specs.declared.fault.WithdrawFault.{WithdrawFault}
use Rattle.book.specs.declared.fault.WithdrawFault.TheVariants as withdraw
use Rattle.book.specs.declared.fault.WriteFault.{WriteFault}
use Rattle.book.specs.declared.fault.WriteFault.TheVariants as write

abbrev pub open_refusal : OpenFault → Option Refusal
open_refusal (Layout f) = Some (layout_refusal f)
open_refusal Memory = None

abbrev pub post_refusal : PostFault → Refusal
post_refusal List = refusal.List
post_refusal (Tie f) = tie_refusal f
post_refusal Full = refusal.Full
post_refusal Contradiction = refusal.Contradiction

-- the place of the term at fault, where it is a term's
abbrev pub post_place : PostFault → Option ℕ
post_place List = None
post_place (Tie f) = tie_place f
post_place Full = None
post_place Contradiction = None

abbrev pub load_refusal : LoadFault → Refusal
load_refusal (load.File f) = file_refusal f
load_refusal load.Mark = refusal.Mark
load_refusal load.List = refusal.List
load_refusal (load.Tie i f) = post_refusal f

-- the number of the tie that was refused, where it is a tie's, and the place of its term at fault
abbrev pub load_tie : LoadFault → Option ℕ
load_tie (load.File f) = None
load_tie load.Mark = None
load_tie load.List = None
load_tie (load.Tie i f) = Some i

abbrev pub load_place : LoadFault → Option ℕ
load_place (load.File f) = None
load_place load.Mark = None
load_place load.List = None
load_place (load.Tie i f) = post_place f

abbrev pub sheet_refusal : SheetFault → Refusal
sheet_refusal sheet.List = refusal.List

abbrev pub write_refusal : WriteFault → Refusal
write_refusal write.List = refusal.List

abbrev pub withdraw_refusal : WithdrawFault → Refusal
withdraw_refusal withdraw.Nothing = refusal.Nothing
