-- The refusals that the faults of solving are.
use Rattle.std.specs.Prelude.{Some, Option}
use Rattle.refusals.specs.declared.Refusal.{Refusal}
use Rattle.book.specs.Faults.{open_refusal, post_refusal, sheet_refusal}
use Rattle.endomorphisms.specs.declared.fault.SolveFault.{SolveFault}
use Rattle.endomorphisms.specs.declared.fault.SolveFault.TheVariants.{Open, Sheet, Tie}

abbrev pub solve_refusal : SolveFault → Option Refusal
solve_refusal (Open f) = open_refusal f
solve_refusal (Tie p) = Some (post_refusal p.fault)
solve_refusal (Sheet f) = Some (sheet_refusal f)
