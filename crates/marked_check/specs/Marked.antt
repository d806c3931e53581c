-- The check by a file's own mark.
use Rattle.std.specs.Prelude.{ℕ, List, None, Option}
use Rattle.refusals.specs.declared.Refusal.{Refusal}
use Rattle.refusals.specs.Numbers.{number}
use Rattle.scale.specs.Meaning.{Meaning}
use Rattle.scales.specs.Faults.{refused}
use Rattle.scales.specs.Kinds.{Numbers, named}
use Rattle.tie_file.specs.Bodies.{file_mark}
use Rattle.tie_file.specs.Table.{WellFormed}
use Rattle.tie_file.specs.Reading.{Bad}
use Rattle.multipliers.specs.declared.fault.CheckFault.TheVariants.{File, Layout, Mark, List as Short, Tie}
use Rattle.multipliers.specs.Checked.{Stopped, check_place, check_refusal, check_tie}
use Rattle.marked_check.specs.declared.fault.MarkedFault.{MarkedFault}
use Rattle.marked_check.specs.declared.fault.MarkedFault.TheVariants.{Scale, Check}

-- each fault's refusal and its number, the number of its tie, and the place of its term
abbrev pub marked_refusal : MarkedFault → Refusal
marked_refusal (Scale f) = refused f
marked_refusal (Check f) = check_refusal f

abbrev pub marked_number : MarkedFault → ℕ
marked_number f = number (marked_refusal f)

abbrev pub marked_tie : MarkedFault → Option ℕ
marked_tie (Scale f) = None
marked_tie (Check f) = check_tie f

abbrev pub marked_place : MarkedFault → Option ℕ
marked_place (Scale f) = None
marked_place (Check f) = check_place f

-- the scale that a file's mark names
abbrev pub scale_of : List ℕ → Meaning
scale_of f = named (file_mark f)

-- what stops the check: the file first, then the numbers of its scale, then what stops the check over that scale
abbrev pub MarkedStopped : List ℕ → List ℕ → MarkedFault → Type 0
MarkedStopped f ys (Scale g) = WellFormed f × (Numbers (file_mark f) → ⊥)
MarkedStopped f ys (Check (File g)) = Bad f g
MarkedStopped f ys (Check (Layout g)) = Numbers (file_mark f) × Stopped (scale_of f) f ys (Layout g)
MarkedStopped f ys (Check Mark) = ⊥
MarkedStopped f ys (Check Short) = Numbers (file_mark f) × Stopped (scale_of f) f ys Short
MarkedStopped f ys (Check (Tie i g)) = Numbers (file_mark f) × Stopped (scale_of f) f ys (Tie i g)
