-- The line that the program prints.
use Rattle.std.specs.Prelude.{ℕ, Bool, true, false, List, [], ◌++◌, Some, None, Ok, Err, codes, decimal, Option, Result}
use Rattle.marked_check.specs.declared.fault.MarkedFault.{MarkedFault}
use Rattle.marked_check.specs.Marked.{marked_number, marked_place, marked_tie}

-- a number behind a space, where there is one
abbrev pub spaced : Option ℕ → List ℕ
spaced None = []
spaced (Some n) = codes " " ++ decimal n

-- yes, no, or the refusal's number with the tie's number and the place behind it
abbrev pub printed : Result Bool MarkedFault → List ℕ
printed (Ok true) = codes "yes"
printed (Ok false) = codes "no"
printed (Err f) = codes "refused " ++ (decimal (marked_number f) ++ (spaced (marked_tie f) ++ spaced (marked_place f)))
