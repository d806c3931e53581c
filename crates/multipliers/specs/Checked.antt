-- What the check of multipliers answers, and what stops it.
use Rattle.std.specs.Prelude.{◌≡◌, ℕ, ◌<◌, ◌≤◌, List, length, Some, None, Option, ◌≢◌}
use Rattle.std.specs.List.{All}
use Rattle.refusals.specs.declared.Refusal.{Refusal}
use Rattle.refusals.specs.declared.Refusal.TheVariants as refusal
use Rattle.scale.specs.Meaning.{Meaning}
use Rattle.ties.specs.Layouts.{Sized, Within}
use Rattle.ties.specs.Equations.{nth_equation}
use Rattle.ties.specs.Faults.{BadLayout, Faulty, Sound, layout_refusal, tie_place, tie_refusal}
use Rattle.tie_file.specs.Table.{WellFormed}
use Rattle.tie_file.specs.Bodies.{equations, file_mark, file_shape}
use Rattle.tie_file.specs.Reading.{Bad, file_refusal}
use Rattle.multipliers.specs.declared.fault.CheckFault.{CheckFault}
use Rattle.multipliers.specs.declared.fault.CheckFault.TheVariants.{File, Layout, Mark, List as Short, Tie}

-- the refusal that each fault is, the number of its tie, and the place of its term
abbrev pub check_refusal : CheckFault → Refusal
check_refusal (File f) = file_refusal f
check_refusal (Layout f) = layout_refusal f
check_refusal Mark = refusal.Mark
check_refusal Short = refusal.List
check_refusal (Tie i f) = tie_refusal f

abbrev pub check_tie : CheckFault → Option ℕ
check_tie (File f) = None
check_tie (Layout f) = None
check_tie Mark = None
check_tie Short = None
check_tie (Tie i f) = Some i

abbrev pub check_place : CheckFault → Option ℕ
check_place (File f) = None
check_place (Layout f) = None
check_place Mark = None
check_place Short = None
check_place (Tie i f) = tie_place f

-- a file that a scale can use: it is well formed, its layout is in bounds, and its mark is the scale's
pub record Usable (m : Meaning) (f : List ℕ) : Type 0 where
  pub formed : WellFormed f
  pub sized : Sized (file_shape f)
  pub within : Within m (file_shape f)
  pub mark : file_mark f ≡ m.mark

-- the check goes through: there are multipliers enough, and each tie is sound
pub record Checkable (m : Meaning) (f : List ℕ) (ys : List ℕ) : Type 0 where
  pub usable : Usable m f
  pub enough : length (equations f) ≤ length ys
  pub sound : All (Sound m (file_shape f)) (equations f)

-- the check is stopped by the first of its checks that fails; among the ties, at the first that is at fault
abbrev pub Stopped : Meaning → List ℕ → List ℕ → CheckFault → Type 0
Stopped m f ys (File g) = Bad f g
Stopped m f ys (Layout g) = WellFormed f × BadLayout m (file_shape f) g
Stopped m f ys Mark =
    WellFormed f × Sized (file_shape f) × Within m (file_shape f) × (file_mark f ≢ m.mark)
Stopped m f ys Short = Usable m f × (length ys < length (equations f))
Stopped m f ys (Tie i g) =
    Usable m f
    × (length (equations f) ≤ length ys)
    × (i < length (equations f))
    × ((j : ℕ) → j < i → Sound m (file_shape f) (nth_equation (equations f) j))
    × Faulty m (file_shape f) (nth_equation (equations f) i) g
