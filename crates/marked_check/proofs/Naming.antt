-- What stops the check over the scale that the mark names.
use Rattle.std.proofs.Common.{◌≡◌, ℕ, Bool, true, List, Decides, ap, ◌∙◌, subst}
use Rattle.scale.specs.declared.Mark.{Mark}
use Rattle.scale.specs.Meaning.{Meaning}
use Rattle.scales.specs.Kinds.{Numbers, named}
use Rattle.ties.specs.Equations.{Contradictory}
use Rattle.tie_file.specs.Bodies.{equations, file_mark, file_shape}
use Rattle.multipliers.specs.Checked.{Checkable}
use Rattle.multipliers.specs.Refuting.{Refutes}
use Rattle.marked_check.specs.Marked.{scale_of}

-- the scale that was made is the one that the file's mark names
pub made_scale : (f : List ℕ) (k : Mark) (m : Meaning) → k ≡ file_mark f → m ≡ named k → m ≡ scale_of f
made_scale f k m e is = is ∙ ap named e

pub numbers_of : (f : List ℕ) (k : Mark) → k ≡ file_mark f → Numbers k → Numbers (file_mark f)
numbers_of f k e n = subst Numbers e n

pub answered :
    (f ys : List ℕ) (m : Meaning) (b : Bool)
    → m ≡ scale_of f
    → Checkable m f ys × Decides b (Refutes m (file_shape f) (equations f) ys)
    → (b ≡ true → Contradictory m (file_shape f) (equations f))
    → (Checkable (scale_of f) f ys × Decides b (Refutes (scale_of f) (file_shape f) (equations f) ys))
    × (b ≡ true → Contradictory (scale_of f) (file_shape f) (equations f))
answered f ys m b e checked trusted =
    let A : Meaning → Type 0 = λ n. (Checkable n f ys × Decides b (Refutes n (file_shape f) (equations f) ys)) × (b ≡ true → Contradictory n (file_shape f) (equations f)) in
    subst A e (checked, trusted)
