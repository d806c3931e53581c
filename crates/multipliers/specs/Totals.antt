-- Totals, one for each counter in the order head, then counter.
use Rattle.std.specs.Prelude.{◌≡◌, ℕ, List, replicate, ◌≢◌, slice_index, refl}
use Rattle.scale.specs.Meaning.{Meaning, Code, summed}
use Rattle.ties.specs.Layouts.{Shape, Has, place}
use Rattle.ties.specs.Equations.{Equation}
use Rattle.multipliers.specs.declared.totals.Totals.{Totals}
use Rattle.multipliers.specs.Refuting.{weight, factor_at, counter_share, right_share}

-- each number of a list is a code
abbrev pub Codes : Meaning → List ℕ → Type 0
Codes m xs = (i : ℕ) → Code m (slice_index xs i)

-- each counter's total has grown by its share
abbrev pub Shares : Meaning → Shape → (ℕ → ℕ → ℕ) → List ℕ → List ℕ → Type 0
Shares m s share old new =
    (h c : ℕ) → Has s h c → slice_index new (place s h c) ≡ m.sum (slice_index old (place s h c)) (share h c)

-- no tie is added yet
abbrev pub nothing : Totals
nothing = record { counters = replicate 32 0; right = 0; all = refl }

abbrev pub AllCodes : Meaning → Totals → Type 0
AllCodes m t = Codes m t.counters × Code m t.right

-- an equation is added: each total has grown by its share
abbrev pub Added : Meaning → Shape → Equation → ℕ → Totals → Totals → Type 0
Added m s e y old new =
    Shares m s (λ h c. m.product (weight m s e y) (factor_at m e.terms h c)) old.counters new.counters
    × (new.right ≡ m.sum old.right (m.product (weight m s e y) e.right))

-- every counter's total is 0, and that of the right sides is not
abbrev pub Contradict : Shape → Totals → Type 0
Contradict s t = ((h c : ℕ) → Has s h c → slice_index t.counters (place s h c) ≡ 0) × (t.right ≢ 0)

-- the first n equations are added
abbrev pub AddedUp : Meaning → Shape → List Equation → List ℕ → ℕ → Totals → Type 0
AddedUp m s es ys n t =
    ((h c : ℕ) → Has s h c → slice_index t.counters (place s h c) ≡ summed m n (counter_share m s es ys h c))
    × (t.right ≡ summed m n (right_share m s es ys))
