-- The systems of one head with one counter, in base 3.
use Rattle.std.proofs.Common.{ℕ, ◌<◌, ◌≤◌, [], ◌∷◌, refl, arith}
use Rattle.std.specs.List.{All}
use Rattle.scales.specs.Counting.{zeros}
use Rattle.scales.specs.Zeros.{divide_zeros}
use Rattle.ties.specs.Layouts.{Assignment, Within}
use Rattle.ties.specs.Equations.{Count, value}
use Rattle.ties.specs.Faults.{Sound}
use Rattle.multipliers.specs.Refuting.{Refutes}
use Rattle.book.specs.Posting.{Accepted, Shown}
use Rattle.worked_systems.specs.Worked.{Contradicts, single, ternary, three_x_is_four, three_x_is_six, term, tie}
use Rattle.worked_systems.proofs.Cases.{alone, each, each_counter}
use Rattle.worked_systems.proofs.Counting.{contradicts, first_accepted, first_count, one_term, shown, ternary_laws}

single_within : Within ternary single
single_within = each _ 1 (omega arith)

three_x_sound : (right : ℕ) → right < 9 → Sound ternary single (tie 0 right (term 0 0 3 ∷ []))
unfolding zeros
three_x_sound right code = one_term ternary single 0 right 0 0 3 (omega arith)

-- 3x = 6 has a value that 3 divides everywhere, and along code 1 no more
along : Assignment
along h c = 1

steady : (x : Assignment) → 1 ≤ ternary.level (ternary.product 1 (value ternary three_x_is_six x))
steady x = divide_zeros 3 2 1 _ (omega arith) (omega arith) (omega arith)

pub ternary_leaves : Count ternary single (three_x_is_six ∷ []) 1
unfolding zeros along
ternary_leaves =
    first_count ternary ternary_laws single single_within three_x_is_six 1 along (three_x_sound 6 (omega arith))
    (λ h c has. omega arith) refl steady

pub ternary_fixes : Accepted ternary single [] three_x_is_six 1
unfolding zeros along
ternary_fixes =
    first_accepted ternary ternary_laws single single_within three_x_is_six 1 along (three_x_sound 6 (omega arith))
    (λ h c has. omega arith) refl steady (λ h c. 2) (λ h c has. omega arith) (omega arith)

pub four_sound : All (Sound ternary single) (three_x_is_four ∷ [])
four_sound = alone (Sound ternary single) three_x_is_four (three_x_sound 4 (omega arith))

pub refutes_three : Refutes ternary single (three_x_is_four ∷ []) (3 ∷ [])
refutes_three = record { counters = each_counter _ 1 1 (omega arith); right = λ none. omega arith }

pub three : Shown ternary single (three_x_is_four ∷ []) (3 ∷ [])
three =
    shown ternary ternary_laws single single_within (three_x_is_four ∷ []) (3 ∷ []) four_sound refutes_three (omega arith)

pub ternary_refused : Contradicts ternary single [] three_x_is_four
ternary_refused =
    contradicts ternary ternary_laws single single_within [] three_x_is_four (3 ∷ []) four_sound
    (three_x_sound 4 (omega arith)) (omega arith) refutes_three
