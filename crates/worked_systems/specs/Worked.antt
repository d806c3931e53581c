-- The small systems, and what the definitions of the library say of each.
use Rattle.std.specs.Prelude.{◌≡◌, ℕ, ◌≤◌, ◌⊎◌, ◌↔◌, List, [], ◌∷◌, length}
use Rattle.refusals.specs.Numbers.{number}
use Rattle.scale.specs.Meaning.{Meaning, Quotient}
use Rattle.scales.specs.Kinds.{binary_mark, disc_mark, named, prime_mark}
use Rattle.ties.specs.declared.fault.TermFault.TheVariants.{Coarse}
use Rattle.ties.specs.declared.fault.TieFault.TheVariants.{Term as OfTerm}
use Rattle.ties.specs.declared.tie.Term.{Term}
use Rattle.ties.specs.Layouts.{Shape}
use Rattle.ties.specs.Equations.{Count, Equation}
use Rattle.ties.specs.Faults.{Faulty, tie_refusal}
use Rattle.multipliers.specs.Refuting.{Refutes}
use Rattle.book.specs.declared.fault.PostFault.TheVariants.{Contradiction}
use Rattle.book.specs.Faults.{post_refusal}
use Rattle.book.specs.Posting.{Accepted, PostStopped, Shown}
use Rattle.book.specs.Querying.{SettledDigits}

-- the scales: binary and disc of length 3, and base 3 of length 2
abbrev pub binary : Meaning
binary = named (binary_mark 3)

abbrev pub disc : Meaning
disc = named (disc_mark 3)

abbrev pub ternary : Meaning
ternary = named (prime_mark 3 2)

-- two heads with a counter of width 3 each, one head with a counter of width 2, and one head with counters of widths 3
-- and 1
abbrev pub pair : Shape
pair = record { heads = 2; widths = 3 ∷ [] }

abbrev pub single : Shape
single = record { heads = 1; widths = 2 ∷ [] }

abbrev pub uneven : Shape
uneven = record { heads = 1; widths = 3 ∷ 1 ∷ [] }

-- a term, and a tie
abbrev pub term : ℕ → ℕ → ℕ → Term
term head counter factor = record { head = head; counter = counter; factor = factor }

abbrev pub tie : ℕ → ℕ → List Term → Equation
tie target right terms = record { target = target; right = right; terms = terms }

-- of the pair, whose codes are x and y: 2x + 4y = 6, 4x = 4 and 4x = 0, and the ties that ask for x and for y
abbrev pub two_x_four_y_is_six : Equation
two_x_four_y_is_six = tie 0 6 (term 0 0 2 ∷ term 1 0 4 ∷ [])

abbrev pub four_x_is_four : Equation
four_x_is_four = tie 0 4 (term 0 0 4 ∷ [])

abbrev pub four_x_is_none : Equation
four_x_is_none = tie 0 0 (term 0 0 4 ∷ [])

abbrev pub ask_x : Equation
ask_x = tie 0 0 (term 0 0 1 ∷ [])

abbrev pub ask_y : Equation
ask_y = tie 0 0 (term 1 0 1 ∷ [])

-- of the single counter: 3x = 6 and 3x = 4
abbrev pub three_x_is_six : Equation
three_x_is_six = tie 0 6 (term 0 0 3 ∷ [])

abbrev pub three_x_is_four : Equation
three_x_is_four = tie 0 4 (term 0 0 3 ∷ [])

-- of the uneven counters: for target 0 the counter of width 1 with a factor, and for target 1 the sum of both codes
abbrev pub narrow : ℕ → Equation
narrow factor = tie 0 0 (term 0 1 factor ∷ [])

abbrev pub sum_is_one : Equation
sum_is_one = tie 1 1 (term 0 0 1 ∷ term 0 1 1 ∷ [])

-- of the pair, no terms and a right side
abbrev pub no_terms : ℕ → Equation
no_terms right = tie 0 right []

-- a tie is refused as a contradiction, whatever the list of multipliers, if it has 64 numbers or more
abbrev pub Contradicts : Meaning → Shape → List Equation → Equation → Type 0
Contradicts m s es e = (ys : List ℕ) → 64 ≤ length ys → PostStopped m s es e ys Contradiction

pub record SmallSystems : Type 0 where
  -- binary: 4 by 2 has the quotients 2 and 6, just these, and 2 by 4 has none
  pub four_by_two : (c : ℕ) → Quotient binary 4 2 c ↔ ((c ≡ 2) ⊎ (c ≡ 6))
  pub two_by_four : (c : ℕ) → Quotient binary 2 4 c → ⊥
  -- disc: 3 plus 3, 3 times 2, the negative of 1, and the level of code 2
  pub disc_sum : disc.sum 3 3 ≡ 6
  pub disc_product : disc.product 3 2 ≡ 5
  pub disc_negative : disc.negative 1 ≡ 4
  pub disc_level : disc.level 2 ≡ 0
  -- in an empty book of the pair 6 digits are free; 2x + 4y = 6 fixes 2 of them and leaves 4
  pub pair_free : Count binary pair [] 6
  pub first_fixes : Accepted binary pair [] two_x_four_y_is_six 2
  pub first_leaves : Count binary pair (two_x_four_y_is_six ∷ []) 4
  -- behind it 4x = 4 fixes none
  pub second_fixes : Accepted binary pair (two_x_four_y_is_six ∷ []) four_x_is_four 0
  -- in its stead 4x = 0 is refused with 15; the multipliers 2 and 7 show it, and the check says yes to them; 1 and 1 do
  -- not, nor do 4 and 0
  pub other_refused : Contradicts binary pair (two_x_four_y_is_six ∷ []) four_x_is_none
  pub two_and_seven : Shown binary pair (two_x_four_y_is_six ∷ four_x_is_none ∷ []) (2 ∷ 7 ∷ [])
  pub one_and_one : Refutes binary pair (two_x_four_y_is_six ∷ four_x_is_none ∷ []) (1 ∷ 1 ∷ []) → ⊥
  pub four_and_none : Refutes binary pair (two_x_four_y_is_six ∷ four_x_is_none ∷ []) (4 ∷ 0 ∷ []) → ⊥
  -- where 2x + 4y = 6 stands, a query of x has 1 settled digit, and one of y has none
  pub x_settled : SettledDigits binary pair (two_x_four_y_is_six ∷ []) ask_x 1
  pub y_settled : SettledDigits binary pair (two_x_four_y_is_six ∷ []) ask_y 0
  -- base 3: 3x = 6 fixes 1 digit and leaves 1
  pub ternary_fixes : Accepted ternary single [] three_x_is_six 1
  pub ternary_leaves : Count ternary single (three_x_is_six ∷ []) 1
  -- in an empty book 3x = 4 is refused with 15, and the check says yes to the multiplier 3
  pub ternary_refused : Contradicts ternary single [] three_x_is_four
  pub three : Shown ternary single (three_x_is_four ∷ []) (3 ∷ [])
  -- for a target of width 3 and on the counter of width 1, factor 4 is accepted, and factor 2 is refused with 13 at place
  -- 0
  pub factor_four : Accepted binary uneven [] (narrow 4) 1
  pub factor_two : Faulty binary uneven (narrow 2) (OfTerm (Coarse 0))
  -- in an empty book x0 + x1 = 1, up to one digit, fixes 1 digit and leaves 3
  pub sum_fixes : Accepted binary uneven [] sum_is_one 1
  pub sum_leaves : Count binary uneven (sum_is_one ∷ []) 3
  -- in an empty book a tie without terms is accepted and fixes nothing, where its right side is 0, and refused with 15
  -- where it is 1
  pub none_is_none : Accepted binary pair [] (no_terms 0) 0
  pub none_is_one : Contradicts binary pair [] (no_terms 1)
  -- the numbers of the two refusals
  pub fifteen : number (post_refusal Contradiction) ≡ 15
  pub thirteen : number (tie_refusal (OfTerm (Coarse 0))) ≡ 13
