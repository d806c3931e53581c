-- The systems of two heads with one counter, over the binary scale.
use Rattle.std.proofs.Common.{◌≡◌, ℕ, ◌-◌, ◌*◌, ◌%◌, ◌<◌, ◌≤◌, ◌⊎◌, ◌↔◌, inl, inr, eq-or-lt_of_le, List, [], ◌∷◌, refl, arith}
use Rattle.std.specs.List.{All}
use Rattle.std.proofs.lemmas.List.Elements.{All-push}
use Rattle.scale.specs.Meaning.{Quotient}
use Rattle.scales.specs.Counting.{zeros}
use Rattle.scales.specs.Zeros.{divide_zeros, zeros_divide}
use Rattle.ties.specs.Layouts.{Assignment, Within}
use Rattle.ties.specs.Equations.{Count, Equation, Meets, MeetsAll, Solves, value}
use Rattle.ties.specs.Faults.{Sound}
use Rattle.multipliers.specs.Refuting.{Refutes}
use Rattle.linear.proofs.Counts.{count_more, count_none}
use Rattle.linear.proofs.Moves.{slid}
use Rattle.book.specs.Posting.{Accepted, Shown}
use Rattle.book.specs.Querying.{SettledDigits}
use Rattle.worked_systems.specs.Worked.{
  Contradicts,
  ask_x,
  ask_y,
  binary,
  four_x_is_four,
  four_x_is_none,
  no_terms,
  pair,
  term,
  tie,
  two_x_four_y_is_six,
}
use Rattle.worked_systems.proofs.Cases.{alone, each, each_counter}
use Rattle.worked_systems.proofs.Counting.{binary_laws, contradicts, first_accepted, first_count, one_term, shown}

pub four_by_two : (c : ℕ) → Quotient binary 4 2 c ↔ ((c ≡ 2) ⊎ (c ≡ 6))
four_by_two c = (
  λ q.
      let low : c ≤ 6 = omega (arith, q.0, q.1) in
      elim (eq-or-lt_of_le low) [ inl e ↦ inr e | inr h ↦ inl (omega (arith, q.1)) ],
  λ is. elim is [ inl e ↦ omega arith | inr e ↦ omega arith ],
)

pub two_by_four : (c : ℕ) → Quotient binary 2 4 c → ⊥
two_by_four c q = omega (arith, q.1)

pair_within : Within binary pair
pair_within = each _ 1 (omega arith)

-- the ties are sound
first_sound : Sound binary pair two_x_four_y_is_six
unfolding zeros
first_sound =
    record {
      target = omega arith;
      exist = each _ 2 (omega arith);
      rise = each _ 2 ((tt, λ h. absurd (omega arith)), λ h. inl (omega arith));
      codes = each _ 3 (omega arith);
      fine = each _ 2 (omega arith);
    }

four_x_sound : (right : ℕ) → right < 8 → Sound binary pair (tie 0 right (term 0 0 4 ∷ []))
unfolding zeros
four_x_sound right code = one_term binary pair 0 right 0 0 4 (omega arith)

pub ask_x_sound : Sound binary pair ask_x
unfolding zeros
ask_x_sound = one_term binary pair 0 0 0 0 1 (omega arith)

pub ask_y_sound : Sound binary pair ask_y
unfolding zeros
ask_y_sound = one_term binary pair 0 0 1 0 1 (omega arith)

no_terms_sound : (right : ℕ) → right < 8 → Sound binary pair (no_terms right)
no_terms_sound right code =
    record {
      target = omega arith;
      exist = each _ 0 tt;
      rise = each _ 0 tt;
      codes = each _ 1 (omega arith);
      fine = each _ 0 tt;
    }

-- codes 1 and 1 meet 2x + 4y = 6, and so do 3 and 0; the former meet 4x = 4 too
ones : Assignment
ones h c = 1

three_none : Assignment
three_none h c = 3 - 3 * h

one_met : (e : Equation) (x : Assignment) → Meets binary pair e x → MeetsAll binary pair (e ∷ []) x
one_met e x met = alone (λ d. Meets binary pair d x) e met

ones_solve : Solves binary pair (two_x_four_y_is_six ∷ []) ones
unfolding zeros ones
ones_solve = (λ h c has. omega arith, one_met two_x_four_y_is_six ones (omega arith))

three_none_solve : Solves binary pair (two_x_four_y_is_six ∷ []) three_none
unfolding zeros three_none
three_none_solve = (λ h c has. omega arith, one_met two_x_four_y_is_six three_none (omega arith))

ones_solve_both : Solves binary pair (two_x_four_y_is_six ∷ four_x_is_four ∷ []) ones
unfolding zeros ones
ones_solve_both = (
  ones_solve.0,
  All-push (λ d. Meets binary pair d ones) (two_x_four_y_is_six ∷ []) four_x_is_four ones_solve.1 (omega arith),
)

-- at a solution nothing is left, so x is odd
whole : (x : Assignment) → Solves binary pair (two_x_four_y_is_six ∷ []) x → value binary two_x_four_y_is_six x % 8 ≡ 0
whole x solves =
    (zeros_divide 2 3 3 (value binary two_x_four_y_is_six x) (omega arith) (solves.1 0 two_x_four_y_is_six (omega arith))).1

odd : (x : Assignment) → Solves binary pair (two_x_four_y_is_six ∷ []) x → x 0 0 % 2 ≡ 1
odd x solves = omega (arith, whole x solves)

pub pair_free : Count binary pair [] 6
pair_free = count_none binary binary_laws pair pair_within

-- 2x + 4y = 6 has an even value everywhere, and along codes 1 and 1 no more
steady : (x : Assignment) → 1 ≤ binary.level (binary.product 1 (value binary two_x_four_y_is_six x))
steady x = divide_zeros 2 3 1 _ (omega arith) (omega arith) (omega arith)

pub first_leaves : Count binary pair (two_x_four_y_is_six ∷ []) 4
unfolding zeros ones
first_leaves =
    first_count binary binary_laws pair pair_within two_x_four_y_is_six 1 ones first_sound ones_solve.0 refl steady

pub first_fixes : Accepted binary pair [] two_x_four_y_is_six 2
unfolding zeros ones
first_fixes =
    first_accepted binary binary_laws pair pair_within two_x_four_y_is_six 1 ones first_sound ones_solve.0 refl steady ones
    ones_solve.0 (omega arith)

still : Assignment
still h c = 0

-- since x is odd in every solution, all of them meet 4x = 4
second_leaves : Count binary pair (two_x_four_y_is_six ∷ four_x_is_four ∷ []) 4
unfolding zeros still
second_leaves =
    (count_more binary binary_laws pair pair_within (two_x_four_y_is_six ∷ []) four_x_is_four 4 3 still
    (four_x_sound 4 (omega arith)) (λ h c has. omega arith) first_leaves
    (λ x t is solves. (λ h c has. omega arith, one_met two_x_four_y_is_six (slid binary x t still) (stays x t solves)))
    refl
    (λ x solves. divide_zeros 2 3 3 _ (omega arith) (omega arith) (omega (arith, odd x solves)))).1
  where
    stays :
        (x : Assignment) (t : ℕ)
        → Solves binary pair (two_x_four_y_is_six ∷ []) x
        → Meets binary pair two_x_four_y_is_six (slid binary x t still)
    stays x t solves = divide_zeros 2 3 3 _ (omega arith) (omega arith) (omega (arith, whole x solves))

pub second_fixes : Accepted binary pair (two_x_four_y_is_six ∷ []) four_x_is_four 0
second_fixes =
    record {
      sound = four_x_sound 4 (omega arith);
      room = omega arith;
      some = (ones, ones_solve_both);
      before = 4;
      after = 4;
      count_before = first_leaves;
      count_after = second_leaves;
      fell = refl;
    }

abbrev both : List Equation
both = two_x_four_y_is_six ∷ four_x_is_none ∷ []

pub both_sound : All (Sound binary pair) both
both_sound =
    All-push (Sound binary pair) (two_x_four_y_is_six ∷ []) four_x_is_none
    (alone (Sound binary pair) two_x_four_y_is_six first_sound) (four_x_sound 0 (omega arith))

pub refutes_two_and_seven : Refutes binary pair both (2 ∷ 7 ∷ [])
refutes_two_and_seven = record { counters = each_counter _ 2 1 (omega arith); right = λ none. omega arith }

pub two_and_seven : Shown binary pair both (2 ∷ 7 ∷ [])
two_and_seven = shown binary binary_laws pair pair_within both (2 ∷ 7 ∷ []) both_sound refutes_two_and_seven (omega arith)

pub other_refused : Contradicts binary pair (two_x_four_y_is_six ∷ []) four_x_is_none
other_refused =
    contradicts binary binary_laws pair pair_within (two_x_four_y_is_six ∷ []) four_x_is_none (2 ∷ 7 ∷ []) both_sound
    (four_x_sound 0 (omega arith)) (omega arith) refutes_two_and_seven

pub one_and_one : Refutes binary pair both (1 ∷ 1 ∷ []) → ⊥
one_and_one refutes = omega (arith, refutes.counters 0 0 (omega arith))

pub four_and_none : Refutes binary pair both (4 ∷ 0 ∷ []) → ⊥
four_and_none refutes = refutes.right refl

pub x_settled : SettledDigits binary pair (two_x_four_y_is_six ∷ []) ask_x 1
unfolding zeros ones three_none
x_settled =
    record {
      most = omega arith;
      agree = λ x y p q. divide_zeros 2 3 1 _ (omega arith) (omega arith) (omega (arith, odd x p, odd y q));
      greatest = λ k h settles. settles ones three_none ones_solve three_none_solve;
    }

pub y_settled : SettledDigits binary pair (two_x_four_y_is_six ∷ []) ask_y 0
unfolding zeros ones three_none
y_settled =
    record {
      most = omega arith;
      agree = λ x y p q. omega arith;
      greatest = λ k h settles. settles ones three_none ones_solve three_none_solve;
    }

pub none_is_none : Accepted binary pair [] (no_terms 0) 0
unfolding zeros ones
none_is_none =
    first_accepted binary binary_laws pair pair_within (no_terms 0) 3 ones (no_terms_sound 0 (omega arith)) ones_solve.0
    refl (λ x. omega arith) ones ones_solve.0 (omega arith)

pub none_is_one : Contradicts binary pair [] (no_terms 1)
none_is_one =
    let sound = no_terms_sound 1 (omega arith) in
    contradicts binary binary_laws pair pair_within [] (no_terms 1) (1 ∷ []) (alone (Sound binary pair) (no_terms 1) sound) sound
    (omega arith) (record { counters = each_counter _ 2 1 (omega arith); right = λ none. omega arith })
