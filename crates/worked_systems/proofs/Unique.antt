-- Answers that the definitions leave no choice of.
use Rattle.std.proofs.Common.{◌≡◌, ℕ, zero, suc, ◌^◌, ◌<◌, ◌≤◌, List, [], ◌∷◌, ◌++◌, length, Ok, Err, Result, MatchResult, sym, refl, ap, ◌∙◌, arith, le_antisymm, mul-le-mul_left, pow-suc}
use native.Mathlib.Nat.{one-le-pow, pow-le-pow_right}
use Rattle.scale.specs.Meaning.{Meaning, Laws, base}
use Rattle.ties.specs.declared.fault.TermFault.TheVariants.{Absent, Order, NoCode, Coarse}
use Rattle.ties.specs.declared.fault.TieFault.{TieFault}
use Rattle.ties.specs.declared.fault.TieFault.TheVariants.{Target, Term as OfTerm}
use Rattle.ties.specs.Layouts.{Shape, Same}
use Rattle.ties.specs.Equations.{Count, Equation, Solves, nth}
use Rattle.ties.specs.Faults.{Faulty, Sound}
use Rattle.linear.proofs.Moves.{same_join, same_turn}
use Rattle.linear.proofs.Systems.{System, same_size}
use Rattle.book.specs.declared.fault.PostFault.{PostFault}
use Rattle.book.specs.declared.fault.PostFault.TheVariants.{List as Short, Tie, Full, Contradiction}
use Rattle.book.specs.Posting.{Accepted, Answered}
use Rattle.book.proofs.Faultless.{no_fault}
use Rattle.worked_systems.specs.Worked.{Contradicts}
use Rattle.book.specs.Querying.{SettledDigits}

no_less : (q f g : ℕ) → 2 ≤ q → q ^ f ≡ q ^ g → f < g → ⊥
no_less q f g two same less =
    let grows : q ^ suc f ≤ q ^ g = pow-le-pow_right (omega arith) less in
    let some : 1 ≤ q ^ f = one-le-pow f q (omega arith) in
    omega (arith, pow-suc q f, mul-le-mul_left (q ^ f) two)

same_power : (q f g : ℕ) → 2 ≤ q → q ^ f ≡ q ^ g → f ≡ g
same_power q f g two same =
    let up = no_less q f g two same in
    let down = no_less q g f two (sym same) in
    omega arith

module _ (m : Meaning) (l : Laws m) (s : Shape) where
  system :
      (es : List Equation) (f : ℕ) (c : Count m s es f) → System (Same m s) (Solves m s es) (length c.list) (nth c.list)
  system es f c = record { member = c.solve; different = c.different; complete = c.complete }

  -- the number of free digits
  pub one_count : (es : List Equation) (f g : ℕ) → Count m s es f → Count m s es g → f ≡ g
  one_count es f g a b =
      same_power (base m) f g l.base_least
      (sym a.number
      ∙ same_size (Same m s) (Solves m s es)
      (λ x y p q. same_turn m l s x y p.0 q.0)
      (λ x y z p q r. same_join m l s x y z p.0 q.0 r.0)
      (length a.list) (length b.list) (nth a.list) (nth b.list) (system es f a) (system es g b)
      ∙ b.number)

module _ (m : Meaning) (l : Laws m) (s : Shape) (es : List Equation) (e : Equation) where
  -- the settled digits
  pub one_settled :
      (v : ℕ)
      → Sound m s e
      → SettledDigits m s es e v
      → (r : Result ℕ TieFault)
      → MatchResult r (SettledDigits m s es e) (Faulty m s e)
      → r ≡ Ok v
  one_settled v sound known (Ok w) found =
      ap Ok (le_antisymm (known.greatest w found.most found.agree) (found.greatest v known.most known.agree))
  one_settled v sound known (Err f) bad = absurd (no_fault m s e f sound bad)

  -- what a tie is answered
  module _ (ys : List ℕ) (enough : 64 ≤ length ys) where
    pub one_answer :
        (fixed : ℕ) → Accepted m s es e fixed → (r : Result ℕ PostFault) → Answered m s es e ys r → r ≡ Ok fixed
    one_answer fixed known (Ok digits) found =
        let a = found.1 in
        let before : a.before ≡ known.before = one_count m l s es a.before known.before a.count_before known.count_before in
        let after : a.after ≡ known.after =
        one_count m l s (es ++ (e ∷ [])) a.after known.after a.count_after known.count_after
        in
        ap Ok (omega (arith, a.fell, known.fell))
    one_answer fixed known (Err Short) short = absurd (omega arith)
    one_answer fixed known (Err (Tie f)) bad = absurd (no_fault m s e f known.sound bad.1)
    one_answer fixed known (Err Full) full = absurd (omega (arith, known.room, full.2))
    one_answer fixed known (Err Contradiction) bad = absurd (bad.3 known.some.0 known.some.1)

    pub one_contradiction :
        Contradicts m s es e → (r : Result ℕ PostFault) → Answered m s es e ys r → r ≡ Err Contradiction
    one_contradiction known (Ok digits) found = absurd ((known ys enough).3 found.1.some.0 found.1.some.1)
    one_contradiction known (Err Short) short = absurd (omega arith)
    one_contradiction known (Err (Tie f)) bad = absurd (no_fault m s e f (known ys enough).1 bad.1)
    one_contradiction known (Err Full) full = absurd (omega (arith, (known ys enough).2, full.2))
    one_contradiction known (Err Contradiction) bad = refl

    pub one_coarse :
        Faulty m s e (OfTerm (Coarse 0))
        → (r : Result ℕ PostFault)
        → Answered m s es e ys r
        → r ≡ Err (Tie (OfTerm (Coarse 0)))
    one_coarse known (Ok digits) found = absurd (no_fault m s e (OfTerm (Coarse 0)) found.1.sound known)
    one_coarse known (Err Short) short = absurd (omega arith)
    one_coarse known (Err (Tie Target)) bad = absurd (bad.1 known.0)
    one_coarse known (Err (Tie (OfTerm (Absent i)))) bad = absurd (bad.1.1.1 (known.1 i bad.1.1.0))
    one_coarse known (Err (Tie (OfTerm (Order i)))) bad = absurd (bad.1.2.1 (known.2 i bad.1.2.0))
    one_coarse known (Err (Tie (OfTerm (NoCode i)))) bad = absurd (bad.1.3.1 (known.3 i bad.1.3.0))
    one_coarse known (Err (Tie (OfTerm (Coarse zero)))) bad = refl
    one_coarse known (Err (Tie (OfTerm (Coarse (suc i))))) bad = absurd (known.4.1 (bad.1.4.2 0 (omega arith)))
    one_coarse known (Err Full) full = absurd (no_fault m s e (OfTerm (Coarse 0)) full.1 known)
    one_coarse known (Err Contradiction) bad = absurd (no_fault m s e (OfTerm (Coarse 0)) bad.1 known)
