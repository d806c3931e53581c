-- The free digits of a table count the solutions of its ties.
use Rattle.std.proofs.Common.{◌≡◌, ℕ, zero, suc, ◌+◌, ◌-◌, ◌*◌, ◌<◌, ◌≤◌, List, [], ◌∷◌, ◌++◌, length, sym, ap, subst, subst₂, arith}
use Rattle.scale.specs.Meaning.{Meaning, Laws, Code, digits}
use Rattle.scale.proofs.Codes.{power_code}
use Rattle.ties.specs.Layouts.{Shape, Within, places}
use Rattle.ties.specs.Equations.{Count, Equation}
use Rattle.ties.specs.Faults.{Sound}
use Rattle.linear.proofs.Counts.{count_more, count_none}
use Rattle.book.specs.declared.standing.Standing.{Standing}
use Rattle.book.specs.Sheets.{generator_of}
use Rattle.book.specs.Standing.{Built, equation_of, nth_standing, raised, rest}
use Rattle.book.proofs.Choosing.{least, quotient_level}
use Rattle.book.proofs.Coding.{row_assigns, total_code}
use Rattle.book.proofs.Exactness.{built_codes, ledger_more, ledger_of, slides, values_level}

module _ (m : Meaning) (l : Laws m) (s : Shape) (within : Within m s) (ks : List Standing) where
  -- one more equation, whose products with the generators have least level v at generator p
  pub fall :
      (n : ℕ) (xs : List ℕ) (g : ℕ)
      → n ≤ length ks
      → Built m s ks n xs g
      → Count m s (ledger_of ks n) g
      → (e : Equation) (p v : ℕ)
      → Sound m s e
      → p < places s
      → m.level (raised m s e (generator_of s xs p)) ≡ v
      → ((i : ℕ) → i < places s → v ≤ m.level (raised m s e (generator_of s xs i)))
      → v ≤ m.level (rest m s e xs)
      → (digits m - v ≤ g) × Count m s (ledger_of ks n ++ (e ∷ [])) (g - (digits m - v))
  fall n xs g most built count e p v sound below lowest least low =
      let all = (built_codes m s ks n xs g built).0 in
      let gives = row_assigns m l s xs all (places s + p * places s) in
      let product_code : Code m (raised m s e (generator_of s xs p)) =
      l.product_code _ _ (power_code m l _) (total_code m l s e sound (generator_of s xs p) gives)
      in
      let deep : v ≤ digits m = omega (arith, l.level_most _ product_code) in
      count_more m l s within (ledger_of ks n) e g v (generator_of s xs p) sound gives count
      (slides m l s within ks n xs g most built p below)
      lowest
      (values_level m l s within ks n xs g most built e sound v deep least low)

  pub built_count : (n : ℕ) (xs : List ℕ) (f : ℕ) → n ≤ length ks → Built m s ks n xs f → Count m s (ledger_of ks n) f
  built_count zero xs f most built = subst (Count m s []) (sym built.free) (count_none m l s within)
  built_count (suc n) xs f most built =
      let old = built.0 in
      let g = built.1 in
      let step = built.3 in
      let k = nth_standing ks n in
      let e = equation_of k in
      let below : n ≤ length ks = omega arith in
      let v = m.level k.pivot.divisor in
      let fell =
      fall n old g below built.2 (built_count n old g below built.2) e k.pivot.number v step.sound
      step.pivots.formed.number (ap m.level (sym step.pivots.divisor)) (least m l s e old k.pivot step.pivots)
      (quotient_level m l _ _ _ step.pivots.formed.divisor step.shift)
      in
      subst₂ (Count m s) (sym (ledger_more ks n (omega arith))) (omega (arith, step.free, fell.0)) fell.1
