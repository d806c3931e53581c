-- The rows that standing ties built reach just the solutions of these ties, and what follows for one more tie.
use Rattle.std.proofs.Common.{◌≡◌, ℕ, zero, suc, ◌+◌, ◌-◌, ◌*◌, ◌/◌, ◌%◌, ◌<◌, ◌≤◌, Bool, true, false, cond, eqb, List, [], ◌∷◌, ◌++◌, map, length, get_or, take, sym, refl, ap, ◌∙◌, subst, ap₂, arith, take-suc, Some}
use Rattle.std.specs.List.{All}
use Rattle.std.proofs.lemmas.List.Elements.{All-nil, All-pop, All-push}
use Rattle.std.proofs.lemmas.List.{map_push, take_all}
use Rattle.scale.specs.Meaning.{Meaning, Laws, Code, digits, power}
use Rattle.scale.proofs.Codes.{reading_of}
use Rattle.scale.proofs.Coded.{Coded, codes, code, same_code}
use Rattle.scale.proofs.Ring.{Ring, zero_mul}
use Rattle.scale.proofs.Sums.{sum_none}
use Rattle.ties.specs.Layouts.{Shape, Within, Assignment, Assigns, counters_of, places}
use Rattle.ties.specs.Equations.{Contradictory, Equation, Meets, Solves, depth, value}
use Rattle.ties.specs.Faults.{Sound}
use Rattle.ties.proofs.Places.{place_counter}
use Rattle.multipliers.proofs.Trusted.{raise, right_code}
use Rattle.linear.proofs.Pivots.{insoluble, solutions}
use Rattle.linear.proofs.Raised.{flat, meets_exactly, raised_value, right_of, row_of}
use Rattle.linear.proofs.Rows.{Agree, On, dot, on_level, on_more, on_units}
use Rattle.linear.proofs.Valued.{codes_valued}
use Rattle.book.specs.declared.standing.Standing.{Standing}
use Rattle.book.specs.Rows.{Codes}
use Rattle.book.specs.Sheets.{Exact, generator_of, point_of}
use Rattle.book.specs.Standing.{Built, Fresh, Stepped, equation_of, nobody, nth_standing, raised, rest}
use Rattle.book.proofs.Coding.{
  coded,
  coded_generator,
  coded_is,
  dot_is,
  flat_row,
  on_sheet,
  point_is,
  rest_is,
  row_assigns,
  step_moved,
  step_pivoted,
  step_quotient,
  total_code,
}

-- the equations of the first n standing ties
abbrev pub ledger_of : List Standing → ℕ → List Equation
ledger_of ks n = map equation_of (take n ks)

pub ledger_all : (ks : List Standing) (n : ℕ) → n ≡ length ks → ledger_of ks n ≡ map equation_of ks
ledger_all ks n e = ap (map equation_of) (take_all n ks (omega arith))

pub ledger_more :
    (ks : List Standing) (n : ℕ)
    → n < length ks
    → ledger_of ks (suc n) ≡ ledger_of ks n ++ (equation_of (nth_standing ks n) ∷ [])
ledger_more ks n h =
    ap (map equation_of) (take-suc ks n nobody h) ∙ map_push equation_of (take n ks) (nth_standing ks n)

module _ (m : Meaning) (s : Shape) (ks : List Standing) where
  pub built_codes :
      (n : ℕ) (xs : List ℕ) (f : ℕ)
      → Built m s ks n xs f
      → Codes m xs × (length xs ≡ places s + places s * places s)
  built_codes zero xs f built = (built.codes, built.size)
  built_codes (suc n) xs f (old, g, before, step) = (step.codes, step.size)

  pub built_sound :
      (n : ℕ) (xs : List ℕ) (f : ℕ) → n ≤ length ks → Built m s ks n xs f → All (Sound m s) (ledger_of ks n)
  built_sound zero xs f most built = All-nil (Sound m s)
  built_sound (suc n) xs f most (old, g, before, step) =
      subst (All (Sound m s)) (sym (ledger_more ks n most))
      (All-push (Sound m s) (ledger_of ks n) (equation_of (nth_standing ks n))
      (built_sound n old g (omega arith) before) step.sound)

module _ (m : Meaning) (l : Laws m) (s : Shape) (within : Within m s) where
  abbrev R : Ring (Coded m)
  R = codes m l

  open R use {zero as none, one, add, mul, add_zero}

  fresh_exact : (xs : List ℕ) (f : ℕ) → Fresh m s xs f → Exact m s [] xs
  fresh_exact xs f fresh x gives = (
    λ met.
        (on_sheet m l s xs fresh.codes x gives).1
        (on_units R (places s) (coded m l xs 0) (flat m l s x) (coded_generator m l s xs)
        (λ j h. same_code m _ _ (point_is m l xs fresh.codes j ∙ fresh.origin j h))
        (λ i h j k.
        same_code m _ _
        (coded_is m l xs fresh.codes (places s + i * places s) j ∙ fresh.units i j h k ∙ either (eqb i j))
        )),
    λ on. All-nil _,
  )
    where
      either : (b : Bool) → cond b m.one 0 ≡ (cond b one none).0
      either true = refl
      either false = refl

  step_exact :
      (es : List Equation) (k : Standing) (old new : List ℕ) (g f : ℕ)
      → Codes m old
      → Stepped m s k old new g f
      → Exact m s es old
      → Exact m s (es ++ (equation_of k ∷ [])) new
  step_exact es k old new g f all step exact x gives =
      let e = equation_of k in
      let turn =
      solutions (codes_valued m l) (places s) (row_of m l s e) k.pivot.number (λ i. code m l (get_or k.pivot.quotients.items i 0))
      (coded_generator m l s old) (coded_generator m l s new) (step_pivoted m l s k old new g f all step)
      (coded m l old 0) (coded m l new 0) (flat m l s x) (right_of m l s e) (code m l k.shift)
      (step_quotient m l s k old new g f all step) (step_moved m l s k old new g f all step)
      in
      let meets = meets_exactly m l s e step.sound x gives within in
      let before = on_sheet m l s old all x gives in
      let after = on_sheet m l s new step.codes x gives in (
        λ met.
            let parts = All-pop (λ e. Meets m s e x) _ es (Some e) refl met in
            after.1 (turn.0 (before.0 ((exact x gives).0 parts.0), meets.0 parts.1)),
        λ on.
            let both = turn.1 (after.0 on) in
            All-push (λ e. Meets m s e x) es e ((exact x gives).1 (before.1 both.0)) (meets.1 both.1),
      )

  module _ (ks : List Standing) where
    pub built_exact :
        (n : ℕ) (xs : List ℕ) (f : ℕ) → n ≤ length ks → Built m s ks n xs f → Exact m s (ledger_of ks n) xs
    built_exact zero xs f most built = fresh_exact xs f built
    built_exact (suc n) xs f most (old, g, before, step) =
        subst (λ es. Exact m s es xs) (sym (ledger_more ks n most))
        (step_exact (ledger_of ks n) (nth_standing ks n) old xs g f (built_codes m s ks n old g before).0 step
        (built_exact n old g (omega arith) before))

    module _ (n : ℕ) (xs : List ℕ) (f : ℕ) (most : n ≤ length ks) (built : Built m s ks n xs f) where
      abbrev all : Codes m xs
      all = (built_codes m s ks n xs f built).0

      -- the solutions are those that the rows reach
      abbrev Reached : Assignment → Type 0
      Reached x = On R (places s) (coded m l xs 0) (coded_generator m l s xs) (flat m l s x)

      reached : (x : Assignment) → Solves m s (ledger_of ks n) x → Reached x
      reached x solves =
          (on_sheet m l s xs all x solves.0).0 ((built_exact n xs f most built x solves.0).0 solves.1)

      solved : (x : Assignment) → Assigns m s x → Reached x → Solves m s (ledger_of ks n) x
      solved x gives on =
          (gives, (built_exact n xs f most built x gives).1 ((on_sheet m l s xs all x gives).1 on))

      -- the point solves the standing ties
      pub point_solves : Solves m s (ledger_of ks n) (point_of s xs)
      point_solves =
          solved (point_of s xs) (row_assigns m l s xs all 0) (
            λ i. none,
            λ j h.
                flat_row m l s xs 0 j h
                ∙ sym (ap (add (coded m l xs 0 j)) (sum_none R (places s) _ (λ i k. zero_mul R _))
                ∙ add_zero (coded m l xs 0 j)),
          )

      -- so does a solution moved along a generator
      pub slides :
          (p : ℕ)
          → p < places s
          → (x : Assignment) (t : ℕ)
          → Code m t
          → Solves m s (ledger_of ks n) x
          → Solves m s (ledger_of ks n) (λ h c. m.sum (x h c) (m.product t (generator_of s xs p h c)))
      slides p below x t is solves =
          let y : Assignment = λ h c. m.sum (x h c) (m.product t (generator_of s xs p h c)) in
          let gives : Assigns m s y =
          λ h c has.
          l.sum_code _ _ (solves.0 h c has)
          (l.product_code t _ is (row_assigns m l s xs all (places s + p * places s) h c has))
          in
          let more =
          on_more R (places s) (coded m l xs 0) (flat m l s x) (coded_generator m l s xs) p (code m l t) below
          (reached x solves)
          in
          let same : Agree R (places s) (flat m l s y)
          (λ j. add (flat m l s x j) (mul (code m l t) (coded_generator m l s xs p j))) =
          λ j k.
          let h = j / counters_of s in
          let c = j % counters_of s in
          let has = (place_counter s j k).0 in
          same_code m _ _
          (reading_of m l (y h c) (gives h c has)
          ∙ ap₂ m.sum (sym (reading_of m l (x h c) (solves.0 h c has)))
          (ap₂ m.product (sym (reading_of m l t is))
          (sym (reading_of m l (generator_of s xs p h c) (row_assigns m l s xs all _ h c has))
          ∙ ap (λ z. z.0) (flat_row m l s xs (places s + p * places s) j k))))
          in
          solved y gives (more.0, λ j k. same j k ∙ more.1 j k)

      module _ (e : Equation) (sound : Sound m s e) where
        product_is :
            (i : ℕ)
            → m.level (dot R (places s) (row_of m l s e) (coded_generator m l s xs i)).0
            ≡ m.level (raised m s e (generator_of s xs i))
        product_is i = ap m.level (dot_is m l s e sound xs all (places s + i * places s))

        -- a tie whose rest has a lower level than all its raised products is contradictory
        pub refused :
            (p : ℕ)
            → ((i : ℕ)
            → i < places s
            → m.level (raised m s e (generator_of s xs p)) ≤ m.level (raised m s e (generator_of s xs i)))
            → m.level (rest m s e xs) < m.level (raised m s e (generator_of s xs p))
            → Contradictory m s (ledger_of ks n ++ (e ∷ []))
        refused p least low x solves =
            let parts = All-pop (λ e. Meets m s e x) _ (ledger_of ks n) (Some e) refl solves.1 in
            let own = product_is p in
            insoluble (codes_valued m l) (places s) (row_of m l s e) (coded m l xs 0) (flat m l s x)
            (coded_generator m l s xs) p (right_of m l s e)
            (λ i h. let other = product_is i in let k = least i h in omega arith)
            (let start = ap m.level (rest_is m l s e sound xs all) in omega arith)
            (reached x (solves.0, parts.0))
            ((meets_exactly m l s e sound x solves.0 within).0 parts.1)

        -- at a solution the raised value has no lower level than the products and the rest
        pub values_level :
            (v : ℕ)
            → v ≤ digits m
            → ((i : ℕ) → i < places s → v ≤ m.level (raised m s e (generator_of s xs i)))
            → v ≤ m.level (rest m s e xs)
            → (x : Assignment)
            → Solves m s (ledger_of ks n) x
            → v ≤ m.level (m.product (power m (digits m - depth s e)) (value m e x))
        values_level v most each start x solves =
            let is_code : Code m (value m e x) =
            l.sum_code _ _ (total_code m l s e sound x solves.0)
            (l.negative_code e.right (right_code m l s e sound))
            in
            let low =
            on_level (codes_valued m l) v (places s) (row_of m l s e) (coded m l xs 0) (flat m l s x)
            (coded_generator m l s xs) (right_of m l s e) most
            (λ i h. let own = product_is i in let k = each i h in omega arith)
            (let first = ap m.level (rest_is m l s e sound xs all) in omega arith)
            (reached x solves)
            in
            subst (λ (z : ℕ). v ≤ m.level z)
            (ap (λ z. z.0) (raised_value m l s e sound x solves.0)
            ∙ ap (m.product (raise m l s e).0) (reading_of m l (value m e x) is_code))
            low
