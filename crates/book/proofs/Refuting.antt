-- How the multipliers are found that refute a tie together with the standing ties.
use Rattle.std.proofs.Common.{◌≡◌, ℕ, suc, ◌+◌, ◌-◌, ◌*◌, ◌/◌, ◌%◌, ◌<◌, ◌≤◌, Bool, true, false, cond, eqb, List, [], ◌∷◌, ◌++◌, map, length, get_or, set, sym, refl, ap, ◌∙◌, subst, ap₂, arith, length-append, get_or-set_other, get_or-set_same}
use lib.ListN.{length-map, get_or-append, get_or-map}
use lib.Seq.{get_or_at}
use Rattle.std.specs.List.{All}
use Rattle.std.proofs.lemmas.List.Elements.{All-get_or}
use Rattle.scale.specs.Meaning.{Meaning, Laws, Code, Quotient, digits, power, reading}
use Rattle.scale.proofs.Codes.{power_code, reading_of, zero_code}
use Rattle.scale.proofs.Coded.{Coded, codes, code, code_of, same_code, summed_sum}
use Rattle.scale.proofs.Ring.{Ring, add_cancel, mul_neg, mul_zero, zero_add}
use Rattle.scale.proofs.Sums.{ring_sum, sum_cong, sum_none}
use Rattle.ties.specs.Layouts.{Shape, Within, counters_of, less, places}
use Rattle.ties.specs.Equations.{Equation, Meets, Solves, depth, nth_equation}
use Rattle.ties.specs.Faults.{Sound}
use Rattle.ties.proofs.Places.{place_counter}
use Rattle.multipliers.specs.Refuting.{Refutes, factor_at}
use Rattle.multipliers.specs.Totals.{Shares}
use Rattle.multipliers.proofs.Trusted.{factor_row, nth_sound, raise, right_code, row as factors}
use Rattle.linear.proofs.Valued.{codes_valued, raiser_zero}
use Rattle.linear.proofs.Rows.{Agree, dot, dot_combo, dot_comm, dot_cong, units_only_zero}
use Rattle.linear.proofs.Pivots.{Pivoted, factor, mended, vanishing}
use Rattle.linear.proofs.Raised.{flat, meets_exactly, raised_total, refutes_rows, right_of, row_of}
use Rattle.book.specs.declared.standing.Standing.{Standing}
use Rattle.book.specs.Rows.{Codes}
use Rattle.book.specs.Turning.{Formed, generator}
use Rattle.book.specs.Sheets.{generator_of, point_of}
use Rattle.book.specs.Standing.{Built, Fresh, Stepped, equation_of, nth_standing, raised, rest}
use Rattle.book.specs.Evidence.{against}
use Rattle.book.proofs.Coding.{coded, dot_is, step_pivoted, total_code}
use Rattle.book.proofs.Exactness.{built_codes}

module _ (m : Meaning) (l : Laws m) (s : Shape) where
  abbrev R : Ring (Coded m)
  R = codes m l

  abbrev N : ℕ
  N = places s

  open R use {zero as none, one, add, neg, mul, add_assoc, add_comm, add_zero, add_neg, mul_add}

  -- a row to which a multiple of an equation is added
  grown :
      (e : Equation) (a : Coded m) (by : ℕ) (old new : List ℕ)
      → Sound m s e
      → by ≡ m.product a.0 (power m (digits m - depth s e))
      → Codes m old
      → Codes m new
      → Shares m s (λ h c. m.product by (factor_at m e.terms h c)) old new
      → Agree R N (coded m l new 0) (λ j. add (coded m l old 0 j) (mul a (row_of m l s e j)))
  grown e a by old new sound is old-are new-are shares j h =
      let F : ℕ = factor_at m e.terms (j / counters_of s) (j % counters_of s) in
      let F_code : Code m F =
      subst (λ (z : ℕ). Code m z) (sym (factor_row m l s e sound (j / counters_of s) (j % counters_of s)))
      (factors m l s e (j / counters_of s) (j % counters_of s)).1
      in
      let at = place_counter s j h in
      let here : get_or new j 0 ≡ m.sum (get_or old j 0) (m.product by F) =
      subst (λ (i : ℕ). get_or new i 0 ≡ m.sum (get_or old i 0) (m.product by F)) at.1
      (shares (j / counters_of s) (j % counters_of s) at.0)
      in
      let first : 0 + j ≡ j = omega arith in
      let P = raise m l s e in
      same_code m _ _
      (ap (λ i. reading m (get_or new i 0)) first
      ∙ reading_of m l (get_or new j 0) (new-are j)
      ∙ here
      ∙ ap₂ m.sum
      (sym (ap (λ i. reading m (get_or old i 0)) first ∙ reading_of m l (get_or old j 0) (old-are j)))
      (ap (λ z. m.product z F) is
      ∙ l.product_assoc a.0 P.0 F a.1 P.1 F_code
      ∙ ap (λ z. m.product a.0 (m.product P.0 z)) (sym (reading_of m l F F_code))))

  unit_code : (b : Bool) → code m l (cond b m.one 0) ≡ cond b one none
  unit_code true = code_of m l m.one l.one_code
  unit_code false = code_of m l 0 (zero_code m l)

  -- in an empty book only the zero row vanishes at all generators
  fresh_zero :
      (xs : List ℕ) (g : ℕ) (a : ℕ → Coded m)
      → Fresh m s xs g
      → ((i : ℕ) → i < N → dot R N a (coded m l xs (N + i * N)) ≡ none)
      → Agree R N a (λ j. none)
  fresh_zero xs g a fresh gone =
      units_only_zero R N a (λ i. coded m l xs (N + i * N))
      (λ i h j k. ap (code m l) (fresh.units i j h k) ∙ unit_code (eqb i j))
      gone

  module _ (ks : List Standing) (e : Equation) where
    abbrev n : ℕ
    n = length ks

    -- the standing ties' equations and the new one
    abbrev es : List Equation
    es = map equation_of ks ++ e ∷ []

    es_length : length es ≡ suc n
    es_length =
        let a = length-append (map equation_of ks) (e ∷ []) in
        let b = length-map ks equation_of in
        omega arith

    es_last : nth_equation es n ≡ e
    es_last = get_or_at (map equation_of ks) e [] _ n (length-map ks equation_of)

    es_before : (i : ℕ) → i < n → nth_equation es i ≡ nth_equation (map equation_of ks) i
    es_before i h =
        let b = length-map ks equation_of in
        get_or-append (map equation_of ks) (e ∷ []) _ i (omega arith)

    es_standing : (i : ℕ) → i < n → nth_equation es i ≡ equation_of (nth_standing ks i)
    es_standing i h = es_before i h ∙ get_or-map equation_of ks i _

    -- what equation i adds at place j
    abbrev part : List ℕ → ℕ → ℕ → Coded m
    part zs j i = mul (code m l (get_or zs i 0)) (row_of m l s (nth_equation es i) j)

    -- where the loop stands, with k ties left: r vanishes at the generators that these made, and it is the sum of the
    -- other equations, each times its multiplier
    pub record Refuting (k : ℕ) (ys r : List ℕ) : Type 0 where
      pub codes : Codes m r
      pub before :
          (xs : List ℕ)
          × (g : ℕ)
          × Built m s ks k xs g
          × ((i : ℕ) → i < N → dot R N (coded m l r 0) (coded m l xs (N + i * N)) ≡ none)
      pub gathered :
          (zs : List ℕ)
          → ((i : ℕ) → k ≤ i → i < suc n → get_or zs i 0 ≡ get_or ys i 0)
          → Agree R N (λ j. add (coded m l r 0 j) (ring_sum R k (part zs j))) (λ j. ring_sum R (suc n) (part zs j))

    -- a summand whose multiplier and equation are known
    part_is :
        (zs : List ℕ) (i j : ℕ) (a : Coded m) (t : Equation)
        → get_or zs i 0 ≡ a.0
        → nth_equation es i ≡ t
        → part zs j i ≡ mul a (row_of m l s t j)
    part_is zs i j a t number tie =
        ap₂ (λ y t. mul (code m l y) (row_of m l s t j)) number tie
        ∙ ap (λ y. mul y (row_of m l s t j)) (code_of m l a.0 a.1)

    -- before the loop, r is the new equation, raised so that it vanishes at all generators
    pub start :
        (xs : List ℕ) (f p v by : ℕ) (z ys r : List ℕ)
        → Built m s ks n xs f
        → Sound m s e
        → m.level (raised m s e (generator_of s xs p)) ≡ v
        → ((i : ℕ) → i < N → v ≤ m.level (raised m s e (generator_of s xs i)))
        → get_or ys n 0 ≡ power m (digits m - v)
        → by ≡ m.product (power m (digits m - v)) (power m (digits m - depth s e))
        → ((i : ℕ) → get_or z i 0 ≡ 0)
        → Codes m r
        → Shares m s (λ h c. m.product by (factor_at m e.terms h c)) z r
        → Refuting n ys r
    start xs f p v by z ys r built sound lowest least last is empty are shares =
        let a = row_of m l s e in
        let g : ℕ → ℕ → Coded m = λ i. coded m l xs (N + i * N) in
        let product : (i : ℕ) → m.level (dot R N a (g i)).0 ≡ m.level (raised m s e (generator_of s xs i)) =
        λ i. ap m.level (dot_is m l s e sound xs (built_codes m s ks n xs f built).0 (N + i * N))
        in
        let w : ℕ = m.level (dot R N a (g p)).0 in
        let same : v ≡ w = sym (product p ∙ lowest) in
        let top : Coded m = (power m (digits m - w), power_code m l (digits m - w)) in
        let row : Agree R N (coded m l r 0) (λ j. mul top (a j)) =
        λ j h.
        grown e top by z r sound (is ∙ ap (λ u. m.product (power m (digits m - u)) (raise m l s e).0) same)
        (λ i. subst (λ (c : ℕ). Code m c) (sym (empty i)) (zero_code m l))
        are shares j h
        ∙ ap (λ c. add c (mul top (a j))) (ap (code m l) (empty (0 + j)) ∙ code_of m l 0 (zero_code m l))
        ∙ zero_add R (mul top (a j))
        in
        record {
          codes = are;
          before = (
            xs,
            f,
            built,
            λ i h.
                dot_cong R N (coded m l r 0) (λ j. mul top (a j)) (g i) (g i) row (λ j k. refl)
                ∙ vanishing (codes_valued m l) N a g p
                (λ i h. let x = product i in let y = least i h in omega arith)
                i h,
          );
          gathered = λ zs agree j h.
              ap (λ c. add c (ring_sum R n (part zs j)))
              (row j h
              ∙ sym (part_is zs n j top e
              (agree n (omega arith) (omega arith) ∙ last ∙ ap (λ u. power m (digits m - u)) same)
              es_last))
              ∙ add_comm (part zs j n) (ring_sum R n (part zs j));
        }

    module _ (k : ℕ) (ys r : List ℕ) (so_far : Refuting (suc k) ys r) where
      -- the last tie that is left, its quotients, and the rows before and after its step
      abbrev tie : Standing
      tie = nth_standing ks k

      abbrev cs : ℕ → Coded m
      cs i = code m l (get_or tie.pivot.quotients.items i 0)

      abbrev old : List ℕ
      old = so_far.before.2.0

      abbrev olds : ℕ → ℕ → Coded m
      olds i = coded m l old (N + i * N)

      abbrev news : ℕ → ℕ → Coded m
      news i = coded m l so_far.before.0 (N + i * N)

      abbrev a : ℕ → Coded m
      a = row_of m l s (equation_of tie)

      old_codes : Codes m old
      old_codes = (built_codes m s ks k old so_far.before.2.1 so_far.before.2.2).0

      abbrev stepped : Stepped m s tie old so_far.before.0 so_far.before.2.1 so_far.before.1
      stepped = so_far.before.2.3

      turn : Pivoted (codes_valued m l) N a tie.pivot.number cs olds news
      turn = step_pivoted m l s tie old _ _ _ old_codes stepped

      divisor_is : (dot R N a (olds tie.pivot.number)).0 ≡ tie.pivot.divisor
      divisor_is =
          dot_is m l s (equation_of tie) stepped.sound old old_codes (N + tie.pivot.number * N) ∙ sym stepped.pivots.divisor

      against_is : against m s r tie.pivot ≡ (dot R N (coded m l r 0) (olds tie.pivot.number)).0
      against_is =
          summed_sum m l N _ _
          (λ j h.
          let first : j ≡ 0 + j = omega arith in
          ap₂ m.product
          (sym (reading_of m l (get_or r j 0) (so_far.codes j)) ∙ ap (λ i. reading m (get_or r i 0)) first)
          (stepped.pivots.row j h
          ∙ sym (reading_of m l (generator N old tie.pivot.number j) (old_codes (N + tie.pivot.number * N + j))))
          )

      pub settles : Sound m s (equation_of (nth_standing ks k)) × Formed m N (nth_standing ks k).pivot
      settles = (stepped.sound, stepped.pivots.formed)

      pub has_quotient : m.level (nth_standing ks k).pivot.divisor ≤ m.level (against m s r (nth_standing ks k).pivot)
      has_quotient =
          let low =
          factor (codes_valued m l) N a tie.pivot.number cs olds news turn (coded m l r 0) so_far.before.3
          in
          rw (against_is, ← divisor_is) low

      pub step :
          (q by : ℕ) (r' : List ℕ)
          → k < n
          → k < length ys
          → Quotient m (against m s r (nth_standing ks k).pivot) (nth_standing ks k).pivot.divisor q
          → by ≡ m.product (m.negative q) (power m (digits m - depth s (equation_of (nth_standing ks k))))
          → Codes m r'
          → Shares m s (λ h c. m.product by (factor_at m (equation_of (nth_standing ks k)).terms h c)) r r'
          → Refuting k (set ys k (m.negative q)) r'
      step q by r' below room quotient is are shares =
          let c : Coded m = (q, quotient.0) in
          let row : Agree R N (coded m l r' 0) (λ j. add (coded m l r 0 j) (mul (neg c) (a j))) =
          grown (equation_of tie) (neg c) by r r' stepped.sound is so_far.codes are shares
          in
          record {
            codes = are;
            before = (
              old,
              so_far.before.2.1,
              so_far.before.2.2,
              λ i h.
                  dot_cong R N (coded m l r' 0) (λ j. add (coded m l r 0 j) (mul (neg c) (a j))) (olds i) (olds i) row
                  (λ j k. refl)
                  ∙ mended (codes_valued m l) N a tie.pivot.number cs olds news turn (coded m l r 0) so_far.before.3 c
                  (same_code m _ _ (ap (λ d. m.product d q) divisor_is ∙ quotient.1 ∙ against_is))
                  i h,
            );
            gathered = λ zs agree j h.
                let sum = ring_sum R k (part zs j) in
                let own = mul (neg c) (a j) in
                ap (λ c. add c sum) (row j h)
                ∙ add_assoc (coded m l r 0 j) own sum
                ∙ ap (add (coded m l r 0 j))
                (add_comm own sum
                ∙ ap (add sum)
                (sym (part_is zs k j (neg c) (equation_of tie)
                (agree k (omega arith) (omega arith) ∙ get_or-set_same ys k (m.negative q) 0 room)
                (es_standing k below))))
                ∙ so_far.gathered zs
                (λ i low high.
                agree i (omega arith) high ∙ get_or-set_other ys k i (m.negative q) 0 (λ d. omega arith)
                )
                j h;
          }

    -- after the loop
    module _ (xs ys r : List ℕ)
        (within : Within m s)
        (sounds : All (Sound m s) es)
        (solves : Solves m s (map equation_of ks) (point_of s xs))
        (ended : Refuting 0 ys r)
      where
        abbrev nth : ℕ → Equation
        nth = nth_equation es

        abbrev y : ℕ → Coded m
        y i = code m l (get_or ys i 0)

        abbrev right : ℕ → Coded m
        right i = right_of m l s (nth i)

        -- equation i at the point
        abbrev X : ℕ → Coded m
        X = flat m l s (point_of s xs)

        abbrev value : ℕ → Coded m
        value i = dot R N (row_of m l s (nth i)) X

        sound_at : (i : ℕ) → i < suc n → Sound m s (nth i)
        sound_at i h = nth_sound m l s es ys sounds i (let k = es_length in omega arith)

        rows_none : (j : ℕ) → j < N → ring_sum R (suc n) (part ys j) ≡ none
        rows_none j h =
            sym (ended.gathered ys (λ i low high. refl) j h)
            ∙ add_zero (coded m l r 0 j)
            ∙ fresh_zero ended.before.0 ended.before.1 (coded m l r 0) ended.before.2 ended.before.3 j h

        values_none : ring_sum R (suc n) (λ i. mul (y i) (value i)) ≡ none
        values_none =
            sum_cong R (suc n) _ _ (λ i h. ap (mul (y i)) (dot_comm R N (row_of m l s (nth i)) X))
            ∙ sym (dot_combo R N (suc n) X y (λ i. row_of m l s (nth i)))
            ∙ sum_none R N _ (λ j h. ap (mul (X j)) (rows_none j h) ∙ mul_zero R (X j))

        met : (i : ℕ) → i < n → value i ≡ right i
        met i h =
            (meets_exactly m l s (nth i) (sound_at i (omega arith)) (point_of s xs) solves.0 within).0
            (subst (λ t. Meets m s t (point_of s xs)) (sym (es_before i h))
            (All-get_or (λ t. Meets m s t (point_of s xs)) (map equation_of ks) i _
            (let k = length-map ks equation_of in omega arith) solves.1))

        rest_is : (add (right n) (neg (value n))).0 ≡ rest m s (nth n) xs
        rest_is =
            let sound = sound_at n (omega arith) in
            ap₂ (less m)
            (ap (m.product (raise m l s (nth n)).0) (reading_of m l (nth n).right (right_code m l s (nth n) sound)))
            (ap (λ c. c.0) (raised_total m l s (nth n) sound (point_of s xs) solves.0)
            ∙ ap (m.product (raise m l s (nth n)).0)
            (reading_of m l _ (total_code m l s (nth n) sound (point_of s xs) solves.0)))

        -- if the total of the right sides is 0, the last multiplier makes 0 of what is missing at the point
        last_none : ring_sum R (suc n) (λ i. mul (y i) (right i)) ≡ none → mul (y n) (add (right n) (neg (value n))) ≡ none
        last_none gone =
            let same : mul (y n) (right n) ≡ mul (y n) (value n) =
            add_cancel R (ring_sum R n (λ i. mul (y i) (value i))) _ _
            (ap (λ c. add c (mul (y n) (right n))) (sum_cong R n _ _ (λ i h. ap (mul (y i)) (met i h)))
            ∙ gone
            ∙ sym values_none)
            in
            mul_add (y n) (right n) (neg (value n))
            ∙ ap₂ add same (mul_neg R (y n) (value n))
            ∙ add_neg (mul (y n) (value n))

        pub done :
            (v : ℕ)
            → get_or ys n 0 ≡ power m (digits m - v)
            → m.level (rest m s e xs) < v
            → v ≤ digits m
            → Refutes m s es ys
        done v last misses most =
            let raised_last : y n ≡ (codes_valued m l).raiser (digits m - v) =
            ap (code m l) last ∙ code_of m l (power m (digits m - v)) (power_code m l (digits m - v))
            in
            let rest_level : m.level (add (right n) (neg (value n))).0 ≡ m.level (rest m s e xs) =
            ap m.level (rest_is ∙ ap (λ t. rest m s t xs) es_last)
            in
            refutes_rows m l s es ys sounds
            (λ j h. ap (λ k. ring_sum R k (part ys j)) es_length ∙ rows_none j h)
            (λ gone.
            let high =
            (raiser_zero (codes_valued m l) (add (right n) (neg (value n))) v most).0
            (ap (λ c. mul c (add (right n) (neg (value n)))) (sym raised_last)
            ∙ last_none (ap (λ k. ring_sum R k (λ i. mul (y i) (right i))) (sym es_length) ∙ gone))
            in
            omega arith
            )
