-- How many assignments solve equations: all of them without equations, and how one more equation lessens their number.
use Rattle.std.proofs.Common.{◌≡◌, ℕ, zero, suc, ◌+◌, ◌-◌, ◌*◌, ◌/◌, ◌%◌, ◌^◌, ◌<◌, ◌≤◌, Bool, true, cond, leb, List, [], ◌∷◌, ◌++◌, map, length, get_or, sum, Some, sym, refl, ap, ◌∙◌, subst, ap₂, mul-le-mul_right, suc-mul, mul-le-mul_left, one-mul, pow-suc, zero-mul, sub-add_cancel, mul-div_cancel, arith, pow-add, le-leb, leb-true}
use native.Mathlib.Decide.{dec_le}
use native.Mathlib.Nat.{pow-le-pow_right}
use Rattle.std.specs.List.{range_with_len, All}
use Rattle.std.proofs.lemmas.List.FromFn.{length-map-range_with_len, get_or-map-range_with_len}
use Rattle.std.proofs.lemmas.List.Elements.{All-nil, All-push, All-pop}
use Rattle.std.proofs.lemmas.List.Sums.{sum_by-cons}
use Rattle.scale.specs.Meaning.{Meaning, Laws, Code, Quotient, base, digits, power, reaching, size}
use Rattle.scale.proofs.Codes.{power_code, power_pos, zero_code}
use Rattle.scale.proofs.Levels.{power_level, raised_level, raised_zero}
use Rattle.ties.specs.Layouts.{Shape, Within, Has, Assignment, Assigns, Same, less, width_of, counters_of}
use Rattle.ties.specs.Equations.{Equation, Count, Meets, Solves, depth, nth, total, value}
use Rattle.ties.specs.Faults.{Sound}
use Rattle.linear.proofs.Moves.{less_code, less_none, product_away, product_less}
use Rattle.linear.proofs.Moves.{slid, slid_back, slid_less, same_turn, same_join}
use Rattle.linear.proofs.Moves.{raised, raised_code, raised_meets, raised_same, raised_slid, slope, slope_code}
use Rattle.linear.proofs.Systems.{System, Alike, Equal, Row, added, passing}
use Rattle.linear.proofs.Systems.{choose, grid, part, restated, rows, same_size, tested}

-- a power of a base that has another power as a factor
power_share : (q F k d : ℕ) → 2 ≤ q → q ^ F ≡ k * q ^ d → (d ≤ F) × (k ≡ q ^ (F - d))
power_share q F zero d h e = absurd (omega (arith, power_pos q F h, zero-mul (q ^ d)))
power_share q F (suc k) d h e =
    let whole : q ^ (F - d) * q ^ d ≡ q ^ F =
    sym (pow-add q (F - d) d) ∙ ap (λ (i : ℕ). q ^ i) (sub-add_cancel low)
    in (
      low,
      sym (mul-div_cancel (suc k) (power_pos q d h))
          ∙ ap (λ (x : ℕ). x / q ^ d) (sym e ∙ sym whole)
          ∙ mul-div_cancel (q ^ (F - d)) (power_pos q d h),
    )
  where
    below : F < d → ⊥
    below less =
        let grows : q ^ suc F ≤ q ^ d = pow-le-pow_right (omega arith) less in
        let times = mul-le-mul_left (q ^ F) h in
        let once : 1 * q ^ d ≤ suc k * q ^ d = mul-le-mul_right (q ^ d) (omega arith) in
        omega (arith, pow-suc q F, power_pos q F h, one-mul (q ^ d))

    low : d ≤ F
    low = let no = below in omega arith

-- counts are systems
module _ (m : Meaning) (s : Shape) (es : List Equation) (f : ℕ) where
  count_system : (c : Count m s es f) → System (Same m s) (Solves m s es) (base m ^ f) (nth c.list)
  count_system c =
      subst (λ (n : ℕ). System (Same m s) (Solves m s es) n (nth c.list)) c.number
      (record { member = c.solve; different = c.different; complete = c.complete })

  system_count : (at : ℕ → Assignment) → System (Same m s) (Solves m s es) (base m ^ f) at → Count m s es f
  system_count at a =
      let n = base m ^ f in
      let long = length-map-range_with_len at 0 n in
      let is : (i : ℕ) → i < n → nth (map at (range_with_len 0 n)) i ≡ at i =
      λ i h. get_or-map-range_with_len at 0 n i i (λ h c. 0) h (omega arith)
      in
      record {
        list = map at (range_with_len 0 n);
        number = long;
        solve = λ i h. let k : i < n = omega arith in subst (Solves m s es) (sym (is i k)) (a.member i k);
        different =
            λ i j h k same.
            let hi : i < n = omega arith in
            let hj : j < n = omega arith in
            a.different i j hi hj
            (subst (λ (x : Assignment). Same m s x (at j)) (is i hi)
            (subst (λ (y : Assignment). Same m s (nth (map at (range_with_len 0 n)) i) y) (is j hj) same));
        complete =
            λ x p.
            let c = a.complete x p in
            (c.0, omega (arith, c.1), subst (λ (y : Assignment). Same m s x y) (sym (is c.0 c.1)) c.2);
      }

-- the codes of a level or more
abbrev Reaches : Meaning → ℕ → ℕ → Type 0
Reaches m v a = Code m a × (v ≤ m.level a)

leveled :
    (m : Meaning) (l : Laws m) (v : ℕ)
    → v ≤ digits m
    → (at : ℕ → ℕ) × System Equal (Reaches m v) (base m ^ (digits m - v)) at
leveled m l v h =
    let t : ℕ → Bool = λ a. leb v (m.level a) in
    let all = tested t (size m) in
    let reach = restated Equal Equal (λ a. Code m a × (t a ≡ true)) (Reaches m v) (passing t (size m)) all.0
    (λ a b e. e)
    (λ a b e. e)
    (λ a p. (p.0, leb-true v (m.level a) p.1))
    (λ a p. (p.0, le-leb v (m.level a) p.1))
    all.1
    in
    (all.0, subst (λ (n : ℕ). System Equal (Reaches m v) n all.0) (number (size m) ∙ l.level_count v h) reach)
  where
    number : (n : ℕ) → passing (λ a. leb v (m.level a)) n ≡ reaching m.level v n
    number zero = refl
    number (suc n) = ap (λ (k : ℕ). cond (leb v (m.level n)) 1 0 + k) (number n)

module _ (m : Meaning) (l : Laws m) (s : Shape) (within : Within m s) (es : List Equation) (e : Equation) (F v : ℕ)
    (u : Assignment) (sound : Sound m s e) (gives : Assigns m s u) (count : Count m s es F)
    (keeps : (x : Assignment) (t : ℕ) → Code m t → Solves m s es x → Solves m s es (slid m x t u))
    (steep : m.level (m.product (power m (digits m - depth s e)) (total m e.terms u)) ≡ v)
    (above :
    (x : Assignment)
    → Solves m s es x
    → v ≤ m.level (m.product (power m (digits m - depth s e)) (value m e x)))
  where
    abbrev δ : ℕ
    δ = slope m s e u

    abbrev φ : Assignment → ℕ
    φ = raised m s e

    δ_code : Code m δ
    δ_code = slope_code m l s within e sound u gives

    small : v ≤ digits m
    small = let h = l.level_most δ δ_code in omega arith

    -- those that solve es and meet e, and the number of codes of level v or more
    abbrev Both : Assignment → Type 0
    Both x = Solves m s es x × Meets m s e x

    abbrev reached : ℕ
    reached = base m ^ (digits m - v)

    φ_zero : (x : Assignment) → Both x → φ x ≡ 0
    φ_zero x p = (raised_meets m l s within e sound x p.0.0).1 p.1

    φ_slid : (x : Assignment) (t : ℕ) → Assigns m s x → Code m t → φ (slid m x t u) ≡ m.sum (φ x) (m.product t δ)
    φ_slid x t ax ht = raised_slid m l s within e sound x u t ax gives ht

    -- those that meet e too, each moved by each of the quotients, are all that solve es
    moved :
        (k : ℕ) (at : ℕ → Assignment) (levels t : ℕ → ℕ)
        → System (Same m s) Both k at
        → System Equal (Reaches m v) reached levels
        → ((i : ℕ) → i < reached → Quotient m (levels i) δ (t i))
        → System (Same m s) (Solves m s es) (k * reached) (λ n. slid m (at (n / reached)) (t (n % reached)) u)
    moved k at levels t a c quotients =
        grid (Same m s) (Solves m s es) k reached (λ i j. slid m (at i) (t j) u) member different complete
      where
        t_level : (j : ℕ) → j < reached → m.product (t j) δ ≡ levels j
        t_level j h = l.product_comm (t j) δ (quotients j h).0 δ_code ∙ (quotients j h).1

        member : (i j : ℕ) → i < k → j < reached → Solves m s es (slid m (at i) (t j) u)
        member i j hi hj = keeps (at i) (t j) (quotients j hj).0 (a.member i hi).0

        φ_is : (i j : ℕ) → i < k → j < reached → φ (slid m (at i) (t j) u) ≡ levels j
        φ_is i j hi hj =
            φ_slid (at i) (t j) (a.member i hi).0.0 (quotients j hj).0
            ∙ ap₂ m.sum (φ_zero (at i) (a.member i hi)) (t_level j hj)
            ∙ l.sum_comm 0 (levels j) (zero_code m l) (c.member j hj).0
            ∙ l.sum_zero (levels j) (c.member j hj).0

        -- two that are moved alike
        unmoved :
            (x y : Assignment) (j h d : ℕ)
            → Assigns m s x
            → Assigns m s y
            → j < reached
            → Has s h d
            → less m (slid m x (t j) u h d) (slid m y (t j) u h d) ≡ less m (x h d) (y h d)
        unmoved x y j h d ax ay hj has =
            slid_less m l x y u (t j) h d (ax h d has) (ay h d has) (gives h d has) (quotients j hj).0

        different :
            (i j g h : ℕ)
            → i < k
            → j < reached
            → g < k
            → h < reached
            → Same m s (slid m (at i) (t j) u) (slid m (at g) (t h) u)
            → (i ≡ g) × (j ≡ h)
        different i j g h hi hj hg hh same =
            let level : j ≡ h =
            c.different j h hj hh
            (sym (φ_is i j hi hj)
            ∙ raised_same m l s within e sound _ _ (member i j hi hj).0 (member g h hg hh).0 same
            ∙ φ_is g h hg hh)
            in
            let alike : Same m s (slid m (at i) (t j) u) (slid m (at g) (t j) u) =
            subst (λ (b : ℕ). Same m s (slid m (at i) (t j) u) (slid m (at g) (t b) u)) (sym level) same
            in (
              a.different i g hi hg
                  (λ y d has.
                  subst (λ (z : ℕ). width_of s d ≤ m.level z)
                  (unmoved (at i) (at g) j y d (a.member i hi).0.0 (a.member g hg).0.0 hj has)
                  (alike y d has)),
              level,
            )

        complete :
            (x : Assignment)
            → Solves m s es x
            → (i j : ℕ) × (i < k) × (j < reached) × Same m s x (slid m (at i) (t j) u)
        complete x p =
            let φ_code = raised_code m l s within e sound x p.0 in
            let level = c.complete (φ x) (φ_code, above x p) in
            let j = level.0 in
            let hj = level.1 in
            let tj = (quotients j hj).0 in
            let back = slid m x (m.negative (t j)) u in
            let solves : Solves m s es back = keeps x (m.negative (t j)) (l.negative_code (t j) tj) p in
            let none : φ back ≡ 0 =
            φ_slid x (m.negative (t j)) p.0 (l.negative_code (t j) tj)
            ∙ ap (λ (z : ℕ). m.sum z (m.product (m.negative (t j)) δ)) (level.2 ∙ sym (t_level j hj))
            ∙ product_away m l (t j) δ tj δ_code
            in
            let one = a.complete back (solves, (raised_meets m l s within e sound back solves.0).0 none) in
            let i = one.0 in
            let ai = (a.member i one.1).0.0 in (
              i,
              j,
              one.1,
              hj,
              λ h d has.
                  subst (λ (z : ℕ). width_of s d ≤ m.level (less m z (slid m (at i) (t j) u h d)))
                  (slid_back m l x u (t j) h d (p.0 h d has) (gives h d has) tj)
                  (subst (λ (z : ℕ). width_of s d ≤ m.level z) (sym (unmoved back (at i) j h d solves.0 ai hj has))
                  (one.2 h d has)),
            )

    pub count_more : (digits m - v ≤ F) × Count m s (es ++ (e ∷ [])) (F - (digits m - v))
    count_more =
        let all = count_system m s es F count in
        let some = part (Same m s) (Solves m s es) (Meets m s e) (base m ^ F) (nth count.list) all
        (λ x. dec_le (depth s e) (m.level (value m e x)))
        (λ x y p q same meets.
        (raised_meets m l s within e sound y q.0).0
        (sym (raised_same m l s within e sound x y p.0 q.0 same)
        ∙ (raised_meets m l s within e sound x p.0).1 meets))
        in
        let k = some.0 in
        let at = some.1 in
        let levels = leveled m l v small in
        let t = choose 0 reached (λ i a. Quotient m (levels.0 i) δ a)
        (λ i h.
        let c = levels.1.member i h in
        l.quotient (levels.0 i) δ c.0 δ_code (omega (arith, c.1)))
        in
        let numbers : base m ^ F ≡ k * reached =
        same_size (Same m s) (Solves m s es)
        (λ x y p q. same_turn m l s x y p.0 q.0)
        (λ x y z p q r. same_join m l s x y z p.0 q.0 r.0)
        (base m ^ F) (k * reached) _ _ all
        (moved k at levels.0 t.0 some.2 levels.1 t.1)
        in
        let share = power_share (base m) F k (digits m - v) l.base_least numbers in (
          share.0,
          system_count m s (es ++ (e ∷ [])) (F - (digits m - v)) at
              (subst (λ (n : ℕ). System (Same m s) (Solves m s (es ++ (e ∷ []))) n at) share.1
              (restated (Same m s) (Same m s) Both (Solves m s (es ++ (e ∷ []))) k at (λ x y h. h) (λ x y h. h)
              (λ x p. (p.0.0, All-push (λ d. Meets m s d x) es e p.0.1 p.1))
              (λ x p. let parts = last_of (λ d. Meets m s d x) es p.1 in ((p.0, parts.0), parts.1))
              some.2)),
        )
      where
        last_of : (P : Equation → Type 0) (ds : List Equation) → All P (ds ++ (e ∷ [])) → All P ds × P e
        last_of P ds h = All-pop P (ds ++ (e ∷ [])) ds (Some e) refl h

module _ (m : Meaning) (l : Laws m) where
  -- the codes of one counter of width w
  abbrev Near : ℕ → ℕ → ℕ → Type 0
  Near w a b = w ≤ m.level (less m a b)

  near_codes : (w : ℕ) → w ≤ digits m → (at : ℕ → ℕ) × System (Near w) (Code m) (base m ^ w) at
  near_codes w h =
      let levels = leveled m l (digits m - w) (omega arith) in
      let n = base m ^ (digits m - (digits m - w)) in
      let t = choose 0 n (λ i a. Quotient m (levels.0 i) raise a)
      (λ i k.
      let c = levels.1.member i k in
      l.quotient (levels.0 i) raise c.0 (power_code m l (digits m - w))
      (omega (arith, c.1, power_level m l (digits m - w))))
      in (
        t.0,
        subst (λ (d : ℕ). System (Near w) (Code m) (base m ^ d) t.0) (omega arith)
            (record {
              member = λ i k. (t.1 i k).0;
              different =
                  λ i j hi hj same.
                  levels.1.different i j hi hj
                  (sym (t.1 i hi).1 ∙ near (t.0 i) (t.0 j) (t.1 i hi).0 (t.1 j hj).0 same ∙ (t.1 j hj).1);
              complete =
                  λ a ha.
                  let low = raised_level m l a w ha h in
                  let ra = l.product_code raise a raise_code ha in
                  let c = levels.1.complete (m.product raise a) (ra, omega arith) in
                  let tc = t.1 c.0 c.1 in
                  (c.0, c.1, far a (t.0 c.0) ha tc.0 (c.2 ∙ sym tc.1));
            }),
      )
    where
      raise : ℕ
      raise = power m (digits m - w)

      raise_code : Code m raise
      raise_code = power_code m l (digits m - w)

      near : (a b : ℕ) → Code m a → Code m b → Near w a b → m.product raise a ≡ m.product raise b
      near a b ha hb same =
          less_none m l (m.product raise a) (m.product raise b) (l.product_code raise a raise_code ha)
          (l.product_code raise b raise_code hb)
          (sym (product_less m l raise a b raise_code ha hb)
          ∙ (raised_zero m l (less m a b) w (less_code m l a b ha hb) h).1 same)

      far : (a b : ℕ) → Code m a → Code m b → m.product raise a ≡ m.product raise b → Near w a b
      far a b ha hb e =
          (raised_zero m l (less m a b) w (less_code m l a b ha hb) h).0
          (product_less m l raise a b raise_code ha hb
          ∙ ap (λ (z : ℕ). less m z (m.product raise b)) e
          ∙ l.sum_negative (m.product raise b) (l.product_code raise b raise_code hb))

  -- without equations, all the assignments count
  pub count_none : (s : Shape) → Within m s → Count m s [] (s.heads * sum s.widths)
  count_none s within =
      let K = counters_of s in
      let q = base m in
      let near = λ (c : ℕ). Near (width_of s c) in
      let code = λ (c : ℕ). Code m in
      let one = choose (λ i. i) K (λ c at. System (near c) (Code m) (q ^ width_of s c) at)
      (λ c h. near_codes (width_of s c) (within c h).1)
      in
      let head = rows q K near code (width_of s) one.0 one.1 in
      let w = added K (width_of s) in
      let all = rows q s.heads (λ h. Alike K near) (λ h. Row K code) (λ h. w) (λ h. head.0) (λ h k. head.1) in
      system_count m s [] (s.heads * sum s.widths) all.0
      (subst (λ (n : ℕ). System (Same m s) (Solves m s []) (q ^ n) all.0)
      (added_same s.heads w ∙ ap (λ (n : ℕ). s.heads * n) (added_widths s.widths))
      (restated (Alike s.heads (λ h. Alike K near)) (Same m s) (Row s.heads (λ h. Row K code)) (Solves m s [])
      (q ^ added s.heads (λ h. w)) all.0
      (λ x y p h c has. p h has.0 c has.1)
      (λ x y p h k c j. p h c (k, j))
      (λ x p. (λ h c has. p h has.0 c has.1, All-nil _))
      (λ x p h k c j. p.0 h c (k, j))
      all.1))
    where
      added_same : (n w : ℕ) → added n (λ h. w) ≡ n * w
      added_same zero w = sym (zero-mul w)
      added_same (suc n) w = omega (arith, added_same n w, suc-mul n w)

      added_widths : (ws : List ℕ) → added (length ws) (λ c. get_or ws c 0) ≡ sum ws
      added_widths [] = refl
      added_widths (w ∷ ws) = ap (λ (n : ℕ). w + n) (added_widths ws) ∙ sym (sum_by-cons (λ n. n) w ws)
