-- Where the rows of a table lie: the point at 0, generator i at n + i * n.
use Rattle.std.proofs.Common.{◌≡◌, ℕ, zero, suc, ◌+◌, ◌*◌, ◌<◌, ◌≤◌, ◌⊎◌, List, length, get_or, take, drop, refl, ap, ◌∙◌, ap₂, inl, inr, le_refl, suc-mul, mul-le-mul, mul-one, mul-add, arith}
use Rattle.std.proofs.lemmas.Bool.{cases_lt}
use Rattle.std.proofs.lemmas.List.{get_or-drop, get_or-take, places as sizes}
use Rattle.scale.specs.Meaning.{Meaning, Laws, Code, summed}
use Rattle.scale.proofs.Codes.{zero_code}
use Rattle.scale.proofs.Levels.{product_zero}
use Rattle.ties.specs.declared.tie.Term.{Term}
use Rattle.ties.specs.Equations.{term_at, total}
use Rattle.ties.specs.Faults.{Exists, Passes}
use Rattle.ties.specs.Layouts.{Shape, place, places}
use Rattle.ties.proofs.Places.{place_below}
use Rattle.book.specs.Rows.{row_at, row_of}

before : (n i p : ℕ) → i < p → i * n + n ≤ p * n
before n i p h =
    let k : suc i * n ≤ p * n = mul-le-mul h (le_refl n) in
    let e = suc-mul i n in
    omega arith

-- the rows are as many numbers as a sheet has
pub rows_size : (n : ℕ) → n + n * n ≡ n * (n + 1)
rows_size n = omega (arith, mul-add n n 1, mul-one n)

pub row_inside : (n i : ℕ) → i < n → n + i * n + n ≤ n + n * n
row_inside n i h = let k = before n i n h in omega arith

-- number j of another row lies outside a row
pub spot_apart :
    (n i p j : ℕ) → j < n → (i ≡ p → ⊥) → (n + i * n + j < n + p * n) ⊎ (n + p * n + n ≤ n + i * n + j)
spot_apart n i p j h d =
    elim (cases_lt i p) [
      | inl low ↦ inl (omega (arith, before n i p low))
      | inr high ↦ inr (omega (arith, before n p i (omega arith)))
    ]

pub point_apart : (n p j : ℕ) → j < n → (j < n + p * n) ⊎ (n + p * n + n ≤ j)
point_apart n p j h = inl (omega arith)

pub summed_cong : (m : Meaning) (n : ℕ) (f g : ℕ → ℕ) → ((i : ℕ) → i < n → f i ≡ g i) → summed m n f ≡ summed m n g
summed_cong m zero f g h = refl
summed_cong m (suc n) f g h = ap₂ m.sum (summed_cong m n f g (λ i k. h i (omega arith))) (h n (omega arith))

-- a row that is cut out of a list of rows: at and k are its place and its length, as the code has them
pub cut_at :
    (xs : List ℕ) (from at k j : ℕ) → at ≡ from → j < k → get_or (take k (drop at xs)) j 0 ≡ get_or xs (from + j) 0
cut_at xs from at k j there h =
    get_or-take k (drop at xs) j 0 h ∙ get_or-drop at xs j 0 ∙ ap (λ a. get_or xs (a + j) 0) there

pub cut_long :
    (xs : List ℕ) (from at k n : ℕ) → at ≡ from → k ≡ n → from + n ≤ length xs → length (take k (drop at xs)) ≡ n
cut_long xs from at k n there same inside = grind (arith, sizes)

-- zeros add up to 0
pub summed_none :
    (m : Meaning) (l : Laws m) (n : ℕ) (f : ℕ → ℕ) → ((i : ℕ) → i < n → f i ≡ 0) → summed m n f ≡ 0
summed_none m l zero f none = refl
summed_none m l (suc n) f none =
    ap₂ m.sum (summed_none m l n f (λ i h. none i (omega arith))) (none n (omega arith)) ∙ l.sum_zero 0 (zero_code m l)

-- so the total at a row of zeros is 0
pub total_none :
    (m : Meaning) (l : Laws m) (s : Shape) (ts : List Term) (row : List ℕ)
    → Passes (Exists s ts) (length ts)
    → ((i : ℕ) → i < length ts → Code m (term_at ts i).factor)
    → places s ≤ length row
    → ((j : ℕ) → j < length row → get_or row j 0 ≡ 0)
    → total m ts (row_of s row) ≡ 0
total_none m l s ts row exist codes whole none =
    summed_none m l (length ts) _
    (λ i h.
    let t = term_at ts i in
    let below = place_below s t.head t.counter (exist i h) in
    ap (m.product t.factor) (none (place s t.head t.counter) (omega arith)) ∙ product_zero m l t.factor (codes i h))

-- a total at such a row
pub total_cut :
    (m : Meaning) (s : Shape) (ts : List Term) (xs : List ℕ) (from at k : ℕ)
    → Passes (Exists s ts) (length ts)
    → at ≡ from
    → k ≡ places s
    → total m ts (row_of s (take k (drop at xs))) ≡ total m ts (row_at s xs from)
total_cut m s ts xs from at k exist there long =
    summed_cong m (length ts) _ _
    (λ i h.
    let t = term_at ts i in
    let p = place s t.head t.counter in
    let below = place_below s t.head t.counter (exist i h) in
    ap (m.product t.factor) (cut_at xs from at k p there (omega arith))
    )
