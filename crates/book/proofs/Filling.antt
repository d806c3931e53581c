-- Rows that are filled place by place.
use Rattle.std.proofs.Common.{◌≡◌, ℕ, zero, suc, ◌+◌, ◌<◌, ◌≤◌, ◌⊎◌, List, [], ◌∷◌, ◌++◌, length, get_or, set, take, drop, replicate, sym, ap, ◌∙◌, subst, ap₂, inl, inr, arith, below_more, get_or-set_other, get_or-set_same}
use borrow.Rule.Slice.PartMut.{put_mid}
use lib.Seq.{take-append_seam}
use Rattle.std.proofs.lemmas.Bool.{cases_lt}
use Rattle.std.proofs.lemmas.List.{get_or-drop, get_or_past, places}
use Rattle.scale.specs.Meaning.{Meaning, Laws, Code, reading}
use Rattle.scale.proofs.Codes.{reading_of, zero_code}
use Rattle.scale.proofs.Levels.{product_zero}
use Rattle.multipliers.proofs.Concluding.{zeros_read}
use Rattle.book.specs.Rows.{Codes}
use Rattle.book.specs.Turning.{Negatives}
use Rattle.book.proofs.Spots.{cut_at, cut_long}

-- what is said of each place below n is said of one place more that is written
pub each_more :
    (P : ℕ → ℕ → Type 0) (n : ℕ) (cur : List ℕ) (v : ℕ)
    → n < length cur
    → P n v
    → ((j : ℕ) → j < n → P j (get_or cur j 0))
    → (j : ℕ)
    → j < n + 1
    → P j (get_or (set cur n v) j 0)
each_more P n cur v inside here before =
    below_more (λ j. P j (get_or (set cur n v) j 0)) n
    (λ j h. subst (P j) (sym (get_or-set_other cur n j v 0 (λ e. omega (arith, e, h)))) (before j h))
    (subst (P n) (sym (get_or-set_same cur n v 0 inside)) here)

-- the first n numbers are written over, and those behind are as they were
abbrev pub Written : ℕ → (ℕ → ℕ) → List ℕ → List ℕ → Type 0
Written n f old cur =
    ((j : ℕ) → j < n → get_or cur j 0 ≡ f j) × ((j : ℕ) → n ≤ j → get_or cur j 0 ≡ get_or old j 0)

pub written_more :
    (n : ℕ) (f : ℕ → ℕ) (old cur : List ℕ) (v : ℕ)
    → n < length cur
    → v ≡ f n
    → Written n f old cur
    → Written (n + 1) f old (set cur n v)
written_more n f old cur v inside is before = (
  each_more (λ j a. a ≡ f j) n cur v inside is before.0,
  λ j h. get_or-set_other cur n j v 0 (λ e. omega arith) ∙ before.1 j (omega arith),
)

-- the row at a place now holds f, and nothing else is changed
abbrev pub Filled : ℕ → ℕ → (ℕ → ℕ) → List ℕ → List ℕ → Type 0
Filled n at f old new =
    ((j : ℕ) → j < n → get_or new (at + j) 0 ≡ f j)
    × ((i : ℕ) → (i < at) ⊎ (at + n ≤ i) → get_or new i 0 ≡ get_or old i 0)

-- a row among others is written over, each number by its place and by what it was: at and k are the place and the
-- length, as the code has them
pub filled :
    (n from at k : ℕ) (f : ℕ → ℕ → ℕ) (old row : List ℕ)
    → at ≡ from
    → k ≡ n
    → from + n ≤ length old
    → length row ≡ length (take k (drop at old))
    → ((j : ℕ) → j < length (take k (drop at old)) → get_or row j 0 ≡ f j (get_or (take k (drop at old)) j 0))
    → Filled n from (λ j. f j (get_or old (from + j) 0)) old (put_mid at k old row)
filled n from at k f old row there same inside long is = (
  λ j h. here j h ∙ is j (omega (arith, part_long)) ∙ ap (f j) (was j h),
  λ i h. elim h [ inl low ↦ ahead i low | inr high ↦ behind i high ],
)
  where
    part_long : length (take k (drop at old)) ≡ n
    part_long = cut_long old from at k n there same inside

    was : (j : ℕ) → j < n → get_or (take k (drop at old)) j 0 ≡ get_or old (from + j) 0
    was j h = cut_at old from at k j there (omega arith)

    here : (j : ℕ) → j < n → get_or (put_mid at k old row) (from + j) 0 ≡ get_or row j 0
    here j h = grind (arith, places)

    ahead : (i : ℕ) → i < from → get_or (put_mid at k old row) i 0 ≡ get_or old i 0
    ahead i low = grind (arith, places)

    behind : (i : ℕ) → from + n ≤ i → get_or (put_mid at k old row) i 0 ≡ get_or old i 0
    behind i high = grind (arith, places)

-- a whole row is written over, and is as long as before
pub written_back : (xs ys : List ℕ) → length ys ≡ length xs → take (length xs) (ys ++ drop (length ys) xs) ≡ ys
written_back xs ys same = ap (λ n. take n (ys ++ drop (length ys) xs)) (sym same) ∙ take-append_seam ys (drop (length ys) xs)

module _ (m : Meaning) (l : Laws m) where
  -- nothing is added where the factor is 0, and nothing changed where it is one
  pub add_nothing : (a b : ℕ) → Code m a → Code m b → a ≡ m.sum a (m.product 0 b)
  add_nothing a b ac bc =
      sym (ap (m.sum a) (l.product_comm 0 b (zero_code m l) bc ∙ product_zero m l b bc) ∙ l.sum_zero a ac)

  pub one_product : (a : ℕ) → Code m a → a ≡ m.product m.one a
  one_product a ac = sym (l.product_comm m.one a l.one_code ac ∙ l.product_one a ac)

  -- codes in a part of a list of codes, and in one that is put together of such lists
  none_code : (i : ℕ) → Code m (get_or [] i 0)
  none_code i = zero_code m l

  take_codes : (n : ℕ) (xs : List ℕ) → Codes m xs → Codes m (take n xs)
  take_codes zero xs codes i = none_code i
  take_codes (suc n) [] codes i = none_code i
  take_codes (suc n) (x ∷ xs) codes zero = codes 0
  take_codes (suc n) (x ∷ xs) codes (suc i) = take_codes n xs (λ j. codes (suc j)) i

  drop_codes : (n : ℕ) (xs : List ℕ) → Codes m xs → Codes m (drop n xs)
  drop_codes n xs codes i = subst (Code m) (sym (get_or-drop n xs i 0)) (codes (n + i))

  append_codes : (xs ys : List ℕ) → Codes m xs → Codes m ys → Codes m (xs ++ ys)
  append_codes [] ys first last i = last i
  append_codes (x ∷ xs) ys first last zero = first 0
  append_codes (x ∷ xs) ys first last (suc i) = append_codes xs ys (λ j. first (suc j)) last i

  pub part_codes : (at n : ℕ) (xs : List ℕ) → Codes m xs → Codes m (take n (drop at xs))
  part_codes at n xs codes = take_codes n _ (drop_codes at xs codes)

  pub put_codes : (at n : ℕ) (xs row : List ℕ) → Codes m xs → Codes m row → Codes m (put_mid at n xs row)
  put_codes at n xs row codes new =
      append_codes _ _ (take_codes at xs codes) (append_codes row _ new (drop_codes n _ (drop_codes at xs codes)))

  -- behind the end of a list reads 0
  pub all_codes : (xs : List ℕ) → ((i : ℕ) → i < length xs → Code m (get_or xs i 0)) → Codes m xs
  all_codes xs each i =
      elim (cases_lt i (length xs)) [
        | inl h ↦ each i h
        | inr h ↦ subst (Code m) (sym (get_or_past xs i 0 h)) (zero_code m l)
      ]

  -- zeros are codes
  pub zeros_codes : (n : ℕ) → Codes m (replicate n 0)
  zeros_codes n i = subst (Code m) (sym (zeros_read n i)) (zero_code m l)

  -- sums and products of codes, as the functions of a scale answer
  pub product_is :
      (a b r : ℕ) → Code m a → Code m b → r ≡ m.product (reading m a) (reading m b) → Code m r × (r ≡ m.product a b)
  product_is a b r ac bc e =
      let is : r ≡ m.product a b = e ∙ ap₂ m.product (reading_of m l a ac) (reading_of m l b bc) in
      (subst (Code m) (sym is) (l.product_code a b ac bc), is)

  pub sum_is : (a b r : ℕ) → Code m a → Code m b → r ≡ m.sum (reading m a) (reading m b) → Code m r × (r ≡ m.sum a b)
  sum_is a b r ac bc e =
      let is : r ≡ m.sum a b = e ∙ ap₂ m.sum (reading_of m l a ac) (reading_of m l b bc) in
      (subst (Code m) (sym is) (l.sum_code a b ac bc), is)

  pub negative_is : (a r : ℕ) → Code m a → r ≡ m.negative (reading m a) → Code m r × (r ≡ m.negative a)
  negative_is a r ac e =
      let is : r ≡ m.negative a = e ∙ ap m.negative (reading_of m l a ac) in
      (subst (Code m) (sym is) (l.negative_code a ac), is)

  pub negatives_are :
      (xs ys : List ℕ)
      → Codes m xs
      → Negatives m xs ys
      → Codes m ys × ((i : ℕ) → i < length xs → get_or ys i 0 ≡ m.negative (get_or xs i 0))
  negatives_are xs ys codes each = (all_codes ys (λ i h. (are i (omega (arith, each.0))).0), λ i h. (are i h).1)
    where
      are : (i : ℕ) → i < length xs → Code m (get_or ys i 0) × (get_or ys i 0 ≡ m.negative (get_or xs i 0))
      are i h = negative_is (get_or xs i 0) (get_or ys i 0) (codes i) (each.1 i h)

  pub level_is : (a r : ℕ) → Code m a → r ≡ m.level (reading m a) → r ≡ m.level a
  level_is a r ac e = e ∙ ap m.level (reading_of m l a ac)

  -- a sum with a product
  pub added_is :
      (a b c r : ℕ)
      → Code m a
      → Code m b
      → Code m c
      → r ≡ m.sum (reading m a) (m.product (reading m b) (reading m c))
      → Code m r × (r ≡ m.sum a (m.product b c))
  added_is a b c r ac bc cc' e =
      let is : r ≡ m.sum a (m.product b c) =
      e ∙ ap₂ m.sum (reading_of m l a ac) (ap₂ m.product (reading_of m l b bc) (reading_of m l c cc')) in
      (subst (Code m) (sym is) (l.sum_code a (m.product b c) ac (l.product_code b c bc cc')), is)

  -- a sum with a product, and its second summand by another way
  pub sum_product_is :
      (a b c p r : ℕ)
      → Code m a
      → Code m b
      → Code m c
      → p ≡ m.product (reading m b) (reading m c)
      → r ≡ m.sum (reading m a) (reading m p)
      → Code m r × (r ≡ m.sum a (m.product b c))
  sum_product_is a b c p r ac bc cc' pe re =
      let q = product_is b c p bc cc' pe in
      let s = sum_is a p r ac q.0 re in
      (s.0, s.1 ∙ ap (m.sum a) q.1)
