-- A scale is the arithmetic of one sort of wrapping counter.
-- Its meaning is one value, and its laws are stated of that value alone.
use Rattle.std.specs.Prelude.{◌≡◌, ℕ, zero, suc, ◌+◌, ◌-◌, ◌%◌, ◌^◌, ◌<◌, ◌≤◌, min, cond, List, slice_index, Option, MatchOption, nat_le}
use Rattle.scale.specs.declared.Mark.{Mark}

-- what a scale means: its mark, one, the step, and its functions at codes
pub record Meaning : Type 0 where
  pub mark : Mark
  pub one : ℕ
  pub step : ℕ
  pub sum : ℕ → ℕ → ℕ
  pub negative : ℕ → ℕ
  pub product : ℕ → ℕ → ℕ
  pub level : ℕ → ℕ

-- the digit base q, the length E, and the number of codes q^E
abbrev pub base : Meaning → ℕ
base m = m.mark.base

abbrev pub digits : Meaning → ℕ
digits m = m.mark.length

abbrev pub size : Meaning → ℕ
size m = base m ^ digits m

-- the codes are 0 to q^E - 1
abbrev pub Code : Meaning → ℕ → Type 0
Code m a = a < size m

-- any other number is read as its remainder
abbrev pub reading : Meaning → ℕ → ℕ
reading m a = a % size m

-- how many numbers below n have level v or more
abbrev pub reaching : (ℕ → ℕ) → ℕ → ℕ → ℕ
reaching level v zero = 0
reaching level v (suc n) = cond (nat_le v (level n)) 1 0 + reaching level v n

-- f 0 + f 1 + .. + f (n - 1)
abbrev pub summed : Meaning → ℕ → (ℕ → ℕ) → ℕ
summed m zero f = 0
summed m (suc n) f = m.sum (summed m n f) (f n)

-- the step to the power k
abbrev pub power : Meaning → ℕ → ℕ
power m zero = m.one
power m (suc k) = m.product m.step (power m k)

-- `c` is a quotient of `a` by `b`
abbrev pub Quotient : Meaning → ℕ → ℕ → ℕ → Type 0
Quotient m a b c = Code m c × (m.product b c ≡ a)

-- what the quotient of `a` by `b` answers: it is there exactly when the level of `a` is at least that of `b`
abbrev pub Divided : Meaning → ℕ → ℕ → Option ℕ → Type 0
Divided m a b r = MatchOption r (m.level a < m.level b) (λ c. (m.level b ≤ m.level a) × Quotient m a b c)

-- `by` times the first `n` numbers of a list is added to those of another
pub record MultipleAdded (m : Meaning) (by : ℕ) (from old new : List ℕ) (n : ℕ) : Type 0 where
  pub added :
      (j : ℕ)
      → j < n
      → slice_index new j ≡ m.sum (reading m (slice_index old j)) (m.product (reading m by) (reading m (slice_index from j)))
  pub kept : (j : ℕ) → n ≤ j → slice_index new j ≡ slice_index old j

-- the laws of a scale
pub record Laws (m : Meaning) : Type 0 where
  -- the limits
  pub kind_most : m.mark.kind ≤ 255
  pub base_least : 2 ≤ base m
  pub base_most : base m ≤ 255
  pub length_least : 1 ≤ digits m
  pub size_most : size m ≤ 2 ^ 31
  -- all results but levels are codes
  pub one_code : Code m m.one
  pub step_code : Code m m.step
  pub sum_code : (a b : ℕ) → Code m a → Code m b → Code m (m.sum a b)
  pub negative_code : (a : ℕ) → Code m a → Code m (m.negative a)
  pub product_code : (a b : ℕ) → Code m a → Code m b → Code m (m.product a b)
  -- the codes are a commutative ring
  pub sum_assoc : (a b c : ℕ) → Code m a → Code m b → Code m c → m.sum (m.sum a b) c ≡ m.sum a (m.sum b c)
  pub sum_comm : (a b : ℕ) → Code m a → Code m b → m.sum a b ≡ m.sum b a
  pub sum_zero : (a : ℕ) → Code m a → m.sum a 0 ≡ a
  pub sum_negative : (a : ℕ) → Code m a → m.sum a (m.negative a) ≡ 0
  pub product_assoc :
      (a b c : ℕ) → Code m a → Code m b → Code m c → m.product (m.product a b) c ≡ m.product a (m.product b c)
  pub product_comm : (a b : ℕ) → Code m a → Code m b → m.product a b ≡ m.product b a
  pub product_one : (a : ℕ) → Code m a → m.product a m.one ≡ a
  pub product_sum :
      (a b c : ℕ)
      → Code m a
      → Code m b
      → Code m c
      → m.product a (m.sum b c) ≡ m.sum (m.product a b) (m.product a c)
  -- a level lies between 0 and E, and only code 0 has level E
  pub level_most : (a : ℕ) → Code m a → m.level a ≤ digits m
  pub level_zero : m.level 0 ≡ digits m
  pub zero_only : (a : ℕ) → Code m a → m.level a ≡ digits m → a ≡ 0
  pub level_product :
      (a b : ℕ) → Code m a → Code m b → m.level (m.product a b) ≡ min (digits m) (m.level a + m.level b)
  pub level_sum : (a b : ℕ) → Code m a → Code m b → min (m.level a) (m.level b) ≤ m.level (m.sum a b)
  pub step_level : m.level m.step ≡ 1
  -- exactly q^(E - v) codes have level v or more
  pub level_count : (v : ℕ) → v ≤ digits m → reaching m.level v (size m) ≡ base m ^ (digits m - v)
  -- a code of no lower level has a quotient
  pub quotient :
      (a b : ℕ) → Code m a → Code m b → m.level b ≤ m.level a → (c : ℕ) × Quotient m a b c
