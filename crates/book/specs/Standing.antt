-- How the rows of a book come from its standing ties, one pivot step for each.
use Rattle.std.specs.Prelude.{◌≡◌, ℕ, zero, suc, ◌+◌, ◌-◌, ◌*◌, ◌<◌, ◌≤◌, cond, List, [], ◌∷◌, ◌++◌, map, length, vec_items, vec_capacity, sum, ◌==◌, slice_index, slice_index_or}
use Rattle.scale.specs.Meaning.{Meaning, Quotient, digits, power}
use Rattle.ties.specs.Layouts.{Shape, Assignment, less, places}
use Rattle.ties.specs.Equations.{Equation, depth, equation_in, total}
use Rattle.ties.specs.Faults.{Sound}
use Rattle.book.specs.declared.pivot.Pivot.{Pivot}
use Rattle.book.specs.declared.standing.Standing.{Standing}
use Rattle.book.specs.declared.table.Table.{Table}
use Rattle.book.specs.Rows.{Codes}
use Rattle.book.specs.Turning.{Formed, Turned, generator, point}
use Rattle.book.specs.Sheets.{generator_of, point_of}

-- the equation of a standing tie
abbrev pub equation_of : Standing → Equation
equation_of k = equation_in k.tie

-- an equation's terms at an assignment, and its right side, raised to full length
abbrev pub raised : Meaning → Shape → Equation → Assignment → ℕ
raised m s e x = m.product (power m (digits m - depth s e)) (total m e.terms x)

abbrev pub raised_right : Meaning → Shape → Equation → ℕ
raised_right m s e = m.product (power m (digits m - depth s e)) e.right

-- what is missing at the point
abbrev pub rest : Meaning → Shape → Equation → List ℕ → ℕ
rest m s e xs = less m (raised_right m s e) (raised m s e (point_of s xs))

-- the point is 0, and so are the generators but for the first k, which are unit rows
pub record Units (m : Meaning) (n k : ℕ) (xs : List ℕ) : Type 0 where
  pub codes : Codes m xs
  pub units : (i j : ℕ) → i < k → j < n → generator n xs i j ≡ cond (i == j) m.one 0
  pub ahead : (i j : ℕ) → k ≤ i → i < n → j < n → generator n xs i j ≡ 0
  pub origin : (j : ℕ) → j < n → point xs j ≡ 0

-- an empty book: the point is 0, the generators are the unit rows, and the digits of all counters are free
pub record Fresh (m : Meaning) (s : Shape) (xs : List ℕ) (f : ℕ) : Type 0 where
  pub size : length xs ≡ places s + places s * places s
  pub codes : Codes m xs
  pub origin : (j : ℕ) → j < places s → point xs j ≡ 0
  pub units : (i j : ℕ) → i < places s → j < places s → generator (places s) xs i j ≡ cond (i == j) m.one 0
  pub free : f ≡ s.heads * sum s.widths

-- what an equation asks of rows: the pivot's row stands there, the equation's raised product with it is the divisor, and
-- this one divides those with all generators
pub record Pivots (m : Meaning) (s : Shape) (e : Equation) (xs : List ℕ) (k : Pivot) : Type 0 where
  pub formed : Formed m (places s) k
  pub row : (j : ℕ) → j < places s → slice_index k.row.items j ≡ generator (places s) xs k.number j
  pub divisor : k.divisor ≡ raised m s e (generator_of s xs k.number)
  pub divides :
      (i : ℕ) → i < places s → Quotient m (raised m s e (generator_of s xs i)) k.divisor (slice_index k.quotients.items i)

-- a sound tie made its pivot step from old rows with g free digits to new rows with f
pub record Stepped (m : Meaning) (s : Shape) (k : Standing) (old new : List ℕ) (g f : ℕ) : Type 0 where
  pub sound : Sound m s (equation_of k)
  pub size : length new ≡ places s + places s * places s
  pub codes : Codes m new
  pub pivots : Pivots m s (equation_of k) old k.pivot
  pub shift : Quotient m (rest m s (equation_of k) old) k.pivot.divisor k.shift
  pub turned : Turned m (places s) k.pivot.number k.pivot.quotients.items k.shift (digits m - m.level k.pivot.divisor) old new
  pub free : f + (digits m - m.level k.pivot.divisor) ≡ g
  pub freed : k.free ≡ g

-- no tie, where a list has no such
abbrev pub nobody : Standing
nobody =
    record {
      tie = record { target = 0; right = 0; terms = record { items = [] } };
      pivot = record { number = 0; row = record { items = [] }; divisor = 0; quotients = record { items = [] } };
      shift = 0;
      free = 0;
    }

-- the i-th of a list of standing ties
abbrev pub nth_standing : List Standing → ℕ → Standing
nth_standing ks i = slice_index_or ks i nobody

-- rows with f free digits are what the first n of the standing ties made of an empty book
abbrev pub Built : Meaning → Shape → List Standing → ℕ → List ℕ → ℕ → Type 0
Built m s ks zero xs f = Fresh m s xs f
Built m s ks (suc n) xs f =
    (old : List ℕ) × (g : ℕ) × Built m s ks n old g × Stepped m s (nth_standing ks n) old xs g f

-- a table is what its standing ties made of an empty one
abbrev pub Stands : Meaning → Shape → Table → Type 0
Stands m s t = Built m s (vec_items t.standing) (length (vec_items t.standing)) (vec_items t.rows) t.free

-- the equations of the standing ties, in order
abbrev pub ledger : Table → List Equation
ledger t = map equation_of (vec_items t.standing)

-- no tie stands in a table
abbrev pub Empty : Meaning → Shape → Table → Type 0
Empty m s t = (vec_items t.standing ≡ []) × Fresh m s (vec_items t.rows) t.free × (64 ≤ vec_capacity t.standing)

-- an equation has made its step: it stands last, and fixed some digits
pub record TakenIn (m : Meaning) (s : Shape) (e : Equation) (old new : Table) (fixed : ℕ) : Type 0 where
  pub last : Standing
  pub equation : equation_of last ≡ e
  pub standing : vec_items new.standing ≡ vec_items old.standing ++ (last ∷ [])
  pub stepped : Stepped m s last (vec_items old.rows) (vec_items new.rows) old.free new.free
  pub fell : new.free + fixed ≡ old.free
  pub room : vec_capacity new.standing ≡ vec_capacity old.standing

-- a step is taken back: the rows and the free digits are those before it, and the ties stand as they did
abbrev pub GivenBack : Meaning → Standing → Table → Table → Type 0
GivenBack m k old new =
    ((s : Shape) (xs : List ℕ) (g : ℕ)
    → Codes m xs
    → length xs ≡ places s + places s * places s
    → Stepped m s k xs (vec_items old.rows) g old.free
    → (vec_items new.rows ≡ xs) × (new.free ≡ g))
    × (new.standing ≡ old.standing)
