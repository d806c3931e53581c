-- The pivot step on the rows of a table: the point, and behind it n generators.
use Rattle.std.specs.Prelude.{◌≡◌, ℕ, ◌+◌, ◌*◌, ◌<◌, List, ◌≢◌, length, slice_index}
use Rattle.scale.specs.Meaning.{Meaning, Code, power, reading}
use Rattle.book.specs.declared.pivot.Pivot.{Pivot}
use Rattle.book.specs.Rows.{Codes}

-- number j of the point and of generator i
abbrev pub point : List ℕ → ℕ → ℕ
point xs j = slice_index xs j

abbrev pub generator : ℕ → List ℕ → ℕ → ℕ → ℕ
generator n xs i j = slice_index xs (n + i * n + j)

-- a pivot among n generators: it has a code for each place of a row and for each generator
pub record Formed (m : Meaning) (n : ℕ) (k : Pivot) : Type 0 where
  pub number : k.number < n
  pub row : length k.row.items ≡ n
  pub row_codes : Codes m k.row.items
  pub divisor : Code m k.divisor
  pub quotients : length k.quotients.items ≡ n
  pub quotient_codes : Codes m k.quotients.items

-- each is the negative of the other list's
abbrev pub Negatives : Meaning → List ℕ → List ℕ → Type 0
Negatives m xs ys =
    (length ys ≡ length xs) × ((i : ℕ) → i < length xs → slice_index ys i ≡ m.negative (reading m (slice_index xs i)))

-- multiples of a row are added: to the point shift times the row, and to each generator but the pivot its factor times
-- the row
pub record Spread (m : Meaning) (n p : ℕ) (row : List ℕ) (shift : ℕ) (fs old new : List ℕ) : Type 0 where
  pub moved : (j : ℕ) → j < n → point new j ≡ m.sum (point old j) (m.product shift (slice_index row j))
  pub others :
      (i j : ℕ)
      → i < n
      → (i ≢ p)
      → j < n
      → generator n new i j ≡ m.sum (generator n old i j) (m.product (slice_index fs i) (slice_index row j))
  pub pivot : (j : ℕ) → j < n → generator n new p j ≡ generator n old p j

-- the whole step: the other generators are reduced by their quotients
pub record Turned (m : Meaning) (n p : ℕ) (qs : List ℕ) (shift fixed : ℕ) (old new : List ℕ) : Type 0 where
  pub moved : (j : ℕ) → j < n → point new j ≡ m.sum (point old j) (m.product shift (generator n old p j))
  pub others :
      (i j : ℕ)
      → i < n
      → (i ≢ p)
      → j < n
      → generator n new i j ≡ m.sum (generator n old i j) (m.product (m.negative (slice_index qs i)) (generator n old p j))
  pub scaled : (j : ℕ) → j < n → generator n new p j ≡ m.product (power m fixed) (generator n old p j)

-- the step is taken back: the pivot is the row that it was, the others get back their quotients of it, and the point moves
-- back
pub record Returned (m : Meaning) (n p : ℕ) (row qs : List ℕ) (shift : ℕ) (old new : List ℕ) : Type 0 where
  pub moved : (j : ℕ) → j < n → point new j ≡ m.sum (point old j) (m.product (m.negative shift) (slice_index row j))
  pub others :
      (i j : ℕ)
      → i < n
      → (i ≢ p)
      → j < n
      → generator n new i j ≡ m.sum (generator n old i j) (m.product (slice_index qs i) (slice_index row j))
  pub pivot : (j : ℕ) → j < n → generator n new p j ≡ slice_index row j
