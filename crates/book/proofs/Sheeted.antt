-- A sheet is exact by its numbers alone: what a list holds behind them does not matter.
use Rattle.std.proofs.Common.{◌≡◌, ℕ, ◌+◌, ◌*◌, ◌<◌, List, get_or, sym, ap, ◌∙◌, ap₂, arith}
use Rattle.scale.specs.Meaning.{Meaning}
use Rattle.ties.specs.Layouts.{Shape, Assignment, place, places}
use Rattle.ties.specs.Equations.{Equation}
use Rattle.ties.proofs.Places.{place_below}
use Rattle.book.specs.Sheets.{Exact, OnSheet}
use Rattle.book.proofs.Spots.{row_inside, summed_cong}

module _ (m : Meaning) (s : Shape) where
  abbrev n : ℕ
  n = places s

  -- two lists hold the same numbers of a sheet
  abbrev Alike : List ℕ → List ℕ → Type 0
  Alike xs ys = (i : ℕ) → i < n + n * n → get_or xs i 0 ≡ get_or ys i 0

  on_alike : (xs ys : List ℕ) (x : Assignment) → Alike xs ys → OnSheet m s xs x → OnSheet m s ys x
  on_alike xs ys x alike on = (
    on.0,
    on.1,
    λ h c has.
        on.2 h c has
        ∙ ap₂ m.sum (alike (0 + place s h c) (omega (arith, place_below s h c has)))
        (summed_cong m n _ _
        (λ i k. ap (m.product (on.0 i)) (alike (n + i * n + place s h c) (omega (arith, place_below s h c has, row_inside n i k))))),
  )

  pub exact_alike : (es : List Equation) (xs ys : List ℕ) → Alike xs ys → Exact m s es xs → Exact m s es ys
  exact_alike es xs ys alike exact x gives = (
    λ meets. on_alike xs ys x alike ((exact x gives).0 meets),
    λ on. (exact x gives).1 (on_alike ys xs x (λ i h. sym (alike i h)) on),
  )
