-- A step that is taken back leaves the rows as they were, code for code.
use Rattle.std.proofs.Common.{◌≡◌, ℕ, zero, suc, ◌+◌, ◌-◌, ◌*◌, ◌/◌, ◌%◌, ◌<◌, ◌≤◌, ◌⊎◌, List, length, get_or, sym, ap, ◌∙◌, subst, ap₂, inl, inr, mod-lt, div-lt_iff_lt-mul, div-add-mod', arith, ext_get_or}
use Rattle.std.proofs.lemmas.Bool.{cases_lt}
use native.Mathlib.Decide.{ℕ_discrete}
use Rattle.scale.specs.Meaning.{Meaning, Laws, Code}
use Rattle.ties.specs.Layouts.{Shape, places}
use Rattle.linear.proofs.Moves.{product_away}
use Rattle.book.specs.declared.standing.Standing.{Standing}
use Rattle.book.specs.Rows.{Codes}
use Rattle.book.specs.Turning.{Returned, generator, point}
use Rattle.book.specs.Standing.{Stepped}

-- two lists of rows with the same point and generators are the same
rows_same :
    (n : ℕ) (xs ys : List ℕ)
    → length xs ≡ n + n * n
    → length ys ≡ n + n * n
    → ((j : ℕ) → j < n → point xs j ≡ point ys j)
    → ((i j : ℕ) → i < n → j < n → generator n xs i j ≡ generator n ys i j)
    → xs ≡ ys
rows_same n xs ys xl yl points generators = ext_get_or 0 xs ys (xl ∙ sym yl) (λ k h. at k (omega arith) (cases_lt k n))
  where
    behind : (k : ℕ) → n ≤ k → k < n + n * n → get_or xs k 0 ≡ get_or ys k 0
    behind k low high =
        let j : ℕ = k - n in
        let inside : j < n * n = omega arith in
        let some : 0 < n = positive n j inside in
        let is : n + j / n * n + j % n ≡ k = omega (arith, div-add-mod' j n) in
        subst (λ (a : ℕ). get_or xs a 0 ≡ get_or ys a 0) is
        (generators (j / n) (j % n) ((div-lt_iff_lt-mul some).1 inside) (mod-lt j some))
      where
        positive : (n j : ℕ) → j < n * n → 0 < n
        positive zero j h = absurd (omega arith)
        positive (suc n) j h = omega arith

    at : (k : ℕ) → k < n + n * n → (k < n) ⊎ (n ≤ k) → get_or xs k 0 ≡ get_or ys k 0
    at k h (inl low) = points k low
    at k h (inr high) = behind k high h

module _ (m : Meaning) (l : Laws m) where
  -- what cancels leaves a sum as it was
  undone : (x a b : ℕ) → Code m x → Code m a → Code m b → m.sum a b ≡ 0 → m.sum (m.sum x a) b ≡ x
  undone x a b xc ac bc e = l.sum_assoc x a b xc ac bc ∙ ap (m.sum x) e ∙ l.sum_zero x xc

  pub returned_is :
      (s : Shape) (k : Standing) (xs old new : List ℕ) (g f : ℕ)
      → Codes m xs
      → length xs ≡ places s + places s * places s
      → length new ≡ places s + places s * places s
      → Stepped m s k xs old g f
      → Returned m (places s) k.pivot.number k.pivot.row.items k.pivot.quotients.items k.shift old new
      → new ≡ xs
  returned_is s k xs old new g f codes xl nl step back =
      rows_same (places s) new xs nl xl at_point (λ i j h w. at_row i j h w (ℕ_discrete i k.pivot.number))
    where
      u_code : (j : ℕ) → Code m (generator (places s) xs k.pivot.number j)
      u_code j = codes (places s + k.pivot.number * places s + j)

      at_point : (j : ℕ) → j < places s → point new j ≡ point xs j
      at_point j h =
          let t = k.shift in
          let tc = step.shift.0 in
          back.moved j h
          ∙ ap₂ (λ a b. m.sum a (m.product (m.negative t) b)) (step.turned.moved j h) (step.pivots.row j h)
          ∙ undone (point xs j) _ _ (codes j) (l.product_code t _ tc (u_code j)) (l.product_code _ _ (l.negative_code t tc) (u_code j))
          (product_away m l t _ tc (u_code j))

      at_row : (i j : ℕ) → i < places s → j < places s → Dec (i ≡ k.pivot.number) → generator (places s) new i j ≡ generator (places s) xs i j
      at_row i j h w (yes e) =
          ap (λ a. generator (places s) new a j) e
          ∙ back.pivot j w
          ∙ step.pivots.row j w
          ∙ ap (λ a. generator (places s) xs a j) (sym e)
      at_row i j h w (no d) =
          let q = get_or k.pivot.quotients.items i 0 in
          let qc = (step.pivots.divides i h).0 in
          let away = l.product_code _ _ (l.negative_code q qc) (u_code j) in
          let here = l.product_code q _ qc (u_code j) in
          back.others i j h d w
          ∙ ap₂ (λ a b. m.sum a (m.product q b)) (step.turned.others i j h d w) (step.pivots.row j w)
          ∙ undone (generator (places s) xs i j) _ _ (codes (places s + i * places s + j)) away here
          (l.sum_comm _ _ away here ∙ product_away m l q _ qc (u_code j))
