-- The pivot step, row by row.
use Rattle.std.proofs.Common.{◌≡◌, ℕ, ◌+◌, ◌*◌, ◌<◌, ◌≤◌, List, get_or, sym, ap, ◌∙◌, ap₂, inr, arith}
use native.Mathlib.Decide.{ℕ_discrete}
use Rattle.scale.specs.Meaning.{Meaning, power}
use Rattle.book.specs.Turning.{Returned, Spread, Turned, generator, point}
use Rattle.book.proofs.Filling.{Filled}
use Rattle.book.proofs.Spots.{point_apart, spot_apart}

-- the place of number j of the point
front : (j : ℕ) → 0 + j ≡ j
front j = omega arith

-- a generator does not lie in the point
beyond : (n i j : ℕ) → 0 + n ≤ n + i * n + j
beyond n i j = omega arith

module _ (m : Meaning) (n p : ℕ) (row : List ℕ) where
  -- a number and its multiple of the row
  abbrev plus : ℕ → ℕ → ℕ → ℕ
  plus f j a = m.sum a (m.product f (get_or row j 0))

  module _ (fs : List ℕ) where
    -- to each generator below k its factor times the row is added, but for the pivot; the others and the point are as
    -- they were
    pub record Spreading (k : ℕ) (old new : List ℕ) : Type 0 where
      pub done : (i j : ℕ) → i < k → (i ≡ p → ⊥) → j < n → generator n new i j ≡ plus (get_or fs i 0) j (generator n old i j)
      pub ahead : (i j : ℕ) → k ≤ i → j < n → generator n new i j ≡ generator n old i j
      pub pivot : (j : ℕ) → j < n → generator n new p j ≡ generator n old p j
      pub first : (j : ℕ) → j < n → point new j ≡ point old j

    -- the pivot itself is passed over
    pub spread_pass : (k : ℕ) (old cur : List ℕ) → k ≡ p → Spreading k old cur → Spreading (k + 1) old cur
    spread_pass k old cur e before =
        record {
          done = λ i j h d w. before.done i j (omega (arith, other i h d)) d w;
          ahead = λ i j h w. before.ahead i j (omega arith) w;
          pivot = before.pivot;
          first = before.first;
        }
      where
        other : (i : ℕ) → i < k + 1 → (i ≡ p → ⊥) → i < k
        other i h d = elim (ℕ_discrete i k) [ yes f ↦ absurd (d (f ∙ e)) | no f ↦ omega arith ]

    -- one more generator is added to
    pub spread_more :
        (k : ℕ) (old cur new : List ℕ)
        → (k ≡ p → ⊥)
        → Filled n (n + k * n) (λ j. plus (get_or fs k 0) j (generator n cur k j)) cur new
        → Spreading k old cur
        → Spreading (k + 1) old new
    spread_more k old cur new d filled before =
        record {
          done = λ i j h w v. go i j h w v (ℕ_discrete i k);
          ahead = λ i j h v. stays i j v (λ e. omega arith) ∙ before.ahead i j (omega arith) v;
          pivot = λ j h. stays p j h (λ e. d (sym e)) ∙ before.pivot j h;
          first = λ j h. filled.1 j (point_apart n k j h) ∙ before.first j h;
        }
      where
        stays : (i j : ℕ) → j < n → (i ≡ k → ⊥) → generator n new i j ≡ generator n cur i j
        stays i j h e = filled.1 (n + i * n + j) (spot_apart n i k j h e)

        go :
            (i j : ℕ)
            → i < k + 1
            → (i ≡ p → ⊥)
            → j < n
            → Dec (i ≡ k)
            → generator n new i j ≡ plus (get_or fs i 0) j (generator n old i j)
        go i j h w v (yes e) =
            ap (λ a. generator n new a j) e
            ∙ filled.0 j v
            ∙ ap (plus (get_or fs k 0) j) (before.ahead k j (omega arith) v)
            ∙ ap (λ a. plus (get_or fs a 0) j (generator n old a j)) (sym e)
        go i j h w v (no e) = stays i j v e ∙ before.done i j (omega arith) w v

    -- the point is moved, and then the generators are gone through
    pub spread :
        (shift k : ℕ) (old moved new : List ℕ)
        → n ≤ k
        → Filled n 0 (λ j. plus shift j (get_or old (0 + j) 0)) old moved
        → Spreading k moved new
        → Spread m n p row shift fs old new
    spread shift k old moved new all first between =
        record {
          moved = λ j h.
              between.first j h
              ∙ ap (λ i. get_or moved i 0) (sym (front j))
              ∙ first.0 j h
              ∙ ap (λ i. plus shift j (get_or old i 0)) (front j);
          others = λ i j h d w. between.done i j (omega arith) d w ∙ ap (plus (get_or fs i 0) j) (kept i j w);
          pivot = λ j h. between.pivot j h ∙ kept p j h;
        }
      where
        kept : (i j : ℕ) → j < n → generator n moved i j ≡ generator n old i j
        kept i j h = first.1 (n + i * n + j) (inr (beyond n i j))

  -- the row, which is the pivot's, is spread, and the pivot is multiplied
  pub turned :
      (qs fs : List ℕ) (shift fixed by : ℕ) (old cleared new : List ℕ)
      → ((j : ℕ) → j < n → get_or row j 0 ≡ generator n old p j)
      → by ≡ power m fixed
      → ((i : ℕ) → i < n → get_or fs i 0 ≡ m.negative (get_or qs i 0))
      → Spread m n p row shift fs old cleared
      → Filled n (n + p * n) (λ j. m.product by (generator n cleared p j)) cleared new
      → Turned m n p qs shift fixed old new
  turned qs fs shift fixed by old cleared new own is negated first last =
      record {
        moved = λ j h.
            last.1 j (point_apart n p j h)
            ∙ first.moved j h
            ∙ ap (λ a. m.sum (point old j) (m.product shift a)) (own j h);
        others = λ i j k d h.
            last.1 (n + i * n + j) (spot_apart n i p j h d)
            ∙ first.others i j k d h
            ∙ ap₂ (λ f a. m.sum (generator n old i j) (m.product f a)) (negated i k) (own j h);
        scaled = λ j h. last.0 j h ∙ ap₂ m.product is (first.pivot j h);
      }

  -- the row is put back as the pivot, and spread
  pub returned :
      (qs : List ℕ) (shift by : ℕ) (old put new : List ℕ)
      → by ≡ m.negative shift
      → Filled n (n + p * n) (λ j. get_or row j 0) old put
      → Spread m n p row by qs put new
      → Returned m n p row qs shift old new
  returned qs shift by old put new is first last =
      record {
        moved = λ j h.
            last.moved j h
            ∙ ap₂ (λ a b. plus b j a) (first.1 j (point_apart n p j h)) is;
        others = λ i j k d h.
            last.others i j k d h
            ∙ ap (plus (get_or qs i 0) j) (first.1 (n + i * n + j) (spot_apart n i p j h d));
        pivot = λ j h. last.pivot j h ∙ first.0 j h;
      }
