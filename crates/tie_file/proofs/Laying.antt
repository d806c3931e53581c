-- The parts of a file that is being written, each where the one before ends; and what the whole file then states.
use Rattle.std.proofs.Common.{◌≡◌, ℕ, zero, suc, ◌+◌, ◌*◌, ◌<◌, ◌≤◌, ◌⊎◌, List, [], length, map, take, get_or, sym, ap, ◌∙◌, subst, subst₂, inl, inr, arith, eq-or-lt_of_le}
use Rattle.std.proofs.lemmas.List.{get_or-map, get_or-take, length-map, length-take-le}
use Rattle.std.proofs.lemmas.List.Sums.{sum_by_more}
use Rattle.scale.specs.declared.Mark.{Mark}
use Rattle.ties.specs.Equations.{Equation, nth_equation}
use Rattle.ties.specs.Layouts.{Shape}
use Rattle.tie_file.specs.Table.{byte, entries}
use Rattle.tie_file.specs.Writing.{file_size, tie_size, ties_end}
use Rattle.tie_file.specs.Putting.{Begun, Small, LayoutAt, TieAt, TiePut}
use Rattle.tie_file.proofs.Keeping.{layout_kept, tie_kept}

pub ends_more :
    (s : Shape) (es : List Equation) (i : ℕ) → i < length es → ties_end s es (i + 1) ≡ ties_end s es i + tie_size (nth_equation es i)
ends_more s es i h =
    let more = sum_by_more tie_size es i (record { target = 0; right = 0; terms = [] }) h in omega (arith, more)

-- the next of the equations that the elements of a list state
module _ {X : Type 0} (states : X → Equation) (xs : List X) (i : ℕ) (x : X) (h : i < length xs) (is : x ≡ get_or xs i x) (e : Equation) (said : e ≡ states x)
  where
    pub next_inside : i < length (map states xs)
    next_inside = omega (arith, h, length-map xs states)

    pub next_stated : e ≡ nth_equation (map states xs) i
    next_stated =
        said ∙ ap states is ∙ sym (get_or-map states xs i x (record { target = 0; right = 0; terms = [] }) h)

    pub stated_more : (s : Shape) → ties_end s (map states xs) (i + 1) ≡ ties_end s (map states xs) i + tie_size e
    stated_more s =
        let more = ends_more s (map states xs) i next_inside in omega (arith, more, ap tie_size next_stated)

    pub small_more : tie_size e ≤ 197 → Small (map states xs) i → Small (map states xs) (i + 1)
    small_more most small j l = go (eq-or-lt_of_le (omega (arith, l)))
      where
        go : (j ≡ i) ⊎ (j < i) → tie_size (nth_equation (map states xs) j) ≤ 197
        go (inl at) = omega (arith, most, ap (λ n. tie_size (nth_equation (map states xs) n)) at, ap tie_size next_stated)
        go (inr b) = small j b

module _ (k : Mark) (s : Shape) (es : List Equation) where
  -- a tie ends before a later one begins
  pub ends_before :
      (i n : ℕ) → i < n → n ≤ length es → ties_end s es i + tie_size (nth_equation es i) ≤ ties_end s es n
  ends_before i zero h b = absurd (omega arith)
  ends_before i (suc n) h b =
      subst (λ (j : ℕ). ties_end s es i + tie_size (nth_equation es i) ≤ ties_end s es j) one
      (go (λ l. ends_before i n l (omega (arith, b))) (eq-or-lt_of_le (omega (arith, h))))
    where
      one : n + 1 ≡ suc n
      one = omega arith

      more : ties_end s es (n + 1) ≡ ties_end s es n + tie_size (nth_equation es n)
      more = ends_more s es n (omega (arith, b))

      go :
          (i < n → ties_end s es i + tie_size (nth_equation es i) ≤ ties_end s es n)
          → (i ≡ n) ⊎ (i < n)
          → ties_end s es i + tie_size (nth_equation es i) ≤ ties_end s es (n + 1)
      go earlier (inl e) =
          let here = ap (λ (j : ℕ). ties_end s es j + tie_size (nth_equation es j)) e in omega (arith, more, here)
      go earlier (inr l) = let before = earlier l in omega (arith, more, before)

  -- one more tie is put
  pub begun_more :
      (old f g : List ℕ) (n i at : ℕ) (e : Equation)
      → n < length es
      → i ≡ suc n
      → at ≡ ties_end s es n
      → e ≡ nth_equation es n
      → Begun k s es n old f
      → TiePut f g i at e
      → Begun k s es (n + 1) old g
  begun_more old f g n at_line at e h is starts states b said =
      record {
        count = put.kept 0 (inl (omega arith)) (inl (omega arith)) ∙ b.count;
        layout = layout_kept f g (1 + 5 * suc (length es)) k s
            (λ j l r. put.kept j (inl (omega arith)) (inl (omega arith)))
            (λ j l r. put.kept j (inr (omega arith)) (inl (omega arith)))
            b.layout;
        ties = λ i l. go i (eq-or-lt_of_le (omega (arith, l)));
        long = put.long ∙ b.long;
        kept = λ i l.
            let more = ends_more s es n h in
            put.kept i (inr (omega (arith, more))) (inr (omega (arith, more))) ∙ b.kept i (omega (arith, more));
      }
    where
      put : TiePut f g (suc n) (ties_end s es n) (nth_equation es n)
      put =
          subst (λ (q : Equation). TiePut f g (suc n) (ties_end s es n) q) states
          (subst₂ (λ (i a : ℕ). TiePut f g i a e) is starts said)

      go : (i : ℕ) → (i ≡ n) ⊎ (i < n) → TieAt g (suc i) (ties_end s es i) (nth_equation es i)
      go i (inl e) = subst (λ (j : ℕ). TieAt g (suc j) (ties_end s es j) (nth_equation es j)) (sym e) put.there
      go i (inr l) =
          let ends = ends_before i n l (omega arith) in
          tie_kept f g (suc i) (ties_end s es i) (nth_equation es i)
          (λ j a r. put.kept j (inl (omega arith)) (inl (omega arith)))
          (λ j a r. put.kept j (inr (omega arith)) (inl (omega (arith, ends))))
          (b.ties i l)

  -- all parts are there, and the file ends with the last
  pub record Laid (f : List ℕ) : Type 0 where
    pub size : length f ≡ file_size s es
    pub count : entries f ≡ suc (length es)
    pub layout : LayoutAt f (1 + 5 * suc (length es)) k s
    pub ties : (i : ℕ) → i < length es → TieAt f (suc i) (ties_end s es i) (nth_equation es i)

  pub laid :
      (old f : List ℕ)
      → file_size s es ≤ length old
      → Begun k s es (length es) old f
      → Laid (take (file_size s es) f)
  laid old f room b =
      record {
        size = length-take-le n f (omega (arith, b.long));
        count = same 0 (omega arith) ∙ b.count;
        layout = layout_kept f g (1 + 5 * suc (length es)) k s
            (λ j l r. same j (omega arith))
            (λ j l r. same j (omega arith))
            b.layout;
        ties = λ i l.
            let ends = ends_before i (length es) l (omega arith) in
            tie_kept f g (suc i) (ties_end s es i) (nth_equation es i)
            (λ j a r. same j (omega arith))
            (λ j a r. same j (omega (arith, ends)))
            (b.ties i l);
      }
    where
      n : ℕ
      n = file_size s es

      g : List ℕ
      g = take n f

      same : (j : ℕ) → j < n → byte g j ≡ byte f j
      same j h = get_or-take n f j 0 h
