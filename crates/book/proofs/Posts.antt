-- What posting a tie makes of a table.
use Rattle.std.proofs.Common.{◌≡◌, ℕ, zero, suc, ◌+◌, ◌-◌, ◌*◌, ◌<◌, ◌≤◌, List, [], ◌∷◌, ◌++◌, map, length, vec_items, sym, refl, ap, ◌∙◌, subst, subst₂, le_refl, arith, length-append}
use mathlib.Core.List.{map-append}
use lib.ListN.{get_or-append}
use lib.Seq.{get_or_at}
use Rattle.std.specs.List.{All}
use Rattle.std.proofs.lemmas.List.Elements.{All-push}
use Rattle.scale.specs.Meaning.{Meaning, Laws, Code, digits}
use Rattle.ties.specs.Layouts.{Assignment, Shape, Within, places}
use Rattle.ties.specs.Equations.{Contradictory, Count, Equation, Solves}
use Rattle.ties.specs.Faults.{Sound}
use Rattle.multipliers.specs.Refuting.{Refutes}
use Rattle.linear.proofs.Moves.{slid}
use Rattle.book.specs.declared.pivot.Pivot.{Pivot}
use Rattle.book.specs.declared.standing.Standing.{Standing}
use Rattle.book.specs.declared.table.Table.{Table}
use Rattle.book.specs.Rows.{Codes}
use Rattle.book.specs.Sheets.{Exact, generator_of, point_of}
use Rattle.book.specs.Standing.{Built, Pivots, Stands, Stepped, TakenIn, equation_of, ledger, nth_standing, nobody, rest}
use Rattle.book.specs.Posting.{Accepted, Shown}
use Rattle.book.proofs.Choosing.{least}
use Rattle.book.proofs.Counted.{built_count, fall}
use Rattle.book.proofs.Exactness.{
  built_codes,
  built_exact,
  built_sound,
  ledger_all,
  ledger_of,
  point_solves,
  refused,
  slides,
}

-- only the ties that made the rows matter
built_agree :
    (m : Meaning) (s : Shape) (ks qs : List Standing) (n : ℕ) (xs : List ℕ) (f : ℕ)
    → ((i : ℕ) → i < n → nth_standing ks i ≡ nth_standing qs i)
    → Built m s ks n xs f
    → Built m s qs n xs f
built_agree m s ks qs zero xs f same built = built
built_agree m s ks qs (suc n) xs f same built = (
  built.0,
  built.1,
  built_agree m s ks qs n built.0 built.1 (λ i h. same i (omega arith)) built.2,
  subst (λ (t : Standing). Stepped m s t built.0 xs built.1 f) (same n (omega arith)) built.3,
)

-- one more tie leaves those before it as they were
behind : (ks : List Standing) (k : Standing) (i : ℕ) → i < length ks → nth_standing (ks ++ (k ∷ [])) i ≡ nth_standing ks i
behind ks k i h = get_or-append ks (k ∷ []) nobody i h

module _ (m : Meaning) (l : Laws m) (s : Shape) (t : Table) where
  abbrev ks : List Standing
  ks = vec_items t.standing

  abbrev xs : List ℕ
  xs = vec_items t.rows

  module _ (within : Within m s) (stands : Stands m s t) where
    pub stands_codes : Codes m xs × (length xs ≡ places s + places s * places s)
    stands_codes = built_codes m s ks (length ks) xs t.free stands

    whole : ledger_of ks (length ks) ≡ ledger t
    whole = ledger_all ks (length ks) refl

    pub stands_exact : Exact m s (ledger t) xs
    stands_exact =
        subst (λ (es : List Equation). Exact m s es xs) whole
        (built_exact m l s within ks (length ks) xs t.free (le_refl (length ks)) stands)

    pub stands_count : Count m s (ledger t) t.free
    stands_count =
        subst (λ (es : List Equation). Count m s es t.free) whole
        (built_count m l s within ks (length ks) xs t.free (le_refl (length ks)) stands)

    pub stands_solved : Solves m s (ledger t) (point_of s xs)
    stands_solved =
        subst (λ (es : List Equation). Solves m s es (point_of s xs)) whole
        (point_solves m l s within ks (length ks) xs t.free (le_refl (length ks)) stands)

    -- a solution moved along a generator is a solution
    pub stands_slides :
        (i : ℕ)
        → i < places s
        → (x : Assignment) (a : ℕ)
        → Code m a
        → Solves m s (ledger t) x
        → Solves m s (ledger t) (slid m x a (generator_of s xs i))
    stands_slides i below x a is =
        subst (λ (es : List Equation). Solves m s es x → Solves m s es (slid m x a (generator_of s xs i))) whole
        (slides m l s within ks (length ks) xs t.free (le_refl (length ks)) stands i below x a is)

    pub stands_sound : All (Sound m s) (ledger t)
    stands_sound =
        subst (All (Sound m s)) whole (built_sound m s ks (length ks) xs t.free (le_refl (length ks)) stands)

    -- multipliers that refute sound equations pass the check with every file of just these
    pub shown :
        (e : Equation) (ys : List ℕ)
        → Sound m s e
        → suc (length (ledger t)) ≤ length ys
        → Refutes m s (ledger t ++ (e ∷ [])) ys
        → Shown m s (ledger t ++ (e ∷ [])) ys
    shown e ys sound enough refutes =
        let es = ledger t ++ (e ∷ []) in
        let sounds : All (Sound m s) es = All-push (Sound m s) (ledger t) e stands_sound sound in
        let long : length es ≤ length ys = omega (arith, length-append (ledger t) (e ∷ [])) in
        record {
          refutes = refutes;
          checked = λ f usable same_shape same-ties. (
            record {
              usable = usable;
              enough = subst (λ (q : List Equation). length q ≤ length ys) (sym same-ties) long;
              sound = subst₂ (λ (z : Shape) (q : List Equation). All (Sound m z) q) (sym same_shape) (sym same-ties) sounds;
            },
            subst₂ (λ (z : Shape) (q : List Equation). Refutes m z q ys) (sym same_shape) (sym same-ties) refutes,
          );
        }

    module _ (e : Equation) (sound : Sound m s e) (k : Pivot) (pivots : Pivots m s e xs k) where
      abbrev v : ℕ
      v = m.level k.divisor

      -- there are as many digits free as the tie fixes
      pub enough_free : v ≤ m.level (rest m s e xs) → digits m - v ≤ t.free
      enough_free low =
          (fall m l s within ks (length ks) xs t.free (le_refl (length ks)) stands
          (built_count m l s within ks (length ks) xs t.free (le_refl (length ks)) stands)
          e k.number v sound pivots.formed.number (ap m.level (sym pivots.divisor)) (least m l s e xs k pivots) low).0

      pub contradictory : m.level (rest m s e xs) < v → Contradictory m s (ledger t ++ (e ∷ []))
      contradictory low =
          let here = pivots.divisor in
          subst (λ (es : List Equation). Contradictory m s (es ++ (e ∷ []))) whole
          (refused m l s within ks (length ks) xs t.free (le_refl (length ks)) stands e sound k.number
          (λ i h. rw (← here) (least m l s e xs k pivots i h)) (rw (← here) low))

  -- the tie is taken in
  module _ (within : Within m s) (stands : Stands m s t) (e : Equation) (new : Table) (fixed : ℕ) (took : TakenIn m s e t new fixed) where
    pub taken_stands : Stands m s new
    taken_stands =
        let k = took.last in
        let more : Built m s (ks ++ (k ∷ [])) (suc (length ks)) (vec_items new.rows) new.free = (
          xs,
          t.free,
          built_agree m s ks (ks ++ (k ∷ [])) (length ks) xs t.free (λ i h. sym (behind ks k i h)) stands,
          subst (λ (q : Standing). Stepped m s q xs (vec_items new.rows) t.free new.free)
              (sym (get_or_at ks k [] nobody (length ks) refl)) took.stepped,
        )
        in
        let long : suc (length ks) ≡ length (ks ++ (k ∷ [])) = sym (length-append ks (k ∷ []) ∙ omega arith) in
        subst (λ (q : List Standing). Built m s q (length q) (vec_items new.rows) new.free) (sym took.standing)
        (subst (λ (n : ℕ). Built m s (ks ++ (k ∷ [])) n (vec_items new.rows) new.free) long more)

    pub taken_ledger : ledger new ≡ ledger t ++ (e ∷ [])
    taken_ledger =
        ap (map equation_of) took.standing
        ∙ map-append equation_of ks (took.last ∷ [])
        ∙ ap (λ q. ledger t ++ (q ∷ [])) took.equation

pub accepted :
    (m : Meaning) (l : Laws m) (s : Shape) (t new : Table) (e : Equation) (fixed : ℕ)
    → Within m s
    → Stands m s t
    → Sound m s e
    → length (ledger t) < 64
    → TakenIn m s e t new fixed
    → Accepted m s (ledger t) e fixed
accepted m l s t new e fixed within stands sound room took =
    let after = taken_stands m l s t within stands e new fixed took in
    let grows = taken_ledger m l s t within stands e new fixed took in
    record {
      sound = sound;
      room = room;
      some = (
        point_of s (vec_items new.rows),
        subst (λ (es : List Equation). Solves m s es (point_of s (vec_items new.rows))) grows (stands_solved m l s new within after),
      );
      before = t.free;
      after = new.free;
      count_before = stands_count m l s t within stands;
      count_after = subst (λ (es : List Equation). Count m s es new.free) grows (stands_count m l s new within after);
      fell = took.fell;
    }

-- a table whose last tie is taken off: the rows before its step are made by the others
pub last_step :
    (m : Meaning) (s : Shape) (t : Table) (qs : List Standing) (k : Standing)
    → vec_items t.standing ≡ qs ++ (k ∷ [])
    → Stands m s t
    → (xs : List ℕ)
    × (g : ℕ)
    × Built m s qs (length qs) xs g
    × Stepped m s k xs (vec_items t.rows) g t.free
last_step m s t qs k is stands =
    let all = qs ++ (k ∷ []) in
    let long : length all ≡ suc (length qs) = length-append qs (k ∷ []) ∙ omega arith in
    let built : Built m s all (suc (length qs)) (vec_items t.rows) t.free =
    subst (λ (n : ℕ). Built m s all n (vec_items t.rows) t.free) long
    (subst (λ (q : List Standing). Built m s q (length q) (vec_items t.rows) t.free) is stands)
    in (
      built.0,
      built.1,
      built_agree m s all qs (length qs) built.0 built.1 (λ i h. behind qs k i h) built.2,
      subst (λ (q : Standing). Stepped m s q built.0 (vec_items t.rows) built.1 t.free) (get_or_at qs k [] nobody (length qs) refl)
          built.3,
    )
