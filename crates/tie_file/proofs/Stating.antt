-- What a file states whose parts are all there, and that no other bytes state the same.
use Rattle.std.proofs.Common.{◌≡◌, ℕ, zero, suc, ◌+◌, ◌*◌, ◌<◌, ◌≤◌, List, [], length, map, take, drop, sym, refl, ap, ap₂, ◌∙◌, subst, arith, ext_get_or}
use Rattle.std.specs.List.{range_with_len, between}
use Rattle.std.proofs.lemmas.List.{get_or-drop, length-drop, length-take-le}
use Rattle.std.proofs.lemmas.List.FromFn.{get_or-map-range_with_len, length-map-range_with_len}
use Rattle.std.proofs.lemmas.Slice.{between_to_end}
use Rattle.scale.specs.declared.Mark.{Mark}
use Rattle.ties.specs.declared.tie.Term.{Term}
use Rattle.ties.specs.Equations.{Equation, nth_equation, term_at}
use Rattle.ties.specs.Layouts.{Shape, counters_of}
use Rattle.tie_file.specs.Table.{TieLength, WellFormed, body_at, byte, end_before, extent_at, kind_at, start_at}
use Rattle.tie_file.specs.Bodies.{equation_of, equations, file_mark, file_shape, long, shape_of, term_in, terms_in}
use Rattle.tie_file.specs.Writing.{States, tie_size, ties_end}
use Rattle.tie_file.specs.Putting.{LineAt, TermAt, TieAt}
use Rattle.tie_file.proofs.Bytes.{part_byte}
use Rattle.tie_file.proofs.Laying.{Laid, ends_before, ends_more}
use Rattle.tie_file.proofs.WellFormed.{equations_at, equations_length}

-- records by their parts
abbrev term_with : ℕ → ℕ → ℕ → Term
term_with h c v = record { head = h; counter = c; factor = v }

term_is : (h c v : ℕ) (t : Term) → h ≡ t.head → c ≡ t.counter → v ≡ t.factor → term_with h c v ≡ t
term_is h c v t a b d =
    ap (λ x. term_with x c v) a ∙ ap (λ y. term_with t.head y v) b ∙ ap (term_with t.head t.counter) d

abbrev equation_with : ℕ → ℕ → List Term → Equation
equation_with n r ts = record { target = n; right = r; terms = ts }

equation_parts :
    (n r : ℕ) (ts : List Term) (e : Equation)
    → n ≡ e.target
    → r ≡ e.right
    → ts ≡ e.terms
    → equation_with n r ts ≡ e
equation_parts n r ts e a b d =
    ap (λ x. equation_with x r ts) a ∙ ap (λ y. equation_with e.target y ts) b ∙ ap (equation_with e.target e.right) d

-- the body of entry i, by what its line says
module _ (f : List ℕ) (i k at size : ℕ) (line : LineAt f i k at size) (within : at + size ≤ length f) where
  body_is : body_at f i ≡ take size (drop at f)
  body_is = ap₂ (λ (n s : ℕ). take n (drop s f)) line.extent line.start

  body_size : length (body_at f i) ≡ size
  body_size = ap length body_is ∙ length-take-le size (drop at f) (let left = length-drop at f in omega arith)

  body_byte : (j n : ℕ) → j < size → at + j ≡ n → byte (body_at f i) j ≡ byte f n
  body_byte j n h e = part_byte f (body_at f i) at size j n body_is h e

  body_long : (j n : ℕ) → j + 4 ≤ size → at + j ≡ n → long (body_at f i) j ≡ long f n
  body_long j n h e =
      let a = body_byte j n (omega (arith, h)) e in
      let b = body_byte (j + 1) (n + 1) (omega (arith, h)) (omega (arith, e)) in
      let c = body_byte (j + 2) (n + 2) (omega (arith, h)) (omega (arith, e)) in
      let d = body_byte (j + 3) (n + 3) (omega (arith, h)) (omega (arith, e)) in
      omega (arith, a, b, c, d)

terms_are :
    (b : List ℕ) (ts : List Term)
    → length b ≡ 5 + 6 * length ts
    → ((i : ℕ) → i < length ts → term_in b i ≡ term_at ts i)
    → map (term_in b) (range_with_len 0 (terms_in b)) ≡ ts
terms_are b ts size each =
    ext_get_or (record { head = 0; counter = 0; factor = 0 }) (map (term_in b) (range_with_len 0 (terms_in b))) ts
    (length-map-range_with_len (term_in b) 0 (terms_in b) ∙ count)
    (λ i h.
    let below : i < terms_in b = omega (arith, h, length-map-range_with_len (term_in b) 0 (terms_in b)) in
    get_or-map-range_with_len (term_in b) 0 (terms_in b) i i (record { head = 0; counter = 0; factor = 0 }) below (omega arith)
    ∙ each i (omega (arith, below, count)))
  where
    count : terms_in b ≡ length ts
    count = omega (arith, size)

-- the tie that is entry i
stated :
    (f : List ℕ) (i at : ℕ) (e : Equation)
    → TieAt f i at e
    → at + tie_size e ≤ length f
    → equation_of (body_at f i) ≡ e
stated f i at e there within =
    equation_parts _ _ _ e (byte_at 0 at (omega arith) (omega arith) ∙ there.target) (long_at 1 (at + 1) (omega arith) refl ∙ there.right)
    (terms_are (body_at f i) e.terms (body_size f i 2 at (tie_size e) there.line within) each)
  where
    byte_at : (j n : ℕ) → j < tie_size e → at + j ≡ n → byte (body_at f i) j ≡ byte f n
    byte_at = body_byte f i 2 at (tie_size e) there.line within

    long_at : (j n : ℕ) → j + 4 ≤ tie_size e → at + j ≡ n → long (body_at f i) j ≡ long f n
    long_at = body_long f i 2 at (tie_size e) there.line within

    each : (j : ℕ) → j < length e.terms → term_in (body_at f i) j ≡ term_at e.terms j
    each j h =
        let there : TermAt f (at + 5 + 6 * j) (term_at e.terms j) = there.terms j h in
        term_is _ _ _ (term_at e.terms j)
        (byte_at (5 + 6 * j) (at + 5 + 6 * j) (omega (arith, h)) (omega arith) ∙ there.0)
        (byte_at (6 + 6 * j) (at + 5 + 6 * j + 1) (omega (arith, h)) (omega arith) ∙ there.1)
        (long_at (7 + 6 * j) (at + 5 + 6 * j + 2) (omega (arith, h)) (omega arith) ∙ there.2)

module _ (k : Mark) (s : Shape) (es : List Equation) (f : List ℕ) (laid : Laid k s es f) where
  abbrev first : ℕ
  first = 1 + 5 * suc (length es)

  tie_within : (i : ℕ) → i < length es → ties_end s es i + tie_size (nth_equation es i) ≤ length f
  tie_within i h = let ends = ends_before k s es i (length es) h (omega arith) in omega (arith, ends, laid.size)

  layout_within : first + (5 + counters_of s) ≤ length f
  layout_within = omega (arith, laid.size)

  layout_byte : (j n : ℕ) → j < 5 + counters_of s → first + j ≡ n → byte (body_at f 0) j ≡ byte f n
  layout_byte = body_byte f 0 1 first (5 + counters_of s) laid.layout.line layout_within

  mark_stated : file_mark f ≡ k
  mark_stated =
      let with : ℕ → ℕ → ℕ → Mark = λ x y z. record { kind = x; base = y; length = z } in
      let b = body_at f 0 in
      ap (λ x. with x (byte b 1) (byte b 2)) (layout_byte 0 first (omega arith) (omega arith) ∙ laid.layout.kind)
      ∙ ap (λ y. with k.kind y (byte b 2)) (layout_byte 1 (first + 1) (omega arith) refl ∙ laid.layout.base)
      ∙ ap (with k.kind k.base) (layout_byte 2 (first + 2) (omega arith) refl ∙ laid.layout.length)

  widths_stated : between 5 (length (body_at f 0)) (body_at f 0) ≡ s.widths
  widths_stated =
      let b = body_at f 0 in
      let size : length b ≡ 5 + counters_of s = body_size f 0 1 first (5 + counters_of s) laid.layout.line layout_within in
      let count : length (drop 5 b) ≡ counters_of s = let left = length-drop 5 b in omega (arith, size, left) in
      between_to_end b 5 (length b) (omega arith)
      ∙ ext_get_or 0 (drop 5 b) s.widths count
      (λ i h.
      get_or-drop 5 b i 0
      ∙ layout_byte (5 + i) (first + 5 + i) (omega (arith, h, count)) (omega arith)
      ∙ laid.layout.widths i (omega (arith, h, count)))

  shape_stated : file_shape f ≡ s
  shape_stated =
      let with : ℕ → List ℕ → Shape = λ h ws. record { heads = h; widths = ws } in
      ap (λ h. with h (shape_of (body_at f 0)).widths) (layout_byte 3 (first + 3) (omega arith) refl ∙ laid.layout.heads)
      ∙ ap (with s.heads) widths_stated

  equations_stated : equations f ≡ es
  equations_stated =
      let count : length (equations f) ≡ length es = let n = equations_length f in omega (arith, n, laid.count) in
      ext_get_or none (equations f) es count
      (λ i h.
      let below : i < length es = omega (arith, h, count) in
      equations_at f i none (omega (arith, below, laid.count))
      ∙ (let one : suc i ≡ i + 1 = omega arith in subst (λ (j : ℕ). equation_of (body_at f j) ≡ nth_equation es i) one
      (stated f (suc i) (ties_end s es i) (nth_equation es i) (laid.ties i below) (tie_within i below))))
    where
      none : Equation
      none = record { target = 0; right = 0; terms = [] }

  -- where the entries end
  entry_end : (i : ℕ) → i ≤ length es → end_before f (suc i) ≡ ties_end s es i
  entry_end zero h = ap₂ (λ (a b : ℕ). a + b) laid.layout.line.start laid.layout.line.extent ∙ omega arith
  entry_end (suc i) h =
      let line = (laid.ties i (omega (arith, h))).line in
      let more = ends_more s es i (omega (arith, h)) in
      (let one : i + 1 ≡ suc i = omega arith in
      ap₂ (λ (a b : ℕ). a + b) line.start line.extent ∙ sym more ∙ ap (ties_end s es) one)

  -- the file is well formed, where its ties have 32 terms at most and it is short enough
  formed :
      length es ≤ 64
      → length f ≤ 16384
      → ((i : ℕ) → i < length es → tie_size (nth_equation es i) ≤ 197)
      → WellFormed f
  formed few short small =
      record {
        table = record {
          some = omega (arith, laid.size);
          most = short;
          first = omega (arith, laid.count);
          last = omega (arith, laid.count, few);
          whole = omega (arith, laid.count, laid.size);
        };
        entries = record {
          layout = laid.layout.line.kind;
          ties = λ i l h. tie_kind i l (omega (arith, h, laid.count));
          gapless = λ i h. follows i (omega (arith, h, laid.count));
          ends = ap (end_before f) laid.count ∙ entry_end (length es) (omega arith) ∙ sym laid.size;
        };
        bodies = record {
          layout_least = omega (arith, laid.layout.line.extent);
          layout = laid.layout.line.extent
              ∙ ap (λ (n : ℕ). 5 + n) (sym (ap (λ (n : ℕ). byte f (n + 4)) laid.layout.line.start ∙ laid.layout.counters));
          ties = λ i l h. tie_length i l (omega (arith, h, laid.count));
        };
      }
    where
      tie_kind : (i : ℕ) → 1 ≤ i → i ≤ length es → kind_at f i ≡ 2
      tie_kind zero l h = absurd (omega (arith, l))
      tie_kind (suc i) l h = (laid.ties i (omega (arith, h))).line.kind

      follows : (i : ℕ) → i ≤ length es → start_at f i ≡ end_before f i
      follows zero h = laid.layout.line.start ∙ omega (arith, laid.count)
      follows (suc i) h =
          (laid.ties i (omega (arith, h))).line.start ∙ sym (entry_end i (omega (arith, h)))

      tie_length : (i : ℕ) → 1 ≤ i → i ≤ length es → TieLength (extent_at f i)
      tie_length zero l h = absurd (omega (arith, l))
      tie_length (suc i) l h =
          let b = small i (omega (arith, h)) in
          (length (nth_equation es i).terms, omega (arith, b), (laid.ties i (omega (arith, h))).line.extent)

  pub states :
      length es ≤ 64
      → length f ≤ 16384
      → ((i : ℕ) → i < length es → tie_size (nth_equation es i) ≤ 197)
      → States k s es f
  states few short small =
      record {
        formed = formed few short small;
        mark = mark_stated;
        shape = shape_stated;
        equations = equations_stated;
      }
