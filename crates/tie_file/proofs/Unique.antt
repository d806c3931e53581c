-- No two files of bytes state the same mark, shape and equations.
use Rattle.std.proofs.Common.{◌≡◌, ℕ, zero, suc, ◌+◌, ◌*◌, ◌/◌, ◌%◌, ◌<◌, ◌≤◌, ◌++◌, List, [], length, take, drop, get_or, sym, refl, ap, ap₂, ◌∙◌, subst, arith, ext_get_or}
use Rattle.std.proofs.Math.Seq.{take-add}
use Rattle.std.proofs.lemmas.List.{get_or-drop, get_or-take, length-drop, length-take-le, take_all}
use Rattle.std.proofs.lemmas.List.FromFn.{get_or-map-range_with_len, length-map-range_with_len}
use Rattle.std.proofs.lemmas.Slice.{between_to_end}
use Rattle.scale.specs.declared.Mark.{Mark}
use Rattle.ties.specs.declared.tie.Term.{Term}
use Rattle.ties.specs.Equations.{Equation, nth_equation}
use Rattle.ties.specs.Layouts.{Shape, counters_of}
use Rattle.tie_file.specs.Table.{TieLength, body_at, byte, end_before, entries, extent_at, kind_at, start_at, word}
use Rattle.tie_file.specs.Bodies.{equation_of, long, mark_of, shape_of, term_in, terms_in}
use Rattle.tie_file.specs.Writing.{Bytes, States, file_size, tie_size, ties_end}
use Rattle.tie_file.proofs.Bytes.{part_byte}
use Rattle.tie_file.proofs.Laying.{ends_more}
use Rattle.tie_file.proofs.WellFormed.{body_length, entry_there, equations_at, equations_length, layout_whole, tie_whole}

-- a number of several bytes tells each of them
words : (a b c d : ℕ) → a < 256 → c < 256 → a + 256 * b ≡ c + 256 * d → (a ≡ c) × (b ≡ d)
words a b c d l m e = (omega arith, omega arith)

abbrev Within : List ℕ → Type 0
Within b = (i : ℕ) → i < length b → byte b i < 256

longs :
    (b c : List ℕ) (i : ℕ)
    → Within b
    → Within c
    → length b ≡ length c
    → i + 4 ≤ length b
    → long b i ≡ long c i
    → (d : ℕ) → d < 4 → byte b (i + d) ≡ byte c (i + d)
longs b c i wb wc size h e = go
  where
    first : (byte b i ≡ byte c i) × (byte b (i + 1) + 256 * byte b (i + 2) + 65536 * byte b (i + 3) ≡ byte c (i + 1) + 256 * byte c (i + 2) + 65536 * byte c (i + 3))
    first = let x = wb i (omega (arith, h)) in let y = wc i (omega (arith, h, size)) in (omega (arith, x, y, e), omega (arith, x, y, e))

    second : (byte b (i + 1) ≡ byte c (i + 1)) × (byte b (i + 2) + 256 * byte b (i + 3) ≡ byte c (i + 2) + 256 * byte c (i + 3))
    second = let x = wb (i + 1) (omega (arith, h)) in let y = wc (i + 1) (omega (arith, h, size)) in (omega (arith, x, y, first.1), omega (arith, x, y, first.1))

    third : (byte b (i + 2) ≡ byte c (i + 2)) × (byte b (i + 3) ≡ byte c (i + 3))
    third = let x = wb (i + 2) (omega (arith, h)) in let y = wc (i + 2) (omega (arith, h, size)) in (omega (arith, x, y, second.1), omega (arith, x, y, second.1))

    go : (d : ℕ) → d < 4 → byte b (i + d) ≡ byte c (i + d)
    go zero l = (let z : i + 0 ≡ i = omega arith in subst (λ (n : ℕ). byte b n ≡ byte c n) (sym z) first.0)
    go (suc zero) l = second.0
    go (suc (suc zero)) l = third.0
    go (suc (suc (suc zero))) l = third.1
    go (suc (suc (suc (suc d)))) l = absurd (omega (arith, l))

-- a layout's body is told by what it holds
layouts :
    (b c : List ℕ)
    → length b ≡ length c
    → 5 ≤ length b
    → byte b 4 ≡ byte c 4
    → mark_of b ≡ mark_of c
    → shape_of b ≡ shape_of c
    → b ≡ c
layouts b c size least fifth marks shapes = ext_get_or 0 b c size (λ i h. go i h)
  where
    rest : drop 5 b ≡ drop 5 c
    rest = sym (between_to_end b 5 (length b) (omega arith)) ∙ ap (λ (s : Shape). s.widths) shapes ∙ between_to_end c 5 (length c) (omega arith)

    go : (i : ℕ) → i < length b → byte b i ≡ byte c i
    go zero h = ap (λ (k : Mark). k.kind) marks
    go (suc zero) h = ap (λ (k : Mark). k.base) marks
    go (suc (suc zero)) h = ap (λ (k : Mark). k.length) marks
    go (suc (suc (suc zero))) h = ap (λ (s : Shape). s.heads) shapes
    go (suc (suc (suc (suc zero)))) h = fifth
    go (suc (suc (suc (suc (suc i))))) h =
        (let e : 5 + i ≡ suc (suc (suc (suc (suc i)))) = omega arith in
        subst (λ (n : ℕ). byte b n ≡ byte c n) e
        (sym (get_or-drop 5 b i 0) ∙ ap (λ (r : List ℕ). byte r i) rest ∙ get_or-drop 5 c i 0))

-- so is a tie's
ties :
    (b c : List ℕ)
    → Within b
    → Within c
    → length b ≡ length c
    → TieLength (length b)
    → equation_of b ≡ equation_of c
    → b ≡ c
ties b c wb wc size fits same = ext_get_or 0 b c size go
  where
    t : ℕ
    t = fits.0

    count : terms_in b ≡ t
    count = omega (arith, fits.2)

    counted : terms_in c ≡ t
    counted = omega (arith, fits.2, size)

    none : Term
    none = record { head = 0; counter = 0; factor = 0 }

    term : (i : ℕ) → i < t → term_in b i ≡ term_in c i
    term i h =
        sym (get_or-map-range_with_len (term_in b) 0 (terms_in b) i i none (omega (arith, h, count)) (omega arith))
        ∙ ap (λ (e : Equation). get_or e.terms i none) same
        ∙ get_or-map-range_with_len (term_in c) 0 (terms_in c) i i none (omega (arith, h, counted)) (omega arith)

    in_term : (i r : ℕ) → i < t → r < 6 → byte b (5 + 6 * i + r) ≡ byte c (5 + 6 * i + r)
    in_term i zero h l = (let e : 5 + 6 * i ≡ 5 + 6 * i + 0 = omega arith in
        subst (λ (n : ℕ). byte b n ≡ byte c n) e (ap (λ (x : Term). x.head) (term i h)))
    in_term i (suc zero) h l = (let e : 6 + 6 * i ≡ 5 + 6 * i + 1 = omega arith in
        subst (λ (n : ℕ). byte b n ≡ byte c n) e (ap (λ (x : Term). x.counter) (term i h)))
    in_term i (suc (suc d)) h l = (let e : 7 + 6 * i + d ≡ 5 + 6 * i + suc (suc d) = omega arith in
        subst (λ (n : ℕ). byte b n ≡ byte c n) e
        (longs b c (7 + 6 * i) wb wc size (omega (arith, h, fits.2)) (ap (λ (x : Term). x.factor) (term i h)) d (omega (arith, l))))

    go : (j : ℕ) → j < length b → byte b j ≡ byte c j
    go zero h = ap (λ (e : Equation). e.target) same
    go (suc zero) h = longs b c 1 wb wc size (omega (arith, fits.2)) (ap (λ (e : Equation). e.right) same) 0 (omega arith)
    go (suc (suc zero)) h = longs b c 1 wb wc size (omega (arith, fits.2)) (ap (λ (e : Equation). e.right) same) 1 (omega arith)
    go (suc (suc (suc zero))) h = longs b c 1 wb wc size (omega (arith, fits.2)) (ap (λ (e : Equation). e.right) same) 2 (omega arith)
    go (suc (suc (suc (suc zero)))) h = longs b c 1 wb wc size (omega (arith, fits.2)) (ap (λ (e : Equation). e.right) same) 3 (omega arith)
    go (suc (suc (suc (suc (suc j))))) h =
        (let e : 5 + 6 * (j / 6) + j % 6 ≡ suc (suc (suc (suc (suc j)))) = omega arith in
        subst (λ (n : ℕ). byte b n ≡ byte c n) e (in_term (j / 6) (j % 6) (omega (arith, h, fits.2)) (omega arith)))

-- what a file that states them has
module _ (k : Mark) (s : Shape) (es : List Equation) (f : List ℕ) (is : States k s es f) where
  count_stated : entries f ≡ suc (length es)
  count_stated =
      let n = equations_length f in
      let same = ap length is.equations in
      let some = is.formed.table.first in
      omega (arith, n, same, some)

  body_long : (i : ℕ) → i ≤ length es → length (body_at f i) ≡ extent_at f i
  body_long i h = body_length f i (entry_there f is.formed.table is.formed.entries i (omega (arith, h, count_stated)))

  body_bytes : Bytes f → (i : ℕ) → i ≤ length es → Within (body_at f i)
  body_bytes bytes i h j l =
      let same = part_byte f (body_at f i) (start_at f i) (extent_at f i) j (start_at f i + j) refl (omega (arith, l, body_long i h)) refl in
      omega (arith, same, bytes (start_at f i + j))

  equation_stated : (i : ℕ) → i < length es → equation_of (body_at f (suc i)) ≡ nth_equation es i
  equation_stated i h =
      let none : Equation = record { target = 0; right = 0; terms = [] } in
      let one : i + 1 ≡ suc i = omega arith in
      subst (λ (j : ℕ). equation_of (body_at f j) ≡ nth_equation es i) one
      (sym (equations_at f i none (omega (arith, h, count_stated))) ∙ ap (λ (xs : List Equation). get_or xs i none) is.equations)

  tie_fits : (i : ℕ) → i < length es → TieLength (length (body_at f (suc i)))
  tie_fits i h =
      tie_whole f is.formed.table is.formed.entries is.formed.bodies (suc i) (omega arith) (omega (arith, h, count_stated))

  layout_fits : (length (body_at f 0) ≡ 5 + counters_of s) × (byte (body_at f 0) 4 ≡ counters_of s)
  layout_fits =
      let b = body_at f 0 in
      let whole = layout_whole f is.formed.table is.formed.entries is.formed.bodies in
      let widths = ap length (sym (between_to_end b 5 (length b) (omega arith)) ∙ ap (λ (t : Shape). t.widths) is.shape) in
      let left = length-drop 5 b in
      (omega (arith, whole.0, widths, left), omega (arith, whole.0, whole.1, widths, left))

  tie_long : (i : ℕ) → i < length es → length (body_at f (suc i)) ≡ tie_size (nth_equation es i)
  tie_long i h =
      let b = body_at f (suc i) in
      let fits = tie_fits i h in
      let terms = ap (λ (e : Equation). length e.terms) (equation_stated i h) in
      let count = length-map-range_with_len (term_in b) 0 (terms_in b) in
      omega (arith, fits.2, terms, count)

  -- where its entries end, and so how long it is
  entry_ends : (i : ℕ) → i ≤ length es → end_before f (suc i) ≡ ties_end s es i
  entry_ends zero h =
      let start = is.formed.entries.gapless 0 (omega (arith, count_stated)) in
      let extent = sym (body_long 0 h) ∙ layout_fits.0 in
      omega (arith, start, extent, count_stated)
  entry_ends (suc i) h =
      let before = entry_ends i (omega (arith, h)) in
      let start = is.formed.entries.gapless (suc i) (omega (arith, h, count_stated)) in
      let extent = sym (body_long (suc i) h) ∙ tie_long i (omega (arith, h)) in
      let more = ends_more s es i (omega (arith, h)) in
      let one : i + 1 ≡ suc i = omega arith in
      omega (arith, before, start, extent, more, ap (ties_end s es) one)

  pub long_stated : length f ≡ file_size s es
  long_stated =
      sym (ap (end_before f) (sym count_stated) ∙ is.formed.entries.ends) ∙ entry_ends (length es) (omega arith)

module _ (k : Mark) (s : Shape) (es : List Equation) (f g : List ℕ) (bf : Bytes f) (bg : Bytes g) (is : States k s es f) (are : States k s es g)
  where
    same_count : entries f ≡ entries g
    same_count = count_stated k s es f is ∙ sym (count_stated k s es g are)

    same_extent : (i : ℕ) → i ≤ length es → extent_at f i ≡ extent_at g i
    same_extent zero h =
        sym (body_long k s es f is 0 h) ∙ (layout_fits k s es f is).0
        ∙ sym (layout_fits k s es g are).0 ∙ body_long k s es g are 0 h
    same_extent (suc i) h =
        sym (body_long k s es f is (suc i) h) ∙ tie_long k s es f is i (omega (arith, h))
        ∙ sym (tie_long k s es g are i (omega (arith, h))) ∙ body_long k s es g are (suc i) h

    same_end : (i : ℕ) → i ≤ suc (length es) → end_before f i ≡ end_before g i
    same_end zero h = ap (λ (n : ℕ). 1 + 5 * n) same_count
    same_end (suc i) h =
        let within : i ≤ length es = omega (arith, h) in
        entry_ends k s es f is i within ∙ sym (entry_ends k s es g are i within)

    same_start : (i : ℕ) → i ≤ length es → start_at f i ≡ start_at g i
    same_start i h =
        is.formed.entries.gapless i (omega (arith, h, count_stated k s es f is))
        ∙ same_end i (omega (arith, h))
        ∙ sym (are.formed.entries.gapless i (omega (arith, h, count_stated k s es g are)))

    same_body : (i : ℕ) → i ≤ length es → body_at f i ≡ body_at g i
    same_body zero h =
        let here = layout_fits k s es f is in
        let there = layout_fits k s es g are in
        layouts (body_at f 0) (body_at g 0) (here.0 ∙ sym there.0) (omega (arith, here.0)) (here.1 ∙ sym there.1)
        (is.mark ∙ sym are.mark) (is.shape ∙ sym are.shape)
    same_body (suc i) h =
        let l : i < length es = omega (arith, h) in
        ties (body_at f (suc i)) (body_at g (suc i))
        (body_bytes k s es f is bf (suc i) h) (body_bytes k s es g are bg (suc i) h)
        (tie_long k s es f is i l ∙ sym (tie_long k s es g are i l)) (tie_fits k s es f is i l)
        (equation_stated k s es f is i l ∙ sym (equation_stated k s es g are i l))

    same_kind : (i : ℕ) → i ≤ length es → kind_at f i ≡ kind_at g i
    same_kind zero h = is.formed.entries.layout ∙ sym are.formed.entries.layout
    same_kind (suc i) h =
        is.formed.entries.ties (suc i) (omega arith) (omega (arith, h, count_stated k s es f is))
        ∙ sym (are.formed.entries.ties (suc i) (omega arith) (omega (arith, h, count_stated k s es g are)))

    same_word : (n : ℕ) → word f n ≡ word g n → (byte f n ≡ byte g n) × (byte f (n + 1) ≡ byte g (n + 1))
    same_word n e = words (byte f n) (byte f (n + 1)) (byte g n) (byte g (n + 1)) (bf n) (bg n) e

    row : (i r : ℕ) → i ≤ length es → r < 5 → byte f (1 + 5 * i + r) ≡ byte g (1 + 5 * i + r)
    row i r h l = go r l
      where
        at : (a b : ℕ) → a ≡ b → byte f a ≡ byte g a → byte f b ≡ byte g b
        at a b e = subst (λ (n : ℕ). byte f n ≡ byte g n) e

        start : (byte f (2 + 5 * i) ≡ byte g (2 + 5 * i)) × (byte f (2 + 5 * i + 1) ≡ byte g (2 + 5 * i + 1))
        start = same_word (2 + 5 * i) (same_start i h)

        extent : (byte f (4 + 5 * i) ≡ byte g (4 + 5 * i)) × (byte f (4 + 5 * i + 1) ≡ byte g (4 + 5 * i + 1))
        extent = same_word (4 + 5 * i) (same_extent i h)

        go : (r : ℕ) → r < 5 → byte f (1 + 5 * i + r) ≡ byte g (1 + 5 * i + r)
        go zero b = at (1 + 5 * i) (1 + 5 * i + 0) (omega arith) (same_kind i h)
        go (suc zero) b = at (2 + 5 * i) (1 + 5 * i + 1) (omega arith) start.0
        go (suc (suc zero)) b = at (2 + 5 * i + 1) (1 + 5 * i + 2) (omega arith) start.1
        go (suc (suc (suc zero))) b = at (4 + 5 * i) (1 + 5 * i + 3) (omega arith) extent.0
        go (suc (suc (suc (suc zero)))) b = at (4 + 5 * i + 1) (1 + 5 * i + 4) (omega arith) extent.1
        go (suc (suc (suc (suc (suc d))))) b = absurd (omega (arith, b))

    same_table : take (end_before f 0) f ≡ take (end_before f 0) g
    same_table = ext_get_or 0 (take n f) (take n g) (long ∙ sym long_too) (λ i h. read i (omega (arith, h, long)))
      where
        n : ℕ
        n = end_before f 0

        long : length (take n f) ≡ n
        long = length-take-le n f is.formed.table.whole

        long_too : length (take n g) ≡ n
        long_too = length-take-le n g (omega (arith, are.formed.table.whole, same_count))

        byte_same : (i : ℕ) → i < n → byte f i ≡ byte g i
        byte_same zero h = same_count
        byte_same (suc i) h =
            (let e : 1 + 5 * (i / 5) + i % 5 ≡ suc i = omega arith in
            subst (λ (m : ℕ). byte f m ≡ byte g m) e
            (row (i / 5) (i % 5) (omega (arith, h, count_stated k s es f is)) (omega arith)))

        read : (i : ℕ) → i < n → get_or (take n f) i 0 ≡ get_or (take n g) i 0
        read i h = get_or-take n f i 0 h ∙ byte_same i h ∙ sym (get_or-take n g i 0 h)

    same_front : (i : ℕ) → i ≤ suc (length es) → take (end_before f i) f ≡ take (end_before f i) g
    same_front zero h = same_table
    same_front (suc i) h =
        let l : i ≤ length es = omega (arith, h) in
        let follows = is.formed.entries.gapless i (omega (arith, l, count_stated k s es f is)) in
        take-add (start_at f i) (extent_at f i) f
        ∙ ap₂ (λ (a b : List ℕ). a ++ b)
        (ap (λ (n : ℕ). take n f) follows ∙ same_front i (omega (arith, h)) ∙ ap (λ (n : ℕ). take n g) (sym follows))
        (same_body i l ∙ sym (ap₂ (λ (n m : ℕ). take n (drop m g)) (same_extent i l) (same_start i l)))
        ∙ sym (take-add (start_at f i) (extent_at f i) g)

    pub unique : f ≡ g
    unique =
        let all = ap (end_before f) (sym (count_stated k s es f is)) ∙ is.formed.entries.ends in
        let all_too = ap (end_before g) (sym (count_stated k s es g are)) ∙ are.formed.entries.ends in
        let long : end_before f (suc (length es)) ≡ length g = same_end (suc (length es)) (omega arith) ∙ all_too in
        sym (take_all (end_before f (suc (length es))) f (omega (arith, all)))
        ∙ same_front (suc (length es)) (omega arith)
        ∙ take_all (end_before f (suc (length es))) g (omega (arith, long))
