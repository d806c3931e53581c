-- What a well-formed file has: each entry with its body, the layout's first, and ties that can be read.
use Rattle.std.proofs.Common.{◌≡◌, ℕ, zero, suc, ◌+◌, ◌-◌, ◌<◌, ◌≤◌, ◌⊎◌, List, length, get_or, drop, refl, ap, ◌∙◌, subst, inl, inr, add-zero, add-suc, arith, Bor}
use Rattle.std.proofs.lemmas.List.{length-take-le, length-drop}
use Rattle.std.proofs.lemmas.List.Edits.{length-between}
use Rattle.std.proofs.lemmas.List.FromFn.{length-map-range_with_len, get_or-map-range_with_len}
use Rattle.ties.specs.declared.tie.Term.{Term}
use Rattle.ties.specs.Equations.{Equation}
use Rattle.ties.specs.Layouts.{Shape}
use Rattle.tie_file.specs.declared.entry.Entry.{Entry}
use Rattle.tie_file.specs.declared.entry.Entry.TheVariants.{Layout, Tie}
use Rattle.tie_file.specs.declared.body.LayoutBody.{LayoutBody}
use Rattle.tie_file.specs.Table.{WellFormed, HasTable, HasEntries, HasBodies, TieLength, byte, entries, kind_at, start_at, extent_at, body_at, end_before}
use Rattle.tie_file.specs.Steps.{LayoutLength}
use Rattle.tie_file.specs.Bodies.{equation_of, equations, file_shape, shape_of}
use Rattle.tie_file.specs.Reading.{HasLayout, HasReadableTie, HasTie, HasEntry, IsEntry, IsLayout, shape_in}
use Rattle.tie_file.proofs.Bytes.{part_byte}

-- no part of a gapless file ends before one that stands earlier
grows : (f : List ℕ) → HasEntries f → (d i : ℕ) → i + d ≤ entries f → end_before f i ≤ end_before f (i + d)
grows f e zero i h = rw add-zero (omega arith)
grows f e (suc d) i h =
    let less : i + d < entries f = omega arith in
    let before : end_before f i ≤ end_before f (i + d) = grows f e d i (omega arith) in
    let here : start_at f (i + d) ≡ end_before f (i + d) = e.gapless (i + d) less in
    rw add-suc (omega arith)

-- a body lies within the file
pub body_within :
    (f : List ℕ) → HasEntries f → (i : ℕ) → i < entries f → start_at f i + extent_at f i ≤ length f
body_within f e i h =
    let d : ℕ = entries f - suc i in
    let all : suc i + d ≡ entries f = omega arith in
    let P : ℕ → Type 0 = λ n. start_at f i + extent_at f i ≤ end_before f n in
    let last : start_at f i + extent_at f i ≤ end_before f (entries f) = subst P all (grows f e d (suc i) (omega arith)) in
    omega (arith, e.ends)

known : (f : List ℕ) → HasEntries f → (i : ℕ) → i < entries f → (kind_at f i ≡ 1) ⊎ (kind_at f i ≡ 2)
known f e zero h = inl e.layout
known f e (suc i) h = inr (e.ties (suc i) (omega arith) h)

-- each entry is there
pub entry_there : (f : List ℕ) → HasTable f → HasEntries f → (i : ℕ) → i < entries f → HasEntry f i
entry_there f t e i h =
    record { listed = omega (arith, t.whole); known = known f e i h; within = body_within f e i h }

-- the first entry is no tie, and no other is a layout
pub first_no_tie : (f : List ℕ) → HasEntries f → (b : Bor (List ℕ)) → IsEntry f 0 (Tie b) → ⊥
first_no_tie f e b is = omega (arith, e.layout, is.0)

pub other_no_layout :
    (f : List ℕ) → HasEntries f → (i : ℕ) → 1 ≤ i → i < entries f → (b : Bor (List ℕ)) → IsEntry f i (Layout b) → ⊥
other_no_layout f e i l h b is = omega (arith, e.ties i l h, is.0)

-- so the first is the layout, and the others are ties
pub first_is_layout :
    (f : List ℕ) → HasEntries f → (x : Entry) → IsEntry f 0 x
    → (b : Bor (List ℕ)) × (x ≡ Layout b) × (b.now ≡ body_at f 0)
first_is_layout f e (Layout b) is = (b, refl, is.1)
first_is_layout f e (Tie b) is = absurd (first_no_tie f e b is)

pub other_is_tie :
    (f : List ℕ) → HasEntries f → (i : ℕ) → 1 ≤ i → i < entries f → (x : Entry) → IsEntry f i x
    → (b : Bor (List ℕ)) × (x ≡ Tie b) × (b.now ≡ body_at f i)
other_is_tie f e i l h (Tie b) is = (b, refl, is.1)
other_is_tie f e i l h (Layout b) is = absurd (other_no_layout f e i l h b is)

-- a body is as long as its entry says
pub body_length : (f : List ℕ) (i : ℕ) → HasEntry f i → length (body_at f i) ≡ extent_at f i
body_length f i e =
    length-take-le (extent_at f i) (drop (start_at f i) f)
    (let left = length-drop (start_at f i) f in omega (arith, e.within))

-- the layout's body has five bytes, and a width for each counter
pub layout_whole : (f : List ℕ) → HasTable f → HasEntries f → HasBodies f → LayoutLength (body_at f 0)
layout_whole f t e b =
    let size = body_length f 0 (entry_there f t e 0 t.first) in
    let fifth =
    part_byte f (body_at f 0) (start_at f 0) (extent_at f 0) 4 (start_at f 0 + 4) refl (omega (arith, b.layout_least)) refl in
    (omega (arith, b.layout_least), omega (arith, b.layout))

-- what is read of the layout's body is the shape that it states
pub layout_shape : (b : List ℕ) (l : LayoutBody) → IsLayout b l → shape_in l ≡ shape_of b
layout_shape b l is =
    let with : ℕ → List ℕ → Shape = λ h ws. record { heads = h; widths = ws } in
    ap (λ (h : ℕ). with h l.widths.now) is.heads ∙ ap (with (shape_of b).heads) is.widths

-- the layout states as many widths as counters
pub layout_widths :
    (f : List ℕ) → HasTable f → HasEntries f → HasBodies f → length (file_shape f).widths ≡ byte (body_at f 0) 4
layout_widths f t e b =
    let whole = layout_whole f t e b in
    let n = length-between (body_at f 0) 5 (length (body_at f 0)) (omega arith) in
    omega (arith, whole.1)

-- a tie's body is as long as its terms make it
pub tie_whole :
    (f : List ℕ) → HasTable f → HasEntries f → HasBodies f → (i : ℕ) → 1 ≤ i → i < entries f
    → TieLength (length (body_at f i))
tie_whole f t e b i l h =
    let size = body_length f i (entry_there f t e i h) in
    let fits = b.ties i l h in
    (fits.0, fits.1, size ∙ fits.2)

-- the equations of a file, one by one
pub equations_length : (f : List ℕ) → length (equations f) ≡ entries f - 1
equations_length f = length-map-range_with_len (λ i. equation_of (body_at f i)) 1 (entries f - 1)

pub equations_at :
    (f : List ℕ) (i : ℕ) (d : Equation) → i + 1 < entries f → get_or (equations f) i d ≡ equation_of (body_at f (i + 1))
equations_at f i d h =
    get_or-map-range_with_len (λ i. equation_of (body_at f i)) 1 (entries f - 1) i (i + 1) d (omega arith) (omega arith)

-- so its layout and its ties can be read
pub layout_there : (f : List ℕ) → WellFormed f → HasLayout f
layout_there f w =
    let whole = layout_whole f w.table w.entries w.bodies in
    (entry_there f w.table w.entries 0 w.table.first, w.entries.layout, whole.0)

pub tie_there : (f : List ℕ) → WellFormed f → (i : ℕ) → i + 1 < entries f → HasTie f i
tie_there f w i h = (
  entry_there f w.table w.entries (i + 1) h,
  w.entries.ties (i + 1) (omega arith) h,
  tie_whole f w.table w.entries w.bodies (i + 1) (omega arith) h,
)

-- and a room of 32 takes the terms of each tie
pub tie_readable :
    (f : List ℕ) → WellFormed f → (i : ℕ) → i + 1 < entries f → (room : List Term) → 32 ≤ length room
    → HasReadableTie f i room
tie_readable f w i h room r =
    let there = tie_there f w i h in
    let fits = there.2 in
    (there.0, there.1, (fits.0, fits.1, fits.2, omega (arith, fits.1)))
