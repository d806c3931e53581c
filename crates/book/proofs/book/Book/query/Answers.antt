use Rattle.std.proofs.Common.{◌≡◌, ℕ, ◌≤◌, length, vec_items, refl, ◌∙◌, ap₂, arith, rules}
use Rattle.ties.specs.Equations.{equation, total}
use Rattle.ties.specs.Layouts.{places, shape}
use Rattle.multipliers.proofs.Trusted.{right_code}
use Rattle.book.specs.Sheets.{point_of}
use Rattle.book.proofs.Books.{rows_sheet}
use Rattle.book.proofs.Filling.{negative_is, part_codes, sum_is}
use Rattle.book.proofs.Queries.{queried}
use Rattle.book.proofs.Spots.{cut_long, total_cut}
use Rattle.book.proofs.book.Book.query.Goals as goal

pub slice_bounds-total_at-end : goal.slice_bounds-total_at-end
slice_bounds-total_at-end g c =
    let rows = rows_sheet g.met.S.Scale.lawful c.self.invariant _ c.deref-rows.ensures.value in
    let short : c.places.result ≤ length c.deref-rows.result.now = omega (arith, rows.1, c.places.ensures.0) in
    search rules

pub total_at-total-requires : goal.total_at-total-requires
total_at-total-requires g c =
    let b = c.self.inside in
    let rows = rows_sheet g.met.S.Scale.lawful c.self.invariant _ c.deref-rows.ensures.value in
    let n : ℕ = places (shape b.layout) in
    let long = cut_long c.deref-rows.result.now 0 0 _ n refl c.places.ensures.0 (omega (arith, rows.1)) in
    record {
      codes = rw c.in_ok-sound.ensures.2 (part_codes _ (g.met.S.Scale.lawful b.scale) 0 _ _ rows.0);
      whole = rw c.in_ok-sound.ensures.3 (omega (arith, long));
    }

pub totals_at-requires : goal.totals_at-requires
totals_at-requires g c =
    let rows = rows_sheet g.met.S.Scale.lawful c.self.invariant _ c.deref-rows.ensures.value in
    record { codes = rw c.in_ok-sound.ensures.2 rows.0; size = rw c.in_ok-sound.ensures.3 rows.1; blank = c.new-totals.ensures }

pub returns : goal.returns
returns g c =
    let b = c.self.inside in
    let m = g.S.Scale.meaning b.scale in
    let l = g.met.S.Scale.lawful b.scale in
    let s = shape b.layout in
    let e = equation c.args.tie.now in
    let checked = c.in_ok-sound.ensures in
    let sound = checked.0 in
    let reached = rw (checked.1, checked.2, checked.3) at c.total_at-total.ensures in
    let totals = rw (checked.1, checked.2, checked.3, c.deref-rows.ensures.value) at c.totals_at.ensures in
    let settled = rw (checked.1, checked.2, checked.3, c.deref.ensures.0) at c.settled_digits.ensures in
    let total_is : c.total_at-total.result ≡ total m e.terms (point_of s (vec_items b.table.rows)) =
    rw (← c.deref-rows.ensures.value)
    (reached.1 ∙ total_cut m s e.terms c.deref-rows.result.now 0 0 _ sound.exist refl c.places.ensures.0)
    in
    let away = negative_is m l e.right c.negative.result (right_code m l s e sound) c.negative.ensures in
    let sum = sum_is m l c.total_at-total.result c.negative.result c.sum.result reached.0 away.0 c.sum.ensures in
    rw (← c.self.view_is)
    (queried m l s b.table c.self.invariant.within c.self.invariant.stands e sound _ _
    (sum.1 ∙ ap₂ m.sum total_is away.1) totals settled)
