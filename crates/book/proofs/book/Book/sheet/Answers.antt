use Rattle.std.proofs.Common.{◌≡◌, ℕ, ◌<◌, List, ◌++◌, length, get_or, take, drop, vec_items, sym, refl, ap, ◌∙◌, subst, arith}
use lib.ListN.{get_or-append}
use Rattle.std.proofs.lemmas.List.{length-append, length-drop}
use lib.Seq.{drop-append_seam, take-append_seam}
use Rattle.scale.specs.Meaning.{Code}
use Rattle.ties.specs.Layouts.{places, shape}
use Rattle.book.specs.Drawing.{sheet_size}
use Rattle.book.specs.Standing.{ledger}
use Rattle.book.proofs.Books.{rows_sheet}
use Rattle.book.proofs.Posts.{stands_count, stands_exact}
use Rattle.book.proofs.Sheeted.{exact_alike}
use Rattle.book.proofs.Spots.{rows_size}
use Rattle.book.proofs.book.Book.sheet.Goals as goal

pub returns-then-list-size : goal.returns-then-list-size
returns-then-list-size g c =
    let b = c.self.inside in
    let size = (rows_sheet g.met.S.Scale.lawful c.self.invariant _ refl).1 in
    rw (← c.self.view_is)
    (omega (arith, rows_size (places (shape b.layout)), size, b.table.rows.ok.0, c.len-size.ensures, c.if-list-size.true), refl)

pub returns : goal.returns
returns g c =
    let b = c.self.inside in
    let m = g.S.Scale.meaning b.scale in
    let l = g.met.S.Scale.lawful b.scale in
    let s = shape b.layout in
    let rows = vec_items b.table.rows in
    let old = c.args.list.now in
    let ready = c.self.invariant in
    let codes = rows_sheet g.met.S.Scale.lawful ready rows refl in
    let n = c.len-size.result in
    let copied : c.copy_from_slice.new.self ≡ rows = c.copy_from_slice.ensures.after ∙ c.deref.ensures.value in
    let is : n ≡ length rows = c.len-size.ensures ∙ b.table.rows.ok.0 in
    let size : length rows ≡ sheet_size s = codes.1 ∙ rows_size (places s) in
    let new : List ℕ = c.copy_from_slice.new.self ++ drop n old in
    let read : (i : ℕ) → i < length rows → get_or rows i 0 ≡ get_or new i 0 =
    λ i h. sym (ap (λ q. get_or (q ++ drop n old) i 0) copied ∙ get_or-append rows (drop n old) 0 i h)
    in
    rw (← c.self.view_is)
    (record {
      drawn = record {
        room = omega (arith, c.if-list-size.false);
        long = omega (arith, length-append c.copy_from_slice.new.self (drop n old), length-drop n old, ap length copied, is, c.if-list-size.false);
        codes = λ i h. subst (Code m) (read i (omega arith)) (codes.0 i);
        exact = exact_alike m s (ledger b.table) rows new (λ i h. read i (omega (arith, codes.1))) (stands_exact m l s b.table ready.within ready.stands);
        count = stands_count m l s b.table ready.within ready.stands;
        kept =
            ap (λ k. drop k new) (sym size)
            ∙ ap (λ q. drop (length rows) (q ++ drop n old)) copied
            ∙ drop-append_seam rows (drop n old)
            ∙ ap (λ k. drop k old) (is ∙ size);
      };
      sheet =
          ap (λ k. take k new) (sym size)
          ∙ ap (λ q. take (length rows) (q ++ drop n old)) copied
          ∙ take-append_seam rows (drop n old);
      free = refl;
    })
