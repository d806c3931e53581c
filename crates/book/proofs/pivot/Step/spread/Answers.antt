use Rattle.std.proofs.Common.{ℕ, ◌+◌, ◌*◌, List, length, get_or, sym, ap, subst, arith}
use borrow.Rule.Slice.PartMut.{put_mid}
use Rattle.book.specs.Rows.{Codes}
use Rattle.book.proofs.Filling.{filled, part_codes, put_codes}
use Rattle.book.proofs.Spots.{row_inside}
use Rattle.book.proofs.Steps.{Spreading, spread_more, spread_pass}
use Rattle.book.proofs.pivot.Step.spread.Goals as goal

pub add_multiple-requires-clause-codes : goal.add_multiple-requires-clause-codes
add_multiple-requires-clause-codes g c =
    let m = g.S.Scale.meaning c.args.self.now.scale.now in
    let l = g.met.S.Scale.lawful c.args.self.now.scale.now in (
      part_codes m l 0 c.len-n.result c.args.rows.now c.requires.codes.0,
      subst (Codes m) (sym c.deref.ensures.0) c.args.self.now.formed.row_codes,
      c.requires.codes.1,
    )

pub add_multiple-requires-then-i-number-clause-codes : goal.add_multiple-requires-then-i-number-clause-codes
add_multiple-requires-then-i-number-clause-codes g c =
    let m = g.S.Scale.meaning c.args.self.now.scale.now in
    let l = g.met.S.Scale.lawful c.args.self.now.scale.now in (
      part_codes m l _ _ c.loop-i.rows c.loop-i.invariant.0,
      subst (Codes m) (sym c.deref-then-i-number.ensures.0) c.args.self.now.formed.row_codes,
      c.requires.codes.2 c.loop-i.i,
    )

pub loop-i-preserved : goal.loop-i-preserved
loop-i-preserved g c =
    let m = g.S.Scale.meaning c.args.self.now.scale.now in
    let l = g.met.S.Scale.lawful c.args.self.now.scale.now in
    let k = c.args.self.now.pivot.now in
    let row = k.row.items in
    let n : ℕ = length row in
    let i = c.loop-i.i in
    let fs = c.args.factors.now in
    let cur = c.loop-i.rows in
    let f : ℕ → ℕ → ℕ = λ j a. m.sum a (m.product (get_or fs i 0) (get_or row j 0)) in
    let inside = row_inside n i (omega (arith, c.requires.size)) in
    let P : List ℕ → Type 0 =
    λ xs. Codes m xs × Spreading m n k.number row fs (i + 1) (put_mid 0 c.len-n.result c.args.rows.now c.add_multiple.new.to) xs
    in
    elim c.if-i-number.branch [
      | goal.then-i-number w ↦
          let add = w.add_multiple-then-i-number in
          subst P (sym w.rows-is) (
            put_codes m l _ _ cur add.new.to c.loop-i.invariant.0 add.ensures.codes,
            spread_more m n k.number row fs i _ cur _ w.if-i-number.true
                (filled n (n + i * n) _ _ f cur add.new.to (ap (λ k. k + i * k) c.len-n.ensures.value) (omega arith) (omega arith)
                add.auto.to
                (rw w.deref-then-i-number.ensures.0 at add.ensures.added))
                c.loop-i.invariant.1,
          )
      | goal.else-i-number w ↦
          subst P (sym w.rows-is) (
            c.loop-i.invariant.0,
            spread_pass m n k.number row fs i _ cur w.if-i-number.false c.loop-i.invariant.1,
          )
    ]
