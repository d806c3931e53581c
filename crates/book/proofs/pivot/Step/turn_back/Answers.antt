use Rattle.std.proofs.Common.{ℕ, ◌+◌, ◌*◌, length, get_or, sym, ap, ◌∙◌, subst, arith}
use Rattle.book.specs.Rows.{Codes}
use Rattle.book.proofs.Filling.{filled, negative_is, put_codes}
use Rattle.book.proofs.Spots.{row_inside}
use Rattle.book.proofs.Steps.{returned}
use Rattle.book.proofs.pivot.Step.turn_back.Goals as goal

pub spread-requires-clause-codes : goal.spread-requires-clause-codes
spread-requires-clause-codes g c =
    let m = g.S.Scale.meaning c.args.self.now.scale.now in
    let l = g.met.S.Scale.lawful c.args.self.now.scale.now in
    let k = c.args.self.now.pivot.now in
    let own = c.copy_from_slice.ensures.after ∙ c.deref.ensures.0 in (
      put_codes m l _ _ c.args.rows.now _ c.requires.codes (subst (Codes m) (sym own) c.args.self.now.formed.row_codes),
      (negative_is m l c.args.self.now.shift _ c.args.self.now.code c.negative.ensures).0,
      subst (Codes m) (sym c.deref-2.ensures.0) c.args.self.now.formed.quotient_codes,
    )

pub returns-clause-returned : goal.returns-clause-returned
returns-clause-returned g c =
    let m = g.S.Scale.meaning c.args.self.now.scale.now in
    let l = g.met.S.Scale.lawful c.args.self.now.scale.now in
    let k = c.args.self.now.pivot.now in
    let row = k.row.items in
    let n : ℕ = length row in
    let inside = row_inside n k.number c.args.self.now.formed.number in
    let own = c.copy_from_slice.ensures.after ∙ c.deref.ensures.0 in
    returned m n k.number row k.quotients.items c.args.self.now.shift c.negative.result c.args.rows.now _ c.spread.new.rows
    (negative_is m l c.args.self.now.shift _ c.args.self.now.code c.negative.ensures).1
    (filled n (n + k.number * n) _ _ (λ j a. get_or row j 0) c.args.rows.now _
    (ap (λ i. i + k.number * i) c.len-n.ensures.value) (omega arith) (omega arith) c.copy_from_slice.auto.self
    (λ j h. ap (λ r. get_or r j 0) own))
    (rw c.deref-2.ensures.0 at c.spread.ensures.spread)
