use Rattle.std.proofs.Common.{ℕ, ◌<◌, length, get_or, sym, ap, ◌∙◌, subst, inl, inr, arith}
use Rattle.std.proofs.lemmas.Bool.{cases_lt}
use Rattle.scale.specs.Meaning.{Code}
use Rattle.book.proofs.Filling.{add_nothing, added_is}
use Rattle.book.proofs.rows.add_multiple.Goals as goal

pub returns-then-by-eq0 : goal.returns-then-by-eq0
returns-then-by-eq0 g c =
    let m = g.S.Scale.meaning c.args.scale.now in
    let l = g.met.S.Scale.lawful c.args.scale.now in
    let to = c.args.to.now in
    let from = c.args.from.now in
    record {
      codes = c.requires.codes.0;
      added = λ j h.
          add_nothing m l _ _ (c.requires.codes.0 j) (c.requires.codes.1 j)
          ∙ ap (λ b. m.sum (get_or to j 0) (m.product b (get_or from j 0))) (sym c.if-by-eq0.true);
    }

pub returns : goal.returns
returns g c =
    let m = g.S.Scale.meaning c.args.scale.now in
    let l = g.met.S.Scale.lawful c.args.scale.now in
    let to = c.args.to.now in
    let from = c.args.from.now in
    let new = c.add_multiple.new.to in
    let done =
    λ (j : ℕ) (h : j < length to).
    added_is m l (get_or to j 0) c.args.by (get_or from j 0) (get_or new j 0)
    (c.requires.codes.0 j) c.requires.codes.2 (c.requires.codes.1 j) (c.add_multiple.ensures.added j (omega (arith, h, c.requires.long)))
    in
    record {
      codes = λ j. elim (cases_lt j (length to)) [
        | inl h ↦ (done j h).0
        | inr h ↦ subst (Code m) (sym (c.add_multiple.ensures.kept j (omega (arith, h)))) (c.requires.codes.0 j)
      ];
      added = λ j h. (done j h).1;
    }
