use Rattle.std.proofs.Common.{◌≡◌, ℕ, ◌+◌, ◌*◌, List, length, sum, sym, ◌∙◌, subst}
use Rattle.std.proofs.lemmas.List.{with_items_is}
use Rattle.scale.specs.Meaning.{Meaning}
use Rattle.ties.specs.Layouts.{Shape, places, shape}
use Rattle.book.specs.Standing.{Fresh, Units}
use Rattle.book.proofs.empty.empty_table.Goals as goal

-- the unit rows are those of an empty book
fresh : (m : Meaning) (s : Shape) (n f : ℕ) (xs : List ℕ) → n ≡ places s → length xs ≡ n + n * n → f ≡ s.heads * sum s.widths → Units m n n xs → Fresh m s xs f
fresh m s n f xs is long free units =
    let here = subst (λ (k : ℕ). (length xs ≡ k + k * k) × Units m k k xs) is (long, units) in
    record {
      size = here.0;
      codes = here.1.codes;
      origin = here.1.origin;
      units = here.1.units;
      free = free;
    }

pub returns : goal.returns
returns g c =
    let m = g.S.Scale.meaning c.args.scale.now in
    let s = shape c.args.layout.now in
    let n = c.places-n.result in
    let new = c.set_units.new.rows in
    let f = c.all_digits.result in
    let long : length new ≡ n + n * n =
    c.set_units.auto.rows ∙ c.deref_mut.ensures.len ∙ c.in_ok-rows.ensures.len
    in (
      c.in_ok-with_capacity.ensures.items,
      subst (λ (xs : List ℕ). Fresh m s xs f)
          (sym (with_items_is c.in_ok-rows.rows new (c.set_units.auto.rows ∙ c.deref_mut.ensures.len)))
          (fresh m s n f new c.places-n.ensures.0 long c.all_digits.ensures c.set_units.ensures),
      c.in_ok-with_capacity.ensures.capacity,
    )
