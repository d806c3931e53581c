use Rattle.std.proofs.Common.{◌≡◌, ℕ, ◌+◌, ◌-◌, ◌*◌, ◌<◌, List, ◌++◌, length, get_or, take, drop, sym, refl, ap, ◌∙◌, subst, subst₂, ap₂, arith}
use Rattle.std.proofs.lemmas.Result.{IfOk-at_ok}
use Rattle.scale.specs.Meaning.{Code, Divided, Quotient, digits, power}
use Rattle.scale.proofs.Codes.{power_code}
use Rattle.ties.specs.Equations.{depth, equation}
use Rattle.ties.specs.Layouts.{places, shape}
use Rattle.book.specs.Rows.{Codes}
use Rattle.book.specs.Sheets.{generator_of}
use Rattle.book.specs.Standing.{raised, rest}
use Rattle.book.proofs.Filling.{all_codes, negative_is, part_codes, product_is, sum_is, written_back}
use Rattle.book.proofs.Spots.{cut_at, cut_long, row_inside, total_cut}
use Rattle.book.proofs.measuring.measure.Goals as goal

pub total_at-requires-clause-codes : goal.total_at-requires-clause-codes
total_at-requires-clause-codes g c =
    let m = g.S.Scale.meaning c.args.tie.now.scale.now in
    let l = g.met.S.Scale.lawful c.args.tie.now.scale.now in
    part_codes m l 0 _ c.args.rows.now c.requires.codes

pub multiply-requires : goal.multiply-requires
multiply-requires g c =
    let m = g.S.Scale.meaning c.args.tie.now.scale.now in
    let l = g.met.S.Scale.lawful c.args.tie.now.scale.now in
    record {
      codes = (
        subst (Codes m) (sym c.deref_mut.ensures.value) c.totals_at.ensures.codes,
        subst (Code m) (sym c.raise-raise.ensures) (power_code m l _),
      );
    }

pub slice_bounds-try_extend_from_slice-end : goal.slice_bounds-try_extend_from_slice-end
slice_bounds-try_extend_from_slice-end g c =
    let n = c.places-n.result in
    let s = shape c.args.tie.now.layout.now in
    let is = c.places-n.ensures.0 in
    let long : length c.args.rows.now ≡ n + n * n = c.requires.size ∙ ap (λ k. k + k * k) (sym is) in
    let same = c.multiply.auto.row ∙ ap length c.deref_mut.ensures.value in
    let chosen = rw (written_back c.totals_at.new.totals.items c.multiply.new.row same) at c.choose-choice.ensures.scanned in
    let below : c.choose-choice.result.number < n = omega (arith, chosen.lowest.0, same, c.totals_at.ensures.count) in
    omega (arith, row_inside n c.choose-choice.result.number below)

pub returns : goal.returns
returns g c =
    let m = g.S.Scale.meaning c.args.tie.now.scale.now in
    let l = g.met.S.Scale.lawful c.args.tie.now.scale.now in
    let s = shape c.args.tie.now.layout.now in
    let e = equation c.args.tie.now.tie in
    let rows = c.args.rows.now in
    let ts = c.totals_at in
    let ds = c.multiply.new.row in
    let qs = c.divide_before.new.quotients in
    let choice = c.choose-choice.result in
    let p = choice.number in
    let raise = c.raise-raise.result in
    let raise_is : raise ≡ power m (digits m - depth s e) = c.raise-raise.ensures in
    let raise_code : Code m raise = subst (Code m) (sym raise_is) (power_code m l (digits m - depth s e)) in
    let right_code = (c.args.tie.now.sound.codes (length e.terms) (omega arith)).1 refl in
    let reached =
    product_is m l raise c.total_at.result c.product-reached.result raise_code c.total_at.ensures.0 c.product-reached.ensures
    in
    let right = product_is m l raise e.right c.product.result raise_code right_code c.product.ensures in
    let away = negative_is m l c.product-reached.result c.negative.result reached.0 c.negative.ensures in
    let sum = sum_is m l c.product.result c.negative.result c.sum-rest.result right.0 away.0 c.sum-rest.ensures in
    let at_point = total_cut m s e.terms rows 0 0 _ c.args.tie.now.sound.exist refl c.places-n.ensures.0 in
    let same : length ds ≡ length ts.new.totals.items = c.multiply.auto.row ∙ ap length c.deref_mut.ensures.value in
    let back = written_back ts.new.totals.items ds same in
    let chosen = rw back at c.choose-choice.ensures in
    let divided = rw (c.deref.ensures.0 ∙ back) at c.divide_before.ensures in
    let count : length ds ≡ places s = same ∙ ts.ensures.count in
    let products : (i : ℕ) → i < places s → get_or ds i 0 ≡ raised m s e (generator_of s rows i) =
    λ i h.
    c.multiply.ensures.multiplied i (omega (arith, c.multiply.auto.row, count))
    ∙ ap₂ m.product raise_is (ap (λ xs. get_or xs i 0) c.deref_mut.ensures.value ∙ ts.ensures.each i h)
    in
    let number : p < places s = omega (arith, chosen.scanned.lowest.0, count) in
    let divisor_is = ap (λ xs. get_or xs p 0) (c.deref-2.ensures.0 ∙ back) in
    let missing : c.sum-rest.result ≡ rest m s e rows =
    sum.1
    ∙ ap₂ m.sum
    (right.1 ∙ ap (λ p. m.product p e.right) raise_is)
    (away.1
    ∙ ap m.negative
    (reached.1 ∙ ap₂ m.product raise_is (c.total_at.ensures.1 ∙ at_point)))
    in
    let kept = written_back c.choose-choice.new.quotients.items qs (c.divide_before.auto.quotients ∙ ap length c.deref_mut-2.ensures.value) in
    let n_is = c.places-n.ensures.0 in
    let n = c.places-n.result in
    let at = n + p * n in
    let cut = take (at + n - at) (drop at rows) in
    let row = IfOk-at_ok _ c.unwrap.ensures c.try_extend_from_slice.ensures.ok ∙ ap (λ (xs : List ℕ). xs ++ cut) c.requires.blank.0 in
    let at_is = ap (λ n. n + p * n) n_is in
    let shift = c.quotient.ensures (get_or ds p 0) (c.multiply.ensures.codes p) chosen.divisor in
    record {
      pivots =
          record {
            formed =
                record {
                  number = number;
                  row =
                      ap length row
                      ∙ cut_long rows _ _ _ (places s) at_is (omega (arith, n_is))
                      (omega (arith, row_inside (places s) p number, c.requires.size));
                  row_codes = rw row (part_codes m l _ _ rows c.requires.codes);
                  divisor = subst (Code m) (sym divisor_is) (c.multiply.ensures.codes p);
                  quotients = ap length kept ∙ divided.0 ∙ count;
                  quotient_codes = rw kept (all_codes m l qs (λ i h. (divided.1 i (omega (arith, divided.0))).0));
                };
            row = λ j h. ap (λ xs. get_or xs j 0) row ∙ cut_at rows _ _ _ j at_is (omega arith);
            divisor = divisor_is ∙ products p number;
            divides = rw kept (λ i h.
                subst₂ (λ (a b : ℕ). Quotient m a b (get_or qs i 0)) (products i h) (sym divisor_is)
                (divided.1 i (omega (arith, count))));
          };
      shift = subst₂ (λ (a b : ℕ). Divided m a b c.quotient.result) missing (sym divisor_is) shift;
    }
