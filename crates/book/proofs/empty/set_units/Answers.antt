use Rattle.std.proofs.Common.{◌≡◌, ℕ, ◌+◌, ◌*◌, ◌<◌, cond, eqb, List, length, get_or, set, sym, ap, ◌∙◌, subst, inl, inr, arith, get_or-set_other, get_or-set_same, eq-eqb, ne_eqb}
use native.Mathlib.Decide.{ℕ_discrete}
use Rattle.scale.specs.Meaning.{Code, Meaning}
use Rattle.multipliers.proofs.Growing.{codes_set}
use Rattle.book.specs.Turning.{generator}
use Rattle.book.specs.Standing.{Units}
use Rattle.book.proofs.Spots.{row_inside, spot_apart}
use Rattle.book.proofs.empty.set_units.Goals as goal

-- one more unit row
units_more :
    (m : Meaning) (n k v : ℕ) (xs : List ℕ)
    → k < n
    → n + k * n + k < length xs
    → v ≡ m.one
    → Code m v
    → Units m n k xs
    → Units m n (k + 1) (set xs (n + k * n + k) v)
units_more m n k v xs h inside is vc before =
    record {
      codes = codes_set m xs (n + k * n + k) v inside before.codes vc;
      units = λ i j w b. go i j w b (ℕ_discrete i k);
      ahead = λ i j w q b. elsewhere i j b (λ e. omega arith) ∙ before.ahead i j (omega arith) q b;
      origin = λ j b. get_or-set_other xs (n + k * n + k) j v 0 (λ e. omega arith) ∙ before.origin j b;
    }
  where
    elsewhere : (i j : ℕ) → j < n → (i ≡ k → ⊥) → generator n (set xs (n + k * n + k) v) i j ≡ generator n xs i j
    elsewhere i j b d =
        get_or-set_other xs (n + k * n + k) (n + i * n + j) v 0
        (λ e. elim (spot_apart n i k j b d) [ inl a ↦ omega arith | inr a ↦ omega arith ])

    in_row : (j : ℕ) → j < n → Dec (k ≡ j) → generator n (set xs (n + k * n + k) v) k j ≡ cond (eqb k j) m.one 0
    in_row j b (yes e) =
        ap (λ a. get_or (set xs (n + k * n + k) v) (n + k * n + a) 0) (sym e)
        ∙ get_or-set_same xs (n + k * n + k) v 0 inside
        ∙ is
        ∙ ap (λ t. cond t m.one 0) (sym (eq-eqb k j e))
    in_row j b (no d) =
        get_or-set_other xs (n + k * n + k) (n + k * n + j) v 0 (λ e. d (omega arith))
        ∙ before.ahead k j (omega arith) h b
        ∙ ap (λ t. cond t m.one 0) (sym (ne_eqb k j d))

    go :
        (i j : ℕ) → i < k + 1 → j < n → Dec (i ≡ k) → generator n (set xs (n + k * n + k) v) i j ≡ cond (eqb i j) m.one 0
    go i j w b (yes e) =
        ap (λ a. generator n (set xs (n + k * n + k) v) a j) e
        ∙ in_row j b (ℕ_discrete k j)
        ∙ ap (λ a. cond (eqb a j) m.one 0) (sym e)
    go i j w b (no d) = elsewhere i j b d ∙ before.units i j (omega arith) b

pub loop-i-preserved : goal.loop-i-preserved
loop-i-preserved g c =
    let m = g.S.Scale.meaning c.args.scale.now in
    let l = g.met.S.Scale.lawful c.args.scale.now in
    let n = c.args.n in
    let k = c.loop-i.i in
    let inside = row_inside n k c.loop-i-test.true in
    units_more m n k c.one.result c.loop-i.rows c.loop-i-test.true (omega (arith, c.loop-i.auto.rows, c.requires.size))
    c.one.ensures (subst (Code m) (sym c.one.ensures) l.one_code) c.loop-i.invariant
