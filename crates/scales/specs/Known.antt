-- The scales that marks name keep the laws.
use Rattle.std.specs.Prelude.{◌≡◌, ℕ, ◌-◌, ◌^◌, ◌≤◌, Bool, true, false, cond, not, ◌&&◌, ◌||◌, T, List, [], ◌∷◌, ◌==◌, nat_le, refl}
use Rattle.std.proofs.Common.{sym, ◌∙◌, subst, le_trans, arith, eqb→eq, leb→le, eqb-true}
use Rattle.std.proofs.Math.Nat.{pow-le-pow_right}
use Rattle.scale.specs.declared.Mark.{Mark}
use Rattle.scale.specs.Meaning.{Laws}
use Rattle.scales.specs.declared.kind.Kind.TheVariants.{Disc}
use Rattle.scales.specs.Counting.{counting}
use Rattle.scales.specs.Kinds.{Numbers, number, rows, longest_in, named}
use Rattle.scales.specs.Numbering.{gray, ungray, renumbered}
use Rattle.scales.specs.GrayCode.{gray_below, ungray_below, gray_ungray, ungray_gray}
use Rattle.scales.specs.Inverses.{Inverted, both, tabled, by_table}
use Rattle.scales.specs.Renumber.{Numbering, renumbered_laws}
use Rattle.scales.specs.Whole.{Fit, counting_laws}

-- a row of the table, by a test that all of them pass
all : (ℕ × ℕ × ℕ → Bool) → List (ℕ × ℕ × ℕ) → Bool
all passes [] = true
all passes (row ∷ others) = passes row && all passes others

record Found (passes : ℕ × ℕ × ℕ → Bool) (kind base length : ℕ) : Type 0 where
  row : ℕ × ℕ × ℕ
  passed : T (passes row)
  kind_is : kind ≡ row.0
  base_is : base ≡ row.1
  most : length ≤ row.2

found :
    (passes : ℕ × ℕ × ℕ → Bool) (others : List (ℕ × ℕ × ℕ)) (kind base length : ℕ)
    → T (all passes others)
    → 1 ≤ length
    → length ≤ longest_in others kind base
    → Found passes kind base length
unfolding all
found passes [] kind base length t h l = absurd (omega arith)
found passes (row ∷ others) kind base length t h l =
    let here = both (passes row) (all passes others) t in
    go (kind == row.0 && base == row.1) refl l here.0 (found passes others kind base length here.1 h)
  where
    go :
        (same : Bool)
        → (kind == row.0) && (base == row.1) ≡ same
        → length ≤ cond same row.2 (longest_in others kind base)
        → T (passes row)
        → (length ≤ longest_in others kind base → Found passes kind base length)
        → Found passes kind base length
    go false _ k _ later = later k
    go true e k p later =
        let parts = both (kind == row.0) (base == row.1) (subst T (sym e) tt) in
        record {
          row = row;
          passed = p;
          kind_is = eqb→eq kind row.0 parts.0;
          base_is = eqb→eq base row.1 parts.1;
          most = k;
        }

-- in each row the base is 2 to 7 and has its table of inverses, the kind is small, and the size too
fit : ℕ × ℕ × ℕ → Bool
fit row = nat_le row.0 255 && (nat_le 2 row.1 && (nat_le row.1 7 && (tabled row.1 (row.1 - 1) && nat_le (row.1 ^ row.2) (2 ^ 31))))

-- and a disc has base 2
gray_two : ℕ × ℕ × ℕ → Bool
gray_two row = not (row.0 == number Disc) || row.1 == 2

pub fits : (k : Mark) → Numbers k → Fit k × (k.base ≤ 7)
unfolding all fit
fits k numbers =
    let f = found fit rows k.kind k.base k.length tt numbers.0 numbers.1 in
    let q : ℕ = f.row.1 in
    let t₁ = both (nat_le f.row.0 255) _ f.passed in
    let t₂ = both (nat_le 2 q) _ t₁.1 in
    let t₃ = both (nat_le q 7) _ t₂.1 in
    let t₄ = both (tabled q (q - 1)) (nat_le (q ^ f.row.2) (2 ^ 31)) t₃.1 in
    let least : 2 ≤ q = leb→le 2 q t₂.0 in
    let low : q ≤ 7 = leb→le q 7 t₃.0 in
    let P : ℕ → Type 0 = λ b. (2 ≤ b) × (b ≤ 7) × Inverted b × (b ^ k.length ≤ 2 ^ 31) in
    let here : P q = (
      least,
      low,
      by_table q t₄.0,
      le_trans (pow-le-pow_right (omega arith) f.most) (leb→le (q ^ f.row.2) (2 ^ 31) t₄.1),
    ) in
    let at : P k.base = subst P (sym f.base_is) here in (
      record {
        kind_most = subst (λ (x : ℕ). x ≤ 255) (sym f.kind_is) (leb→le f.row.0 255 t₁.0);
        base_least = at.0;
        base_most = omega (arith, at.1);
        base_inverted = at.2;
        length_least = numbers.0;
        size_most = at.3;
      },
      at.1,
    )

gray_base : (k : Mark) → Numbers k → k.kind ≡ number Disc → k.base ≡ 2
unfolding all gray_two
gray_base k numbers three =
    let f = found gray_two rows k.kind k.base k.length tt numbers.0 numbers.1 in
    f.base_is ∙ two f.row (sym f.kind_is ∙ three) f.passed
  where
    two : (row : ℕ × ℕ × ℕ) → row.0 ≡ number Disc → T (gray_two row) → row.1 ≡ 2
    two row e t =
        eqb→eq row.1 2 (subst (λ (x : ℕ). T (not (x == number Disc) || row.1 == 2)) e t)

pub gray_numbering : (kind e : ℕ) → Numbering gray (ungray e) (counting (record { kind = kind; base = 2; length = e }))
gray_numbering kind e =
    record {
      code_below = gray_below e;
      position_below = ungray_below e;
      code_position = gray_ungray e;
      position_code = ungray_gray e;
      code_zero = refl;
    }

pub named_laws : (k : Mark) → Numbers k → Laws (named k)
named_laws k numbers = go (k.kind == number Disc) refl
  where
    go : (t : Bool) → (k.kind == number Disc) ≡ t → Laws (cond t (renumbered gray (ungray k.length) (counting k)) (counting k))
    go false _ = counting_laws k (fits k numbers).0
    go true is =
        let two : k.base ≡ 2 = gray_base k numbers (eqb-true k.kind (number Disc) is) in
        renumbered_laws gray (ungray k.length) (counting k)
        (subst (λ (q : ℕ). Numbering gray (ungray k.length) (counting (record { kind = k.kind; base = q; length = k.length }))) (sym two) (gray_numbering k.kind k.length))
        (counting_laws k (fits k numbers).0)
