-- The steps of the checks on a file.
use Rattle.std.proofs.Common.{◌≡◌, ℕ, zero, suc, ◌+◌, ◌<◌, ◌≤◌, Bool, true, false, eqb, List, length, get_or, MatchBool, sym, refl, ap, ◌∙◌, zero-add, subst, arith, Bor, eqb-true}
use borrow.Author.Tests.{eqb-false}
use Rattle.std.specs.List.{AllWithin, HoldsAt, range_with_len}
use Rattle.std.proofs.lemmas.List.FromFn.{get_or-range_with_len, length-range_with_len}
use Rattle.tie_file.specs.declared.entry.Entry.TheVariants.{Layout}
use Rattle.tie_file.specs.Table.{HasEntries, HasBodies, byte, entries, kind_at, start_at, extent_at, end_before}
use Rattle.tie_file.specs.Steps.{BodyFits, LayoutLength}
use Rattle.tie_file.specs.Reading.{HasEntry, IsEntry}
use Rattle.tie_file.proofs.Bytes.{part_byte}
use Rattle.tie_file.proofs.WellFormed.{body_length}

-- the kind is that of the entry's place, and the body starts where the part before ends
abbrev pub Follows : List ℕ → ℕ → Type 0
Follows f i =
    (i ≡ 0 → kind_at f i ≡ 1) × (1 ≤ i → kind_at f i ≡ 2) × (start_at f i ≡ end_before f i)

-- a test of one statement is a test of another that holds just when the first does
retold : (r : Bool) (P Q : Type 0) → (P → Q) → (Q → P) → MatchBool r P (P → ⊥) → MatchBool r Q (Q → ⊥)
retold true P Q to from w = to w
retold false P Q to from w = λ q. w (from q)

equal : (a b : ℕ) (r : Bool) → eqb a b ≡ r → MatchBool r (a ≡ b) (a ≡ b → ⊥)
equal a b true e = eqb-true a b e
equal a b false e = eqb-false a b e

none : (i : ℕ) → (1 ≤ i → ⊥) → i ≡ 0
none zero n = refl
none (suc i) n = absurd (n (omega arith))

-- every entry follows the one before
pub entries_all :
    (f : List ℕ) (n end : ℕ) → n ≡ entries f → 1 ≤ n → end ≡ end_before f n → ((k : ℕ) → k < n → Follows f k)
    → MatchBool (eqb end (length f)) (HasEntries f) (HasEntries f → ⊥)
entries_all f n end all some e follow = retold (eqb end (length f)) (end ≡ length f) (HasEntries f) to from (equal end (length f) _ refl)
  where
    last : end ≡ end_before f (entries f)
    last = e ∙ ap (end_before f) all

    to : end ≡ length f → HasEntries f
    to is =
        record {
          layout = (follow 0 some).0 refl;
          ties = λ i l h. (follow i (omega arith)).1 l;
          gapless = λ i h. (follow i (omega arith)).2;
          ends = sym last ∙ is;
        }

    from : HasEntries f → end ≡ length f
    from h = last ∙ h.ends

-- whether a layout's body fits
pub layout_fits_lem :
    (f : List ℕ) → HasEntries f → (i : ℕ) → i < entries f → (b : Bor (List ℕ)) (r : Bool)
    → HasEntry f i → IsEntry f i (Layout b)
    → MatchBool r (LayoutLength b.now) (LayoutLength b.now → ⊥) → MatchBool r (BodyFits f i) (BodyFits f i → ⊥)
layout_fits_lem f e i h b r there is w = retold r (LayoutLength b.now) (BodyFits f i) to from w
  where
    size : length b.now ≡ extent_at f i
    size = ap length is.1 ∙ body_length f i there

    fifth : 5 ≤ extent_at f i → get_or b.now 4 0 ≡ byte f (start_at f i + 4)
    fifth l = part_byte f b.now (start_at f i) (extent_at f i) 4 (start_at f i + 4) is.1 l refl

    first : 1 ≤ i → ⊥
    first l = omega (arith, e.ties i l h, is.0)

    to : LayoutLength b.now → BodyFits f i
    to l =
        let least : 5 ≤ extent_at f i = omega (arith, size, l.0) in
        ((λ z. (least, omega (arith, size, l.1, fifth least))), (λ o. absurd (first o)))

    from : BodyFits f i → LayoutLength b.now
    from l =
        let fits = l.0 (none i first) in
        (omega (arith, size, fits.0), omega (arith, size, fits.1, fifth fits.0))

-- every body fits
pub bodies_all :
    (f : List ℕ) → 1 ≤ entries f → ((k : ℕ) → k < entries f → BodyFits f k) → HasBodies f
bodies_all f some fit =
    record {
      layout_least = ((fit 0 some).0 refl).0;
      layout = ((fit 0 some).0 refl).1;
      ties = λ i l h. (fit i h).1 l;
    }

pub body_fits_lem : (f : List ℕ) → HasBodies f → (i : ℕ) → i < entries f → BodyFits f i
body_fits_lem f b zero h = ((λ z. (b.layout_least, b.layout)), (λ o. absurd (none_less o)))
  where
    none_less : 1 ≤ 0 → ⊥
    none_less o = omega arith
body_fits_lem f b (suc i) h = ((λ z. absurd (some_more z)), (λ o. b.ties (suc i) o h))
  where
    some_more : suc i ≡ 0 → ⊥
    some_more z = omega arith

-- a test of every number below that of the entries is a test of all bodies
pub bodies_tested :
    (f : List ℕ) (n : ℕ) (r : Bool) → n ≡ entries f → 1 ≤ n
    → MatchBool r (AllWithin (BodyFits f) (range_with_len 0 n) 0 (length (range_with_len 0 n)))
    ((k : ℕ) × (k < length (range_with_len 0 n)) × HoldsAt (λ i. BodyFits f i → ⊥) (range_with_len 0 n) k)
    → MatchBool r (HasBodies f) (HasBodies f → ⊥)
bodies_tested f n true e some all =
    bodies_all f (omega arith) (λ k h.
    subst (BodyFits f) (get_or-range_with_len 0 n k 0 (omega arith) ∙ zero-add k)
    (all k 0 (omega arith) (omega (arith, length-range_with_len 0 n))))
bodies_tested f n false e some (k, h, not) =
    let below : k < n = omega (arith, length-range_with_len 0 n) in
    λ bodies. not 0 (subst (BodyFits f) (sym (get_or-range_with_len 0 n k 0 below ∙ zero-add k)) (body_fits_lem f bodies k (omega arith)))
