-- What divides a number has no higher level.
use Rattle.std.proofs.Common.{◌≡◌, ℕ, ◌+◌, ◌<◌, ◌≤◌, List, [], ◌∷◌, ◌++◌, length, get_or, sym, subst, ap, ◌∙◌, arith, below_more}
use Rattle.std.proofs.lemmas.List.{get_or_append_left, get_or_push, length_push}
use Rattle.scale.specs.Meaning.{Meaning, Laws, Code, Quotient, power}
use Rattle.ties.specs.Layouts.{Shape, places}
use Rattle.ties.specs.Equations.{Equation}
use Rattle.book.specs.declared.pivot.Pivot.{Pivot}
use Rattle.book.specs.Sheets.{generator_of}
use Rattle.book.specs.declared.dividing.Divisor.{Divisor}
use Rattle.book.specs.Dividing.{DividesBy, Scanned}
use Rattle.book.specs.Standing.{Pivots, raised}

pub quotient_level :
    (m : Meaning) (l : Laws m) (a b c : ℕ) → Code m b → Quotient m a b c → m.level b ≤ m.level a
quotient_level m l a b c bc known =
    let e = sym (ap m.level known.1) ∙ l.level_product b c bc known.0 in
    let most = l.level_most b bc in
    omega arith

-- with a code's cofactor a quotient by the power is one by the code
pub by_cofactor :
    (m : Meaning) (l : Laws m) (a b c : ℕ) (d : Divisor)
    → Code m b
    → DividesBy m b d
    → Quotient m a (power m d.level) c
    → Quotient m a b (m.product c d.cofactor)
by_cofactor m l a b c d code by known =
    let f = d.cofactor in
    let f_code = by.cofactor.0 in (
      l.product_code c f known.0 f_code,
      ap (m.product b) (l.product_comm c f known.0 f_code)
          ∙ sym (l.product_assoc b f c code f_code known.0)
          ∙ ap (λ x. m.product x c) by.cofactor.1
          ∙ known.1,
    )

-- the pivot's product has the least level of all
pub least :
    (m : Meaning) (l : Laws m) (s : Shape) (e : Equation) (xs : List ℕ) (k : Pivot)
    → Pivots m s e xs k
    → (i : ℕ)
    → i < places s
    → m.level k.divisor ≤ m.level (raised m s e (generator_of s xs i))
least m l s e xs k pivots i h = quotient_level m l _ _ _ pivots.formed.divisor (pivots.divides i h)

-- one product more is scanned: the one chosen divides it, or it is chosen itself
module _ (m : Meaning) (ds qs : List ℕ) (n : ℕ) where
  found_more :
      (p q : ℕ)
      → length qs ≡ n
      → ((i : ℕ) → p ≤ i → i < n → Quotient m (get_or ds i 0) (get_or ds p 0) (get_or qs i 0))
      → Quotient m (get_or ds n 0) (get_or ds p 0) q
      → (i : ℕ)
      → p ≤ i
      → i < n + 1
      → Quotient m (get_or ds i 0) (get_or ds p 0) (get_or (qs ++ (q ∷ [])) i 0)
  found_more p q count before quotient i from below =
      below_more (λ i. p ≤ i → Quotient m (get_or ds i 0) (get_or ds p 0) (get_or (qs ++ (q ∷ [])) i 0)) n
      (λ i h low. subst (Quotient m (get_or ds i 0) (get_or ds p 0)) (sym (get_or_append_left qs (q ∷ []) 0 i (omega (arith, count)))) (before i low h))
      (λ low. subst (Quotient m (get_or ds n 0) (get_or ds p 0)) (sym (get_or_push qs q 0 n count)) quotient) i below from

  pub scanned_more :
      (p q : ℕ)
      → Scanned m ds n p qs
      → m.level (get_or ds p 0) ≤ m.level (get_or ds n 0)
      → Quotient m (get_or ds n 0) (get_or ds p 0) q
      → Scanned m ds (n + 1) p (qs ++ (q ∷ []))
  scanned_more p q before low quotient =
      record {
        lowest = (before.lowest.0, below_more (λ i. m.level (get_or ds p 0) ≤ m.level (get_or ds i 0)) n before.lowest.1 low);
        among = omega (arith, before.among);
        count = omega (arith, length_push qs q, before.count);
        found = found_more p q before.count before.found quotient;
      }

  pub scanned_new :
      (l : Laws m) (p : ℕ)
      → n < length ds
      → Code m (get_or ds n 0)
      → Scanned m ds n p qs
      → m.level (get_or ds n 0) < m.level (get_or ds p 0)
      → Scanned m ds (n + 1) n (qs ++ (m.one ∷ []))
  scanned_new l p inside code before low =
      record {
        lowest = (inside, below_more (λ i. m.level (get_or ds n 0) ≤ m.level (get_or ds i 0)) n (λ i h. omega (arith, low, before.lowest.1 i h)) (omega arith));
        among = omega arith;
        count = omega (arith, length_push qs m.one, before.count);
        found = found_more n m.one before.count (λ i from below. absurd (omega arith)) (l.one_code, l.product_one _ code);
      }
