-- Commutative rings in which each number has a level, as the codes of a scale have.
use Rattle.std.proofs.Common.{◌≡◌, ℕ, zero, suc, ◌+◌, ◌-◌, ◌<◌, ◌≤◌, min, ◌↔◌, sym, ap, ◌∙◌, arith}
use Rattle.scale.specs.Meaning.{Meaning, Laws, digits, power}
use Rattle.scale.proofs.Codes.{power_code}
use Rattle.scale.proofs.Coded.{codes, same_code}
use Rattle.scale.proofs.Levels.{power_level}
use Rattle.scale.proofs.Ring.{Ring, mul_neg, neg_add, neg_unique}
use Rattle.scale.proofs.Sums.{ring_sum}

-- a level lies between 0 and E, only zero has level E, and a number divides those of no lower level
pub record Valued {C : Type 0} (R : Ring C) (E : ℕ) : Type 0 where
  pub level : C → ℕ
  pub level_most : (a : C) → level a ≤ E
  pub level_zero : level R.zero ≡ E
  pub zero_only : (a : C) → level a ≡ E → a ≡ R.zero
  pub level_mul : (a b : C) → level (R.mul a b) ≡ min E (level a + level b)
  pub level_add : (a b : C) → min (level a) (level b) ≤ level (R.add a b)
  -- the step to the power k
  pub raiser : ℕ → C
  pub raiser_level : (k : ℕ) → level (raiser k) ≡ min E k
  pub divides : (a b : C) → level b ≤ level a → (c : C) × (R.mul b c ≡ a)

abbrev pub codes_valued : (m : Meaning) (l : Laws m) → Valued (codes m l) (digits m)
codes_valued m l =
    record {
      level = λ a. m.level a.0;
      level_most = λ a. l.level_most a.0 a.1;
      level_zero = l.level_zero;
      zero_only = λ a e. same_code m _ _ (l.zero_only a.0 a.1 e);
      level_mul = λ a b. l.level_product a.0 b.0 a.1 b.1;
      level_add = λ a b. l.level_sum a.0 b.0 a.1 b.1;
      raiser = λ k. (power m k, power_code m l k);
      raiser_level = power_level m l;
      divides = λ a b h.
          let q = l.quotient a.0 b.0 a.1 b.1 h in
          ((q.0, q.1.0), same_code m _ _ q.1.1);
    }

module _ {C : Type 0} {R : Ring C} {E : ℕ} (V : Valued R E) where
  open R use {zero as none, one, neg, mul, mul_one}
  open V use {level, level_most, level_zero, zero_only, level_mul, level_add, raiser, raiser_level}

  -- the raiser to E - v makes zero of just the numbers of level v or more
  pub raiser_zero : (z : C) (v : ℕ) → v ≤ E → (mul (raiser (E - v)) z ≡ none) ↔ (v ≤ level z)
  raiser_zero z v h =
      let e = level_mul (raiser (E - v)) z in
      let r = raiser_level (E - v) in (
        λ gone. let top : level (mul (raiser (E - v)) z) ≡ E = ap level gone ∙ level_zero in omega arith,
        λ low. zero_only (mul (raiser (E - v)) z) (let most = level_most z in omega arith),
      )

  -- a multiple has no lower level
  pub multiple_level : (a b c : C) → mul b c ≡ a → level b ≤ level a
  multiple_level a b c e =
      let k : level a ≡ min E (level b + level c) = sym (ap level e) ∙ level_mul b c in
      let most = level_most b in
      omega arith

  pub level_neg : (a : C) → level (neg a) ≡ level a
  level_neg a =
      let up = multiple_level (neg a) a (neg one) (mul_neg R a one ∙ ap neg (mul_one a)) in
      let twice : a ≡ neg (neg a) = neg_unique R (neg a) a (neg_add R a) in
      let down = multiple_level a (neg a) (neg one) (mul_neg R (neg a) one ∙ ap neg (mul_one (neg a)) ∙ sym twice) in
      omega arith

  pub level_sum :
      (v n : ℕ) (f : ℕ → C) → v ≤ E → ((i : ℕ) → i < n → v ≤ level (f i)) → v ≤ level (ring_sum R n f)
  level_sum v zero f most each = let e = level_zero in omega arith
  level_sum v (suc n) f most each =
      let before = level_sum v n f most (λ i h. each i (omega arith)) in
      let last = each n (omega arith) in
      let both = level_add (ring_sum R n f) (f n) in
      omega arith
