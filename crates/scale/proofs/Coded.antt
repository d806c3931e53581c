-- The codes of a scale are a commutative ring.
use Rattle.std.proofs.Common.{◌≡◌, ℕ, zero, suc, ◌<◌, refl, ap₂, arith}
use mathlib.Core.HLevel.{Σ_prop_path}
use native.Mathlib.Bridge.{le_prop}
use Rattle.scale.specs.Meaning.{Meaning, Laws, Code, reading, size, summed}
use Rattle.scale.proofs.Codes.{reading_code, reading_of, zero_code}
use Rattle.scale.proofs.Ring.{Ring}
use Rattle.scale.proofs.Sums.{ring_sum}

-- a number with the proof that it is a code
abbrev pub Coded : Meaning → Type 0
Coded m = (a : ℕ) × Code m a

pub same_code : (m : Meaning) (a b : Coded m) → a.0 ≡ b.0 → a ≡ b
same_code m a b e = Σ_prop_path (λ (n : ℕ). le_prop {n = suc n} {m = size m}) {u = a} {v = b} e

module _ (m : Meaning) (l : Laws m) where
  -- what the functions of a scale read a number as
  abbrev pub code : ℕ → Coded m
  code a = (reading m a, reading_code m l a)

  pub code_of : (a : ℕ) → (h : Code m a) → code a ≡ (a, h)
  code_of a h = same_code m (code a) (a, h) (reading_of m l a h)

  abbrev pub codes : Ring (Coded m)
  codes =
      record {
        zero = (0, zero_code m l);
        one = (m.one, l.one_code);
        add = λ a b. (m.sum a.0 b.0, l.sum_code a.0 b.0 a.1 b.1);
        neg = λ a. (m.negative a.0, l.negative_code a.0 a.1);
        mul = λ a b. (m.product a.0 b.0, l.product_code a.0 b.0 a.1 b.1);
        add_assoc = λ a b c. same_code m _ _ (l.sum_assoc a.0 b.0 c.0 a.1 b.1 c.1);
        add_comm = λ a b. same_code m _ _ (l.sum_comm a.0 b.0 a.1 b.1);
        add_zero = λ a. same_code m _ _ (l.sum_zero a.0 a.1);
        add_neg = λ a. same_code m _ _ (l.sum_negative a.0 a.1);
        mul_assoc = λ a b c. same_code m _ _ (l.product_assoc a.0 b.0 c.0 a.1 b.1 c.1);
        mul_comm = λ a b. same_code m _ _ (l.product_comm a.0 b.0 a.1 b.1);
        mul_one = λ a. same_code m _ _ (l.product_one a.0 a.1);
        mul_add = λ a b c. same_code m _ _ (l.product_sum a.0 b.0 c.0 a.1 b.1 c.1);
      }

  -- a sum of codes, as a sum in the ring
  pub summed_code : (n : ℕ) (f : ℕ → ℕ) → ((i : ℕ) → i < n → Code m (f i)) → Code m (summed m n f)
  summed_code zero f h = zero_code m l
  summed_code (suc n) f h = l.sum_code (summed m n f) (f n) (summed_code n f (λ i k. h i (omega arith))) (h n (omega arith))

  pub summed_sum :
      (n : ℕ) (f : ℕ → ℕ) (F : ℕ → Coded m) → ((i : ℕ) → i < n → f i ≡ (F i).0) → summed m n f ≡ (ring_sum codes n F).0
  summed_sum zero f F h = refl
  summed_sum (suc n) f F h = ap₂ m.sum (summed_sum n f F (λ i k. h i (omega arith))) (h n (omega arith))
