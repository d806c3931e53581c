-- Sums with products.
use Rattle.std.proofs.Common.{◌≡◌, ℕ, ◌+◌, ◌*◌, ◌%◌, ◌<◌, List, length, get_or, set, ap, ap₂, sym, ◌∙◌, arith, below_more, get_or-set_other, get_or-set_same, one-mul}
use Rattle.std.proofs.lemmas.Nat.{mul-mod, mul-mod_first, mul-mod_second}
use native.Mathlib.Nat.{add-mod}
use Rattle.scale.specs.Meaning.{Meaning, MultipleAdded, reading}

-- one remainder serves for a sum and its product
pub add_mul_mod : (a b c n : ℕ) → (a + b * c) % n ≡ (a % n + b % n * (c % n) % n) % n
add_mul_mod a b c n = add-mod a (b * c) n ∙ ap (λ (x : ℕ). (a % n + x) % n) (mul-mod b c n)

-- and so do the remainders of two products
pub multipliers_add :
    (n a by c one m : ℕ)
    → one ≡ 1 % n
    → m ≡ by % n
    → ((one * a) % n + (m * c) % n) % n ≡ (a % n + by % n * (c % n) % n) % n
multipliers_add n a by c one m first second =
    let left : (one * a) % n ≡ a % n =
    ap (λ (x : ℕ). (x * a) % n) first ∙ mul-mod_first 1 a n ∙ ap (λ (x : ℕ). x % n) (one-mul a)
    in
    let right : (m * c) % n ≡ by % n * (c % n) % n =
    ap (λ (x : ℕ). (x * c) % n) second ∙ sym (mul-mod_second (by % n) c n)
    in
    ap₂ (λ (x y : ℕ). (x + y) % n) left right

-- the multiple is added to one number more
pub multiple_more :
    (m : Meaning) (by : ℕ) (from old now : List ℕ) (n v : ℕ)
    → n < length now
    → v ≡ m.sum (reading m (get_or now n 0)) (m.product (reading m by) (reading m (get_or from n 0)))
    → MultipleAdded m by from old now n
    → MultipleAdded m by from old (set now n v) (n + 1)
multiple_more m by from old now n v inside is before =
    let f : ℕ → ℕ = λ a. m.sum (reading m a) (m.product (reading m by) (reading m (get_or from n 0))) in
    record {
      added =
          below_more
          (λ j. get_or (set now n v) j 0 ≡ m.sum (reading m (get_or old j 0)) (m.product (reading m by) (reading m (get_or from j 0)))) n
          (λ j h. get_or-set_other now n j v 0 (λ e. omega arith) ∙ before.added j h)
          (get_or-set_same now n v 0 inside ∙ is ∙ ap f (before.kept n (omega arith)));
      kept = λ j h. get_or-set_other now n j v 0 (λ e. omega arith) ∙ before.kept j (omega arith);
    }
