-- Whole numbers modulo a power of a base that behaves as a prime keep the laws of a scale.
use Rattle.std.specs.Prelude.{◌≡◌, ℕ, zero, suc, ◌+◌, ◌-◌, ◌*◌, ◌/◌, ◌%◌, ◌^◌, ◌<◌, ◌≤◌, min, Bool, cond, ◌≢◌, nat_le}
use Rattle.std.specs.Int.{◌∣◌}
use Rattle.std.proofs.Common.{sym, ap, ap₂, ◌∙◌, subst, subst₂, add_assoc, add_comm, add-zero, add-suc, zero-add, mul_assoc, mul_comm, mul-add, mul-one, zero-mul, mul-zero, suc-mul, one-mul, mod-lt, mod-eq_of_lt, add-sub_of_le, sub-add_cancel, pow-suc, le_antisymm, le_refl, le_of_suc-le-suc, lt_of_not-le, eq-or-lt_of_le, mul-le-mul_left, inl, inr, arith, pow-add, le-leb}
use Rattle.std.proofs.Math.Nat.{mul-mul-mul_comm, add-mod, mod-add-mod, add-mod-mod, mod_self, zero-mod, one-le-pow, pow-zero, min-le_left, min-le_right, le-min, mul-mod_left, mul-add-mod_self_right, mod-eq-zero_of_dvd, dvd_of_mod-eq-zero, dvd_of_mul-dvd-mul_left}
use Rattle.std.proofs.lemmas.Bool.{lt-leb}
use Rattle.scale.specs.declared.Mark.{Mark}
use Rattle.scale.specs.Meaning.{Laws, reaching}
use Rattle.scales.specs.Counting.{zeros, counting}
use Rattle.scales.specs.Parting.{Parted}
use Rattle.scales.specs.declared.digits.Parts.{Parts}
use Rattle.std.proofs.lemmas.Nat.{mul-mod, mul-mod_first, mul-mod_second}
use Rattle.scales.specs.Remainders.{multiple, of_multiple, power_mod, lower_power, remainder_below}
use Rattle.scales.specs.Inverses.{Inverted, prime_like, inverse, power_two}
use Rattle.scales.specs.Zeros.{zeros_divide, divide_zeros, zeros_are, split_zeros, parted_level}

-- the numbers of a mark by which counting keeps the laws
pub record Fit (k : Mark) : Type 0 where
  pub kind_most : k.kind ≤ 255
  pub base_least : 2 ≤ k.base
  pub base_most : k.base ≤ 255
  pub base_inverted : Inverted k.base
  pub length_least : 1 ≤ k.length
  pub size_most : k.base ^ k.length ≤ 2 ^ 31

-- how many of the numbers below m * d are multiples of d, by the level that says which are
multiples : (level : ℕ → ℕ) (v d : ℕ) → 0 < d → ((a : ℕ) → v ≤ level a → a % d ≡ 0) → ((a : ℕ) → a % d ≡ 0 → v ≤ level a) → (m : ℕ) → reaching level v (m * d) ≡ m
multiples level v d hd only all zero = ap (reaching level v) (zero-mul d)
multiples level v d hd only all (suc m) =
    ap (reaching level v) (suc-mul m d) ∙ block d hd (le_refl d) ∙ ap suc (multiples level v d hd only all m)
  where
    no : (a : ℕ) → 0 < a % d → cond {A = ℕ} (nat_le v (level a)) 1 0 ≡ 0
    no a h = ap (λ (t : Bool). cond {A = ℕ} t 1 0) (lt-leb v (level a) (lt_of_not-le (λ k. omega (arith, only a k))))

    yes : (a : ℕ) → a % d ≡ 0 → cond {A = ℕ} (nat_le v (level a)) 1 0 ≡ 1
    yes a z = ap (λ (t : Bool). cond {A = ℕ} t 1 0) (le-leb v (level a) (all a z))

    block : (r : ℕ) → 0 < r → r ≤ d → reaching level v (m * d + r) ≡ suc (reaching level v (m * d))
    block zero h l = absurd (omega arith)
    block (suc zero) h l =
        ap (reaching level v) (add-suc (m * d) 0 ∙ ap suc (add-zero (m * d)))
        ∙ ap (λ (y : ℕ). y + reaching level v (m * d)) (yes (m * d) (mul-mod_left m d)) ∙ omega arith
    block (suc (suc r)) h l =
        let rest : (m * d + suc r) % d ≡ suc r = mul-add-mod_self_right m d (suc r) ∙ mod-eq_of_lt l in
        ap (reaching level v) (add-suc (m * d) (suc r))
        ∙ ap₂ (λ (x y : ℕ). x + y) (no (m * d + suc r) (omega arith)) (block (suc r) (omega arith) (omega arith))
        ∙ zero-add (suc (reaching level v (m * d)))

-- what the power divides, times an inverse of the unit, is a quotient
pub quotient_is :
    (n a b p u x : ℕ) → a < n → b ≡ p * u → a % p ≡ 0 → (u * x) % n ≡ 1 % n → (b * ((a / p * x) % n)) % n ≡ a
quotient_is n a b p u x ha eb za inv =
    let is : b * (a / p * x) ≡ a * (u * x) =
    ap (λ (y : ℕ). y * (a / p * x)) (eb ∙ mul_comm p u)
    ∙ mul-mul-mul_comm u p (a / p) x
    ∙ ap (λ (y : ℕ). y * (p * x)) (mul_comm u (a / p))
    ∙ mul-mul-mul_comm (a / p) u p x
    ∙ ap (λ (y : ℕ). y * (u * x)) (mul_comm (a / p) p ∙ sym (multiple p a za)) in
    mul-mod_second b (a / p * x) n ∙ ap (λ (y : ℕ). y % n) is ∙ sym (mul-mod_second a (u * x) n) ∙ ap (λ (y : ℕ). (a * y) % n) inv
    ∙ mul-mod_second a 1 n ∙ ap (λ (y : ℕ). y % n) (mul-one a) ∙ mod-eq_of_lt ha

-- the answer of code that takes remainders first: there is none where the power does not divide
pub no_quotient :
    (q e a b x y : ℕ) (p : Parts)
    → 2 ≤ q
    → x ≡ a % q ^ e
    → y ≡ b % q ^ e
    → Parted q q y p
    → (x % p.power ≢ 0)
    → zeros q e (a % q ^ e) < zeros q e (b % q ^ e)
no_quotient q e a b x y p hq ea eb parts never =
    let is = (parted_level q e y p hq (remainder_below (q ^ e) b y (q ^ e) (one-le-pow e q (omega arith)) (le_refl (q ^ e)) eb) parts).1 in
    subst₂ (λ (s t : ℕ). zeros q e s < zeros q e t) ea eb
    (lt_of_not-le (λ h.
    never
    (ap (λ (t : ℕ). x % t) parts.1
    ∙ (zeros_divide q e p.level x (omega arith) (subst (λ (t : ℕ). t ≤ zeros q e x) is h)).1)))

-- and else the product of what is left of a and the inverse of the unit
pub some_quotient :
    (q e a b x y : ℕ) (p : Parts) (i c : ℕ)
    → 2 ≤ q
    → x ≡ a % q ^ e
    → y ≡ b % q ^ e
    → Parted q q y p
    → x % p.power ≡ 0
    → (p.unit * i) % q ^ e ≡ 1 % q ^ e
    → c ≡ (((x / p.power) % q ^ e) * (i % q ^ e)) % q ^ e
    → (zeros q e (b % q ^ e) ≤ zeros q e (a % q ^ e)) × ((c < q ^ e) × (((b % q ^ e) * c) % q ^ e ≡ a % q ^ e))
some_quotient q e a b x y p i c hq ea eb parts zx inv ec =
    let hn : 0 < q ^ e = one-le-pow e q (omega arith) in
    let hx = remainder_below (q ^ e) a x (q ^ e) hn (le_refl (q ^ e)) ea in
    let hy = remainder_below (q ^ e) b y (q ^ e) hn (le_refl (q ^ e)) eb in
    let level = parted_level q e y p hq hy parts in
    let is : c ≡ (x / p.power * i) % q ^ e = ec ∙ sym (mul-mod (x / p.power) i (q ^ e)) in
    subst₂ (λ (s t : ℕ). (zeros q e t ≤ zeros q e s) × ((c < q ^ e) × ((t * c) % q ^ e ≡ s))) ea eb (
      subst (λ (t : ℕ). t ≤ zeros q e x) (sym level.1)
          (divide_zeros q e p.level x (omega arith) (omega (arith, level.0)) (ap (λ (t : ℕ). x % t) (sym parts.1) ∙ zx)),
      (
        subst (λ (t : ℕ). t < q ^ e) (sym is) (mod-lt (x / p.power * i) hn),
        ap (λ (t : ℕ). (y * t) % q ^ e) is ∙ quotient_is (q ^ e) x y p.power p.unit i hx parts.0 zx inv,
      ),
    )

-- the facts of levels, over a base q and a length e
module _ (q e : ℕ) (hq : 2 ≤ q) (he : 1 ≤ e) where
  pos : 0 < q
  pos = omega arith

  level_of : (a v : ℕ) → v ≤ e → a % q ^ v ≡ 0 → v ≤ zeros q e (a % q ^ e)
  level_of a v h z = divide_zeros q e v (a % q ^ e) pos h (power_mod q v e a h ∙ z)

  of_level : (a v : ℕ) → v ≤ zeros q e (a % q ^ e) → (v ≤ e) × (a % q ^ v ≡ 0)
  of_level a v h =
      let d = zeros_divide q e v (a % q ^ e) pos h in
      (d.0, sym (power_mod q v e a d.0) ∙ d.1)

  level_add : (a b : ℕ) → min (zeros q e a) (zeros q e b) ≤ zeros q e ((a + b) % q ^ e)
  level_add a b =
      let v : ℕ = min (zeros q e a) (zeros q e b) in
      let da = zeros_divide q e v a pos (min-le_left (zeros q e a) (zeros q e b)) in
      let db = zeros_divide q e v b pos (min-le_right (zeros q e a) (zeros q e b)) in
      level_of (a + b) v da.0
      (add-mod a b (q ^ v) ∙ ap₂ (λ (x y : ℕ). (x + y) % q ^ v) da.1 db.1 ∙ zero-mod (q ^ v))

  at_least : (a b : ℕ) → min e (zeros q e a + zeros q e b) ≤ zeros q e ((a * b) % q ^ e)
  at_least a b =
      let i : ℕ = zeros q e a in
      let j : ℕ = zeros q e b in
      let ma = multiple (q ^ i) a (zeros_divide q e i a pos (le_refl i)).1 in
      let mb = multiple (q ^ j) b (zeros_divide q e j b pos (le_refl j)).1 in
      let whole : (a * b) % q ^ (i + j) ≡ 0 =
      of_multiple (q ^ (i + j)) (a / q ^ i * (b / q ^ j)) (a * b)
      (ap₂ (λ (x y : ℕ). x * y) ma mb ∙ mul-mul-mul_comm (q ^ i) (a / q ^ i) (q ^ j) (b / q ^ j)
      ∙ ap (λ (x : ℕ). x * (a / q ^ i * (b / q ^ j))) (sym (pow-add q i j))) in
      level_of (a * b) (min e (i + j)) (min-le_left e (i + j)) (lower_power q (min e (i + j)) (i + j) (a * b) (min-le_right e (i + j)) whole)

  at_most : Inverted q → (a b : ℕ) → zeros q e ((a * b) % q ^ e) ≤ min e (zeros q e a + zeros q e b)
  at_most inverted a b =
      le-min (of_level (a * b) (zeros q e ((a * b) % q ^ e)) (le_refl (zeros q e ((a * b) % q ^ e)))).0
      (le_of_suc-le-suc (lt_of_not-le (λ h. past (of_level (a * b) (suc (zeros q e a + zeros q e b)) h))))
    where
      past : (suc (zeros q e a + zeros q e b) ≤ e) × ((a * b) % q ^ suc (zeros q e a + zeros q e b) ≡ 0) → ⊥
      past h =
          let i : ℕ = zeros q e a in
          let j : ℕ = zeros q e b in
          let sa = split_zeros q e a hq (omega (arith, h.0)) in
          let sb = split_zeros q e b hq (omega (arith, h.0)) in
          let u : ℕ = a / q ^ i in
          let w : ℕ = b / q ^ j in
          let ab : a * b ≡ q ^ (i + j) * (u * w) =
          ap₂ (λ (x y : ℕ). x * y) sa.0 sb.0 ∙ mul-mul-mul_comm (q ^ i) u (q ^ j) w
          ∙ ap (λ (x : ℕ). x * (u * w)) (sym (pow-add q i j)) in
          let last : (u * w) % q ≡ 0 =
          mod-eq-zero_of_dvd q (dvd_of_mul-dvd-mul_left q (one-le-pow (i + j) q pos)
          (subst (λ (x : ℕ). x ∣ q ^ (i + j) * (u * w)) (pow-suc q (i + j))
          (dvd_of_mod-eq-zero (q ^ suc (i + j)) (ap (λ (x : ℕ). x % q ^ suc (i + j)) (sym ab) ∙ h.1)))) in
          omega (arith, prime_like q hq inverted u w sa.1 last, sb.1)

  step_zeros : zeros q e (q % q ^ e) ≡ 1
  step_zeros =
      let first : q ^ 1 ≡ q = pow-suc q 0 ∙ ap (λ (y : ℕ). y * q) (pow-zero q) ∙ one-mul q in
      zeros_are q e 1 (q % q ^ e) pos he
      (power_mod q 1 e q he ∙ ap (λ (y : ℕ). q % y) first ∙ mod_self q)
      (λ h z. omega (arith, sym (mod-eq_of_lt (square first)) ∙ sym (power_mod q 2 e q h) ∙ z))
    where
      square : q ^ 1 ≡ q → q < q ^ 2
      square first = omega (arith, pow-suc q 1, ap (λ (y : ℕ). y * q) first, mul-le-mul_left q hq)

  count : (v : ℕ) → v ≤ e → reaching (zeros q e) v (q ^ e) ≡ q ^ (e - v)
  count v h =
      ap (reaching (zeros q e) v) (ap (λ (x : ℕ). q ^ x) (sym (sub-add_cancel h)) ∙ pow-add q (e - v) v)
      ∙ multiples (zeros q e) v (q ^ v) (one-le-pow v q pos)
      (λ a k. (zeros_divide q e v a pos k).1)
      (λ a z. divide_zeros q e v a pos h z)
      (q ^ (e - v))

  divided :
      Inverted q
      → (a b : ℕ)
      → a < q ^ e
      → b < q ^ e
      → zeros q e b ≤ zeros q e a
      → (c : ℕ) × ((c < q ^ e) × ((b * c) % q ^ e ≡ a))
  divided inverted a b ha hb h = elim (eq-or-lt_of_le (zeros_divide q e (zeros q e b) b pos (le_refl (zeros q e b))).0) [
    | inl top ↦ (0, (one-le-pow e q pos, ap (λ (x : ℕ). x % q ^ e) (mul-zero b) ∙ zero-mod (q ^ e) ∙ sym (none top)))
    | inr low ↦ some low
  ]
    where
      none : zeros q e b ≡ e → a ≡ 0
      none top = sym (mod-eq_of_lt ha) ∙ (zeros_divide q e e a pos (omega arith)).1

      some : zeros q e b < e → (c : ℕ) × ((c < q ^ e) × ((b * c) % q ^ e ≡ a))
      some low =
          let v : ℕ = zeros q e b in
          let s = split_zeros q e b hq low in
          let x = inverse q e (b / q ^ v) hq he inverted s.1 in (
            (a / q ^ v * x.0) % q ^ e,
            (
              mod-lt (a / q ^ v * x.0) (one-le-pow e q pos),
              quotient_is (q ^ e) a b (q ^ v) (b / q ^ v) x.0 ha s.0 (zeros_divide q e v a pos h).1 x.1,
            ),
          )

pub counting_laws : (k : Mark) → Fit k → Laws (counting k)
counting_laws k fit =
    let q : ℕ = k.base in
    let e : ℕ = k.length in
    let n : ℕ = q ^ e in
    let hq : 2 ≤ q = fit.base_least in
    let he : 1 ≤ e = fit.length_least in
    let hp : 0 < q = omega arith in
    let hn : 0 < n = one-le-pow e q hp in
    record {
      kind_most = fit.kind_most;
      base_least = hq;
      base_most = fit.base_most;
      length_least = he;
      size_most = fit.size_most;
      one_code = power_two q e hq he;
      step_code = mod-lt q hn;
      sum_code = λ a b ha hb. mod-lt (a + b) hn;
      negative_code = λ a ha. mod-lt (n - a) hn;
      product_code = λ a b ha hb. mod-lt (a * b) hn;
      sum_assoc =
          λ a b c ha hb hc.
          mod-add-mod (a + b) n c ∙ ap (λ (x : ℕ). x % n) (add_assoc a b c) ∙ sym (add-mod-mod a (b + c) n);
      sum_comm = λ a b ha hb. ap (λ (x : ℕ). x % n) (add_comm a b);
      sum_zero = λ a ha. ap (λ (x : ℕ). x % n) (add-zero a) ∙ mod-eq_of_lt ha;
      sum_negative =
          λ a ha. add-mod-mod a (n - a) n ∙ ap (λ (x : ℕ). x % n) (add-sub_of_le (omega arith)) ∙ mod_self n;
      product_assoc =
          λ a b c ha hb hc.
          mul-mod_first (a * b) c n ∙ ap (λ (x : ℕ). x % n) (mul_assoc a b c) ∙ sym (mul-mod_second a (b * c) n);
      product_comm = λ a b ha hb. ap (λ (x : ℕ). x % n) (mul_comm a b);
      product_one = λ a ha. ap (λ (x : ℕ). x % n) (mul-one a) ∙ mod-eq_of_lt ha;
      product_sum =
          λ a b c ha hb hc.
          mul-mod_second a (b + c) n ∙ ap (λ (x : ℕ). x % n) (mul-add a b c) ∙ add-mod (a * b) (a * c) n;
      level_most = λ a ha. (zeros_divide q e (zeros q e a) a hp (le_refl (zeros q e a))).0;
      level_zero =
          le_antisymm (zeros_divide q e (zeros q e 0) 0 hp (le_refl (zeros q e 0))).0
          (divide_zeros q e e 0 hp (le_refl e) (zero-mod n));
      zero_only = λ a ha h. sym (mod-eq_of_lt ha) ∙ (zeros_divide q e e a hp (omega arith)).1;
      level_product =
          λ a b ha hb. le_antisymm (at_most q e hq he fit.base_inverted a b) (at_least q e hq he a b);
      level_sum = λ a b ha hb. level_add q e hq he a b;
      step_level = step_zeros q e hq he;
      level_count = count q e hq he;
      quotient = divided q e hq he fit.base_inverted;
    }
