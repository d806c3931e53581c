-- Systems: families that have one member of each kind, and how many members they have.
use Rattle.std.proofs.Common.{◌≡◌, ℕ, zero, suc, ◌+◌, ◌*◌, ◌/◌, ◌%◌, ◌^◌, ◌<◌, ◌≤◌, Bool, true, false, cond, ◌⊎◌, sym, refl, ap, ◌∙◌, subst, ap₂, inl, inr, mod-lt, div-lt_iff_lt-mul, le_antisymm, mul-zero, div-add-mod', arith, pow-add}
use lib.Arith.{digits_lt, digits_div, digits_mod}
use native.Mathlib.Decide.{ℕ_discrete, dec_lt}
use native.Mathlib.Nat.{pow-zero}
use borrow.Author.Tests.{clash}

-- the first n of a family have the property P, no two of them are alike, and whatever has P is like one of them
pub record System {X : Type 0} (N : X → X → Type 0) (P : X → Type 0) (n : ℕ) (at : ℕ → X) : Type 0 where
  pub member : (i : ℕ) → i < n → P (at i)
  pub different : (i j : ℕ) → i < n → j < n → N (at i) (at j) → i ≡ j
  pub complete : (x : X) → P x → (i : ℕ) × (i < n) × N x (at i)

abbrev pub Equal : ℕ → ℕ → Type 0
Equal i j = i ≡ j

-- a system, with its relation and its property in other words
pub restated :
    {X : Type 0} (N M : X → X → Type 0) (P Q : X → Type 0) (n : ℕ) (at : ℕ → X)
    → ((x y : X) → N x y → M x y)
    → ((x y : X) → M x y → N x y)
    → ((x : X) → P x → Q x)
    → ((x : X) → Q x → P x)
    → System N P n at
    → System M Q n at
restated N M P Q n at near far there back a =
    record {
      member = λ i h. there (at i) (a.member i h);
      different = λ i j h k same. a.different i j h k (far (at i) (at j) same);
      complete = λ x p. let c = a.complete x (back x p) in (c.0, c.1, near x (at c.0) c.2);
    }

-- n numbers below k that are all different
pub pigeonhole :
    (n k : ℕ) (f : ℕ → ℕ)
    → ((i : ℕ) → i < n → f i < k)
    → ((i j : ℕ) → i < n → j < n → f i ≡ f j → i ≡ j)
    → n ≤ k
pigeonhole zero k f below apart = omega arith
pigeonhole (suc n) zero f below apart = absurd (omega (arith, below n (omega arith)))
pigeonhole (suc n) (suc k) f below apart =
    let less : n ≤ k = pigeonhole n k g g_below g_apart in omega arith
  where
    -- the one that has k, if there is one, takes what the last has
    pick : (i : ℕ) → Dec (f i ≡ k) → ℕ
    pick i (yes e) = f n
    pick i (no d) = f i

    g : ℕ → ℕ
    g i = pick i (ℕ_discrete (f i) k)

    pick_is :
        (i : ℕ) (c : Dec (f i ≡ k)) → ((f i ≡ k) × (pick i c ≡ f n)) ⊎ ((f i ≡ k → ⊥) × (pick i c ≡ f i))
    pick_is i (yes e) = inl (e, refl)
    pick_is i (no d) = inr (d, refl)

    not_last : (i : ℕ) → i < n → f i ≡ f n → ⊥
    not_last i h e = let same : i ≡ n = apart i n (omega arith) (omega arith) e in omega arith

    g_below : (i : ℕ) → i < n → g i < k
    g_below i h =
        let last = below n (omega arith) in
        let own = below i (omega arith) in
        let other = not_last i h in
        elim (pick_is i (ℕ_discrete (f i) k)) [
          | inl c ↦ let d : f n ≡ k → ⊥ = λ e. other (c.0 ∙ sym e) in omega (arith, c.1)
          | inr c ↦ let d = c.0 in omega (arith, c.1)
        ]

    g_apart : (i j : ℕ) → i < n → j < n → g i ≡ g j → i ≡ j
    g_apart i j hi hj e =
        elim (pick_is i (ℕ_discrete (f i) k)) [
          | inl a ↦ elim (pick_is j (ℕ_discrete (f j) k)) [
            | inl b ↦ apart i j (omega arith) (omega arith) (a.0 ∙ sym b.0)
            | inr b ↦ absurd (not_last j hj (sym b.1 ∙ sym e ∙ a.1))
          ]
          | inr a ↦ elim (pick_is j (ℕ_discrete (f j) k)) [
            | inl b ↦ absurd (not_last i hi (sym a.1 ∙ e ∙ b.1))
            | inr b ↦ apart i j (omega arith) (omega arith) (sym a.1 ∙ e ∙ b.1)
          ]
        ]

-- where each number below n has something, a function gives it
pub choose :
    {X : Type 0} (d : X) (n : ℕ) (R : ℕ → X → Type 0)
    → ((i : ℕ) → i < n → (x : X) × R i x)
    → (f : ℕ → X) × ((i : ℕ) → i < n → R i (f i))
choose {X} d n R have = (λ i. value i (dec_lt i n), λ i h. fits i (dec_lt i n) h)
  where
    value : (i : ℕ) → Dec (i < n) → X
    value i (yes h) = (have i h).0
    value i (no k) = d

    fits : (i : ℕ) (c : Dec (i < n)) → i < n → R i (value i c)
    fits i (yes k) h = (have i k).1
    fits i (no k) h = absurd (k h)

-- two systems of the same have as many members
module _ {X : Type 0} (N : X → X → Type 0) (P : X → Type 0)
    (turn : (x y : X) → P x → P y → N x y → N y x)
    (join : (x y z : X) → P x → P y → P z → N x y → N y z → N x z) where
  no_more : (n k : ℕ) (at bt : ℕ → X) → System N P n at → System N P k bt → n ≤ k
  no_more n k at bt a b =
      let f = choose 0 n (λ i l. (l < k) × N (at i) (bt l))
      (λ i h. let c = b.complete (at i) (a.member i h) in (c.0, (c.1, c.2)))
      in
      pigeonhole n k f.0 (λ i h. (f.1 i h).0)
      (λ i j hi hj e.
      let l = f.0 j in
      let pi = a.member i hi in
      let pj = a.member j hj in
      let pl = b.member l (f.1 j hj).0 in
      let there : N (at i) (bt l) = subst (λ (x : ℕ). N (at i) (bt x)) e (f.1 i hi).1 in
      a.different i j hi hj (join (at i) (bt l) (at j) pi pl pj there (turn (at j) (bt l) pj pl (f.1 j hj).1))
      )

  pub same_size : (n k : ℕ) (at bt : ℕ → X) → System N P n at → System N P k bt → n ≡ k
  same_size n k at bt a b = le_antisymm (no_more n k at bt a b) (no_more k n bt at b a)

-- a value before a sequence
abbrev front : {X : Type 0} → X → (ℕ → X) → ℕ → X
front x f zero = x
front x f (suc i) = f i

-- how many of the numbers below n pass a test
abbrev pub passing : (ℕ → Bool) → ℕ → ℕ
passing t zero = 0
passing t (suc n) = cond (t n) 1 0 + passing t n

-- those that do
pub tested :
    (t : ℕ → Bool) (n : ℕ)
    → (at : ℕ → ℕ) × System Equal (λ i. (i < n) × (t i ≡ true)) (passing t n) at
tested t zero = (
  λ i. i,
  record {
    member = λ i h. absurd (omega arith);
    different = λ i j h k e. e;
    complete = λ x p. absurd (omega (arith, p.0));
  },
)
tested t (suc n) = with_last (t n) refl (tested t n).0 (tested t n).1
  where
    Passes : ℕ → Type 0
    Passes i = (i < suc n) × (t i ≡ true)

    with_last :
        (b : Bool)
        → t n ≡ b
        → (at : ℕ → ℕ)
        → System Equal (λ i. (i < n) × (t i ≡ true)) (passing t n) at
        → (bt : ℕ → ℕ) × System Equal Passes (cond b 1 0 + passing t n) bt
    with_last true e at a = (front n at, record { member = member; different = different; complete = complete })
      where
        member : (i : ℕ) → i < 1 + passing t n → Passes (front n at i)
        member zero h = (omega arith, e)
        member (suc i) h = let p = a.member i (omega arith) in (omega arith, p.1)

        different :
            (i j : ℕ) → i < 1 + passing t n → j < 1 + passing t n → front n at i ≡ front n at j → i ≡ j
        different zero zero h k same = refl
        different zero (suc j) h k same = absurd (omega (arith, (a.member j (omega arith)).0))
        different (suc i) zero h k same = absurd (omega (arith, (a.member i (omega arith)).0))
        different (suc i) (suc j) h k same = ap suc (a.different i j (omega arith) (omega arith) same)

        complete : (x : ℕ) → Passes x → (i : ℕ) × (i < 1 + passing t n) × (x ≡ front n at i)
        complete x p = go (ℕ_discrete x n)
          where
            go : Dec (x ≡ n) → (i : ℕ) × (i < 1 + passing t n) × (x ≡ front n at i)
            go (yes s) = (0, omega arith, s)
            go (no d) = let c = a.complete x (omega (arith, p.0), p.1) in (suc c.0, omega (arith, c.1), c.2)
    with_last false e at a = (at, record { member = member; different = different; complete = complete })
      where
        member : (i : ℕ) → i < 0 + passing t n → Passes (at i)
        member i h = let p = a.member i (omega arith) in (omega arith, p.1)

        different : (i j : ℕ) → i < 0 + passing t n → j < 0 + passing t n → at i ≡ at j → i ≡ j
        different i j h k same = a.different i j (omega arith) (omega arith) same

        complete : (x : ℕ) → Passes x → (i : ℕ) × (i < 0 + passing t n) × (x ≡ at i)
        complete x p =
            let other : x ≡ n → ⊥ = λ s. let z : true ≡ false = sym p.1 ∙ ap t s ∙ e in clash (sym z) in
            let c = a.complete x (omega (arith, p.0), p.1) in
            (c.0, omega (arith, c.1), c.2)

-- the members of which something holds that is decided, and that holds alike of those that are alike
pub part :
    {X : Type 0} (N : X → X → Type 0) (P Q : X → Type 0) (n : ℕ) (at : ℕ → X)
    → System N P n at
    → ((x : X) → Dec (Q x))
    → ((x y : X) → P x → P y → N x y → Q x → Q y)
    → (k : ℕ) × (bt : ℕ → X) × System N (λ x. P x × Q x) k bt
part {X} N P Q n at a dec keeps = (
  passing t n,
  λ i. at (sel i),
  record {
    member =
        λ i h.
        let c = chosen.member i h in
        (a.member (sel i) c.0, told_true (dec (at (sel i))) c.1);
    different =
        λ i j hi hj same.
        chosen.different i j hi hj
        (a.different (sel i) (sel j) (chosen.member i hi).0 (chosen.member j hj).0 same);
    complete =
        λ x p.
        let c = a.complete x p.0 in
        let q = keeps x (at c.0) p.0 (a.member c.0 c.1) c.2 p.1 in
        let d = chosen.complete c.0 (c.1, true_told (dec (at c.0)) q) in
        (d.0, d.1, subst (λ (i : ℕ). N x (at i)) d.2 c.2);
  },
)
  where
    told : {A : Type 0} → Dec A → Bool
    told (yes h) = true
    told (no d) = false

    told_true : {A : Type 0} (c : Dec A) → told c ≡ true → A
    told_true (yes h) e = h
    told_true (no d) e = absurd (clash e)

    true_told : {A : Type 0} (c : Dec A) → A → told c ≡ true
    true_told (yes h) x = refl
    true_told (no d) x = absurd (d x)

    t : ℕ → Bool
    t i = told (dec (at i))

    sel : ℕ → ℕ
    sel = (tested t n).0

    chosen : System Equal (λ i. (i < n) × (t i ≡ true)) (passing t n) sel
    chosen = (tested t n).1

-- k rows of j members each
pub grid :
    {X : Type 0} (N : X → X → Type 0) (P : X → Type 0) (k j : ℕ) (at : ℕ → ℕ → X)
    → ((i l : ℕ) → i < k → l < j → P (at i l))
    → ((i l a b : ℕ) → i < k → l < j → a < k → b < j → N (at i l) (at a b) → (i ≡ a) × (l ≡ b))
    → ((x : X) → P x → (i l : ℕ) × (i < k) × (l < j) × N x (at i l))
    → System N P (k * j) (λ n. at (n / j) (n % j))
grid N P k j at member different complete =
    record {
      member = λ n h. let c = coordinates n h in member (n / j) (n % j) c.0 c.1;
      different =
          λ n o h g same.
          let c = coordinates n h in
          let d = coordinates o g in
          let e = different (n / j) (n % j) (o / j) (o % j) c.0 c.1 d.0 d.1 same in
          sym (div-add-mod' n j) ∙ ap₂ (λ (a b : ℕ). a * j + b) e.0 e.1 ∙ div-add-mod' o j;
      complete =
          λ x p.
          let c = complete x p in (
            c.0 * j + c.1,
            digits_lt c.2 c.3,
            subst (λ (a : ℕ). N x (at a ((c.0 * j + c.1) % j))) (sym (digits_div c.0 c.3))
                (subst (λ (b : ℕ). N x (at c.0 b)) (sym (digits_mod c.0 c.3)) c.4),
          );
    }
  where
    some : (i j n : ℕ) → n < i * j → 0 < j
    some i zero n h = absurd (omega (arith, mul-zero i))
    some i (suc j) n h = omega arith

    coordinates : (n : ℕ) → n < k * j → (n / j < k) × (n % j < j)
    coordinates n h = let pos = some k j n h in ((div-lt_iff_lt-mul pos).1 h, mod-lt n pos)

-- e 0 + .. + e (n - 1)
abbrev pub added : ℕ → (ℕ → ℕ) → ℕ
added zero e = 0
added (suc n) e = e 0 + added n (λ c. e (suc c))

-- two rows of n values are alike at each place, and a row has a property at each place
abbrev pub Alike : {X : Type 0} → ℕ → (ℕ → X → X → Type 0) → (ℕ → X) → (ℕ → X) → Type 0
Alike n N x y = (c : ℕ) → c < n → N c (x c) (y c)

abbrev pub Row : {X : Type 0} → ℕ → (ℕ → X → Type 0) → (ℕ → X) → Type 0
Row n P x = (c : ℕ) → c < n → P c (x c)

-- rows of n values, with a system at each place
pub rows :
    {X : Type 0} (q n : ℕ) (N : ℕ → X → X → Type 0) (P : ℕ → X → Type 0) (e : ℕ → ℕ) (at : ℕ → ℕ → X)
    → ((c : ℕ) → c < n → System (N c) (P c) (q ^ e c) (at c))
    → (bt : ℕ → ℕ → X) × System (Alike n N) (Row n P) (q ^ added n e) bt
rows q zero N P e at a =
    let one = pow-zero q in (
      at,
      record {
        member = λ i h c k. absurd (omega arith);
        different = λ i j h k same. omega arith;
        complete = λ x p. (0, omega arith, λ c h. absurd (omega arith));
      },
    )
rows {X} q (suc n) N P e at a =
    let rest = rows q n (λ c. N (suc c)) (λ c. P (suc c)) (λ c. e (suc c)) (λ c. at (suc c))
    (λ c h. a (suc c) (omega arith))
    in
    with_rest rest.0 rest.1
  where
    first : System (N 0) (P 0) (q ^ e 0) (at 0)
    first = a 0 (omega arith)

    with_rest :
        (bt : ℕ → ℕ → X)
        → System (Alike n (λ c. N (suc c))) (Row n (λ c. P (suc c))) (q ^ added n (λ c. e (suc c))) bt
        → (bt : ℕ → ℕ → X) × System (Alike (suc n) N) (Row (suc n) P) (q ^ (e 0 + added n (λ c. e (suc c)))) bt
    with_rest bt rest = (
      λ i. front (at 0 (i / j)) (bt (i % j)),
      subst (λ (k : ℕ). System (Alike (suc n) N) (Row (suc n) P) k (λ i. front (at 0 (i / j)) (bt (i % j))))
          (sym (pow-add q (e 0) (added n (λ c. e (suc c)))))
          (grid (Alike (suc n) N) (Row (suc n) P) (q ^ e 0) j (λ i l. front (at 0 i) (bt l)) member different complete),
    )
      where
        j : ℕ
        j = q ^ added n (λ c. e (suc c))

        member : (i l : ℕ) → i < q ^ e 0 → l < j → Row (suc n) P (front (at 0 i) (bt l))
        member i l hi hl zero h = first.member i hi
        member i l hi hl (suc c) h = rest.member l hl c (omega arith)

        different :
            (i l a b : ℕ)
            → i < q ^ e 0
            → l < j
            → a < q ^ e 0
            → b < j
            → Alike (suc n) N (front (at 0 i) (bt l)) (front (at 0 a) (bt b))
            → (i ≡ a) × (l ≡ b)
        different i l a b hi hl ha hb same = (
          first.different i a hi ha (same 0 (omega arith)),
          rest.different l b hl hb (λ c h. same (suc c) (omega arith)),
        )

        complete :
            (x : ℕ → X)
            → Row (suc n) P x
            → (i l : ℕ) × (i < q ^ e 0) × (l < j) × Alike (suc n) N x (front (at 0 i) (bt l))
        complete x p =
            let f = first.complete (x 0) (p 0 (omega arith)) in
            let g = rest.complete (λ c. x (suc c)) (λ c h. p (suc c) (omega arith)) in
            (f.0, g.0, f.1, g.1, alike f.0 g.0 f.2 g.2)
          where
            alike :
                (i l : ℕ)
                → N 0 (x 0) (at 0 i)
                → Alike n (λ c. N (suc c)) (λ c. x (suc c)) (bt l)
                → Alike (suc n) N x (front (at 0 i) (bt l))
            alike i l f g zero h = f
            alike i l f g (suc c) h = g c (omega arith)
