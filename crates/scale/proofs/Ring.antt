-- Commutative rings: what follows from their laws.
use Rattle.std.proofs.Common.{◌≡◌, sym, ap, ◌∙◌}

pub record Ring (C : Type 0) : Type 0 where
  pub zero : C
  pub one : C
  pub add : C → C → C
  pub neg : C → C
  pub mul : C → C → C
  pub add_assoc : (a b c : C) → add (add a b) c ≡ add a (add b c)
  pub add_comm : (a b : C) → add a b ≡ add b a
  pub add_zero : (a : C) → add a zero ≡ a
  pub add_neg : (a : C) → add a (neg a) ≡ zero
  pub mul_assoc : (a b c : C) → mul (mul a b) c ≡ mul a (mul b c)
  pub mul_comm : (a b : C) → mul a b ≡ mul b a
  pub mul_one : (a : C) → mul a one ≡ a
  pub mul_add : (a b c : C) → mul a (add b c) ≡ add (mul a b) (mul a c)

module _ {C : Type 0} (R : Ring C) where
  open R use {zero, one, add, neg, mul, add_assoc, add_comm, add_zero, add_neg, mul_assoc, mul_comm, mul_one, mul_add}

  pub zero_add : (a : C) → add zero a ≡ a
  zero_add a = add_comm zero a ∙ add_zero a

  pub neg_add : (a : C) → add (neg a) a ≡ zero
  neg_add a = add_comm (neg a) a ∙ add_neg a

  pub add_left_comm : (a b c : C) → add a (add b c) ≡ add b (add a c)
  add_left_comm a b c = sym (add_assoc a b c) ∙ ap (λ x. add x c) (add_comm a b) ∙ add_assoc b a c

  -- four summands, the middle ones swapped
  pub add_cross : (a b c d : C) → add (add a b) (add c d) ≡ add (add a c) (add b d)
  add_cross a b c d = add_assoc a b (add c d) ∙ ap (add a) (add_left_comm b c d) ∙ sym (add_assoc a c (add b d))

  pub add_cancel : (a b c : C) → add a b ≡ add a c → b ≡ c
  add_cancel a b c e =
      sym (zero_add b)
      ∙ ap (λ x. add x b) (sym (neg_add a))
      ∙ add_assoc (neg a) a b
      ∙ ap (add (neg a)) e
      ∙ sym (add_assoc (neg a) a c)
      ∙ ap (λ x. add x c) (neg_add a)
      ∙ zero_add c

  pub mul_zero : (a : C) → mul a zero ≡ zero
  mul_zero a =
      add_cancel (mul a zero) (mul a zero) zero
      (sym (mul_add a zero zero) ∙ ap (mul a) (add_zero zero) ∙ sym (add_zero (mul a zero)))

  pub zero_mul : (a : C) → mul zero a ≡ zero
  zero_mul a = mul_comm zero a ∙ mul_zero a

  pub add_mul : (a b c : C) → mul (add a b) c ≡ add (mul a c) (mul b c)
  add_mul a b c =
      mul_comm (add a b) c
      ∙ mul_add c a b
      ∙ ap (λ x. add x (mul c b)) (mul_comm c a)
      ∙ ap (add (mul a c)) (mul_comm c b)

  -- the negative is the one number that adds to zero
  pub neg_unique : (a b : C) → add a b ≡ zero → b ≡ neg a
  neg_unique a b e = add_cancel a b (neg a) (e ∙ sym (add_neg a))

  pub mul_neg : (a b : C) → mul a (neg b) ≡ neg (mul a b)
  mul_neg a b =
      neg_unique (mul a b) (mul a (neg b)) (sym (mul_add a b (neg b)) ∙ ap (mul a) (add_neg b) ∙ mul_zero a)

  -- numbers whose difference is zero are equal
  pub equal : (a b : C) → add a (neg b) ≡ zero → a ≡ b
  equal a b e = sym (add_zero a) ∙ ap (add a) (sym (neg_add b)) ∙ sym (add_assoc a (neg b) b) ∙ ap (λ x. add x b) e ∙ zero_add b
