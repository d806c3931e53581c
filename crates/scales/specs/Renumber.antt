-- A renumbering of the codes keeps the laws of a scale.
use Rattle.std.specs.Prelude.{◌≡◌, ℕ, zero, suc, ◌+◌, ◌≤◌, min, cond, nat_le, refl}
use Rattle.std.proofs.Common.{sym, ap, ap₂, ◌∙◌, subst, arith}
use Rattle.scale.specs.Meaning.{Meaning, Laws, Code, Quotient, size, reaching}
use Rattle.scales.specs.Numbering.{renumbered}
use Rattle.scales.specs.Sums.{sum, sum_moved}

-- `code` and `position` number the codes of `m` anew, and keep 0
pub record Numbering (code position : ℕ → ℕ) (m : Meaning) : Type 0 where
  pub code_below : (a : ℕ) → Code m a → Code m (code a)
  pub position_below : (a : ℕ) → Code m a → Code m (position a)
  pub code_position : (a : ℕ) → Code m a → code (position a) ≡ a
  pub position_code : (a : ℕ) → Code m a → position (code a) ≡ a
  pub code_zero : code 0 ≡ 0

reaching_sum : (level : ℕ → ℕ) (v n : ℕ) → reaching level v n ≡ sum (λ a. cond (nat_le v (level a)) 1 0) n
reaching_sum level v zero = refl
reaching_sum level v (suc n) = ap (λ (x : ℕ). cond (nat_le v (level n)) 1 0 + x) (reaching_sum level v n)

-- a quotient of positions, carried to codes
pub moved_quotient :
    (code position : ℕ → ℕ) (m : Meaning) → Numbering code position m → (a b c : ℕ) → Code m a
    → Quotient m (position a) (position b) c
    → Quotient (renumbered code position m) a b (code c)
moved_quotient code position m f a b c ha q = (
  f.code_below c q.0,
  ap code (ap (m.product (position b)) (f.position_code c q.0) ∙ q.1) ∙ f.code_position a ha,
)

module _ (code position : ℕ → ℕ) (m : Meaning) (f : Numbering code position m) (laws : Laws m) where
  below : (a : ℕ) → Code m a → Code m (position a)
  below = f.position_below

  position_zero : position 0 ≡ 0
  position_zero = ap position (sym f.code_zero) ∙ f.position_code 0 (omega (arith, laws.one_code))

  pub renumbered_laws : Laws (renumbered code position m)
  renumbered_laws =
      record {
        kind_most = laws.kind_most;
        base_least = laws.base_least;
        base_most = laws.base_most;
        length_least = laws.length_least;
        size_most = laws.size_most;
        one_code = f.code_below m.one laws.one_code;
        step_code = f.code_below m.step laws.step_code;
        sum_code = λ a b ha hb. f.code_below _ (laws.sum_code _ _ (below a ha) (below b hb));
        negative_code = λ a ha. f.code_below _ (laws.negative_code _ (below a ha));
        product_code = λ a b ha hb. f.code_below _ (laws.product_code _ _ (below a ha) (below b hb));
        sum_assoc =
            λ a b c ha hb hc.
            ap code
            (ap (λ (x : ℕ). m.sum x (position c)) (f.position_code _ (laws.sum_code _ _ (below a ha) (below b hb)))
            ∙ laws.sum_assoc _ _ _ (below a ha) (below b hb) (below c hc)
            ∙ ap (m.sum (position a)) (sym (f.position_code _ (laws.sum_code _ _ (below b hb) (below c hc)))));
        sum_comm = λ a b ha hb. ap code (laws.sum_comm _ _ (below a ha) (below b hb));
        sum_zero =
            λ a ha. ap code (ap (m.sum (position a)) position_zero ∙ laws.sum_zero _ (below a ha)) ∙ f.code_position a ha;
        sum_negative =
            λ a ha.
            ap code
            (ap (m.sum (position a)) (f.position_code _ (laws.negative_code _ (below a ha)))
            ∙ laws.sum_negative _ (below a ha))
            ∙ f.code_zero;
        product_assoc =
            λ a b c ha hb hc.
            ap code
            (ap (λ (x : ℕ). m.product x (position c)) (f.position_code _ (laws.product_code _ _ (below a ha) (below b hb)))
            ∙ laws.product_assoc _ _ _ (below a ha) (below b hb) (below c hc)
            ∙ ap (m.product (position a)) (sym (f.position_code _ (laws.product_code _ _ (below b hb) (below c hc)))));
        product_comm = λ a b ha hb. ap code (laws.product_comm _ _ (below a ha) (below b hb));
        product_one =
            λ a ha.
            ap code (ap (m.product (position a)) (f.position_code _ laws.one_code) ∙ laws.product_one _ (below a ha))
            ∙ f.code_position a ha;
        product_sum =
            λ a b c ha hb hc.
            ap code
            (ap (m.product (position a)) (f.position_code _ (laws.sum_code _ _ (below b hb) (below c hc)))
            ∙ laws.product_sum _ _ _ (below a ha) (below b hb) (below c hc)
            ∙ ap₂ m.sum
            (sym (f.position_code _ (laws.product_code _ _ (below a ha) (below b hb))))
            (sym (f.position_code _ (laws.product_code _ _ (below a ha) (below c hc)))));
        level_most = λ a ha. laws.level_most _ (below a ha);
        level_zero = ap m.level position_zero ∙ laws.level_zero;
        zero_only =
            λ a ha h. sym (f.code_position a ha) ∙ ap code (laws.zero_only _ (below a ha) h) ∙ f.code_zero;
        level_product =
            λ a b ha hb.
            ap m.level (f.position_code _ (laws.product_code _ _ (below a ha) (below b hb)))
            ∙ laws.level_product _ _ (below a ha) (below b hb);
        level_sum =
            λ a b ha hb.
            subst (λ (x : ℕ). min (m.level (position a)) (m.level (position b)) ≤ m.level x)
            (sym (f.position_code _ (laws.sum_code _ _ (below a ha) (below b hb))))
            (laws.level_sum _ _ (below a ha) (below b hb));
        step_level = ap m.level (f.position_code _ laws.step_code) ∙ laws.step_level;
        level_count =
            λ v h.
            reaching_sum (λ a. m.level (position a)) v (size m)
            ∙ sum_moved position code (size m) below f.code_below f.code_position f.position_code
            (λ a. cond (nat_le v (m.level a)) 1 0)
            ∙ sym (reaching_sum m.level v (size m))
            ∙ laws.level_count v h;
        quotient =
            λ a b ha hb h.
            let c = laws.quotient _ _ (below a ha) (below b hb) h in
            (code c.0, moved_quotient code position m f a b c.0 ha c.1);
      }
