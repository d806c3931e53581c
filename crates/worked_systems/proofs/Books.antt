-- What is known of a book of the small systems from call to call.
use Rattle.std.proofs.Common.{◌≡◌, ℕ, List, [], ◌∷◌, ◌++◌, length, replicate, Ok, Err, Result, MatchResult, IsOk, length-append, sym, refl, ap, ◌∙◌, subst, arith}
use Rattle.std.proofs.lemmas.List.{nil_from_length}
use Rattle.scale.specs.Meaning.{Meaning, Laws}
use Rattle.ties.specs.declared.fault.TermFault.TheVariants.{Coarse}
use Rattle.ties.specs.declared.fault.TieFault.{TieFault}
use Rattle.ties.specs.declared.fault.TieFault.TheVariants.{Term as OfTerm}
use Rattle.ties.specs.Layouts.{Shape, shape}
use Rattle.ties.specs.Equations.{Count, Equation}
use Rattle.ties.specs.Faults.{Faulty, Sound}
use Rattle.book.specs.declared.fault.PostFault.{PostFault}
use Rattle.book.specs.declared.fault.PostFault.TheVariants.{Contradiction, Tie}
use Rattle.book.specs.Held.{Held}
use Rattle.book.specs.Opening.{Opened}
use Rattle.book.specs.Posting.{Accepted, Answered, Posted, PostedTo}
use Rattle.book.specs.Standing.{ledger}
use Rattle.book.specs.Withdrawing.{Withdrawn}
use Rattle.book.specs.declared.fault.WithdrawFault.{WithdrawFault}
use Rattle.worked_systems.specs.Worked.{Contradicts}
use Rattle.book.specs.Querying.{SettledDigits}
use Rattle.worked_systems.proofs.Unique.{one_answer, one_coarse, one_contradiction, one_count, one_settled}

module _ {S : Type 0} (meaning : S → Meaning) (m : Meaning) (l : Laws m) (s : Shape) where
  -- a book over this scale and shape, in which these ties stand
  abbrev pub Standing : Held S → List Equation → Type 0
  Standing b es = (meaning b.scale ≡ m) × (shape b.layout ≡ s) × (ledger b.table ≡ es)

  pub opened : (scale : S) (b : Held S) → meaning scale ≡ m → Opened meaning scale s b → Standing b []
  opened scale b is known = (ap meaning known.same_scale ∙ is, known.same_shape, known.nothing)

  -- where one tie stands, withdrawing takes it off
  module _ (b : Held S) (e : Equation) (at : Standing b (e ∷ [])) (c : Held S) where
    pub withdrawn : (r : Result Unit WithdrawFault) → Withdrawn b r c → IsOk r
    withdrawn (Ok done) taken = refl
    withdrawn (Err f) kept = absurd (omega (arith, ap length (sym at.2 ∙ kept.0)))

    pub taken_back : (r : Result Unit WithdrawFault) → Withdrawn b r c → Standing c []
    taken_back (Ok done) taken =
        let rest = ledger c.table in
        let long : length (e ∷ []) ≡ length (rest ++ (taken.2.0 ∷ [])) = ap length (sym at.2 ∙ taken.2.1) in
        let short : length rest ≡ 0 = omega (arith, length-append rest (taken.2.0 ∷ [])) in
        (ap meaning taken.0 ∙ at.0, ap shape taken.1 ∙ at.1, nil_from_length rest short)
    taken_back (Err f) kept = absurd (omega (arith, ap length (sym at.2 ∙ kept.0)))

  module _ (b : Held S) (es : List Equation) (at : Standing b es) where
    stated : (P : Meaning → Shape → List Equation → Type 0) → P (meaning b.scale) (shape b.layout) (ledger b.table) → P m s es
    stated P known =
        subst (P m s) at.2
        (subst (λ z. P m z (ledger b.table)) at.1 (subst (λ k. P k (shape b.layout) (ledger b.table)) at.0 known))

    pub free_is : (f F : ℕ) → Count m s es F → Count (meaning b.scale) (shape b.layout) (ledger b.table) f → f ≡ F
    free_is f F known found = one_count m l s es f F (stated (λ k z q. Count k z q f) found) known

    -- a tie t that states the equation e
    module _ (t e : Equation) (is : t ≡ e) where
      pub settled_is :
          (v : ℕ)
          → Sound m s e
          → SettledDigits m s es e v
          → (r : Result ℕ TieFault)
          → MatchResult r (SettledDigits (meaning b.scale) (shape b.layout) (ledger b.table) t) (Faulty (meaning b.scale) (shape b.layout) t)
          → r ≡ Ok v
      settled_is v sound known r found =
          one_settled m l s es e v sound known r
          (subst (λ d. MatchResult r (SettledDigits m s es d) (Faulty m s d)) is
          (stated (λ k z q. MatchResult r (SettledDigits k z q t) (Faulty k z t)) found))

      module _ (c : Held S) (r : Result ℕ PostFault) (answer : PostedTo meaning b t (replicate 64 0) r) (kept : Posted meaning b t r c) where
        answered : Answered m s es e (replicate 64 0) r
        answered =
            subst (λ d. Answered m s es d (replicate 64 0) r) is
            (stated (λ k z q. Answered k z q t (replicate 64 0) r) answer)

        refused : (f : PostFault) → r ≡ Err f → Standing c es
        refused f is_not =
            let same : c ≡ b = subst (λ (q : Result ℕ PostFault). Posted meaning b t q c) is_not kept in
            subst (λ (h : Held S). Standing h es) (sym same) at

        pub posted : (fixed : ℕ) → Accepted m s es e fixed → (r ≡ Ok fixed) × Standing c (es ++ (e ∷ []))
        posted fixed known =
            let is_posted = one_answer m l s es e (replicate 64 0) (omega arith) fixed known r answered in
            let grown = subst (λ (q : Result ℕ PostFault). Posted meaning b t q c) is_posted kept in (
              is_posted,
              (
                ap meaning grown.0 ∙ at.0,
                ap shape grown.1 ∙ at.1,
                grown.2 ∙ ap (λ q. q ++ (t ∷ [])) at.2 ∙ ap (λ d. es ++ (d ∷ [])) is,
              ),
            )

        pub contradicted : Contradicts m s es e → (r ≡ Err Contradiction) × Standing c es
        contradicted known =
            let is_not = one_contradiction m l s es e (replicate 64 0) (omega arith) known r answered in
            (is_not, refused Contradiction is_not)

        pub coarse : Faulty m s e (OfTerm (Coarse 0)) → (r ≡ Err (Tie (OfTerm (Coarse 0)))) × Standing c es
        coarse known =
            let is_not = one_coarse m l s es e (replicate 64 0) (omega arith) known r answered in
            (is_not, refused (Tie (OfTerm (Coarse 0))) is_not)
