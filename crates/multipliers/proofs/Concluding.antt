-- From the totals to the answer.
use Rattle.std.proofs.Common.{◌≡◌, ℕ, zero, suc, ◌+◌, ◌<◌, ◌≤◌, Bool, true, List, length, get_or, replicate, Decides, sym, refl, ap, ◌∙◌, subst, subst₂, add-one, arith, below_more}
use Rattle.std.specs.List.{All}
use Rattle.std.proofs.lemmas.List.Elements.{All-from_get_or}
use Rattle.std.proofs.lemmas.Bool.Decides.{Decides-like}
use Rattle.scale.specs.Meaning.{Meaning, Laws, Code}
use Rattle.scale.proofs.Codes.{zero_code}
use Rattle.ties.specs.Layouts.{Shape, place}
use Rattle.ties.specs.Equations.{Equation, Contradictory, nth_equation}
use Rattle.ties.specs.declared.fault.TieFault.{TieFault}
use Rattle.ties.specs.Faults.{Faulty, Sound}
use Rattle.tie_file.specs.Bodies.{equations, file_shape}
use Rattle.tie_file.specs.Table.{entries}
use Rattle.tie_file.proofs.WellFormed.{equations_length}
use Rattle.multipliers.specs.declared.totals.Totals.{Totals}
use Rattle.multipliers.specs.declared.fault.CheckFault.TheVariants.{List as Short, Tie}
use Rattle.multipliers.specs.Checked.{Checkable, Stopped, Usable}
use Rattle.multipliers.specs.Refuting.{Refutes, counter_share, right_share}
use Rattle.multipliers.specs.Totals.{Added, AddedUp, AllCodes, Contradict, nothing}
use Rattle.multipliers.proofs.Trusted.{trusted}

pub zeros_read : (n i : ℕ) → ◌≡◌ {A = ℕ} (get_or (replicate n 0) i 0) 0
zeros_read zero i = refl
zeros_read (suc n) zero = refl
zeros_read (suc n) (suc i) = zeros_read n i

-- where the loop stands: the totals are codes, the ties so far are sound, and they are added up
abbrev pub Sofar : Meaning → Shape → List Equation → List ℕ → ℕ → Totals → Type 0
Sofar m s es ys n t =
    AllCodes m t × ((j : ℕ) → j < n → Sound m s (nth_equation es j)) × AddedUp m s es ys n t

pub sofar_none : (m : Meaning) → Laws m → (s : Shape) (es : List Equation) (ys : List ℕ) → Sofar m s es ys 0 nothing
sofar_none m l s es ys = (
  ((λ i. subst (Code m) (sym (zeros_read 32 i)) (zero_code m l)), zero_code m l),
  (λ j h. absurd (omega arith)),
  ((λ h c has. zeros_read 32 (place s h c)), refl),
)

pub sofar_more :
    (m : Meaning) (s : Shape) (es : List Equation) (ys : List ℕ) (n : ℕ) (old new : Totals)
    → Sofar m s es ys n old
    → Sound m s (nth_equation es n)
    → AllCodes m new
    → Added m s (nth_equation es n) (get_or ys n 0) old new
    → Sofar m s es ys (n + 1) new
sofar_more m s es ys n old new before here codes added = (
  codes,
  below_more (λ j. Sound m s (nth_equation es j)) n before.1 here,
  subst (λ (k : ℕ). AddedUp m s es ys k new) (sym (add-one n)) (
    (λ h c has. added.0 h c has ∙ ap (λ a. m.sum a (counter_share m s es ys h c n)) (before.2.0 h c has)),
    added.1 ∙ ap (λ a. m.sum a (right_share m s es ys n)) before.2.1,
  ),
)

-- all equations are added: the totals say whether the multipliers refute them
refutes_totals :
    (m : Meaning) (s : Shape) (es : List Equation) (ys : List ℕ) (t : Totals) (b : Bool)
    → AddedUp m s es ys (length es) t
    → Decides b (Contradict s t)
    → Decides b (Refutes m s es ys)
refutes_totals m s es ys t b added =
    Decides-like b
    (λ k.
    record {
      counters = λ h c has. sym (added.0 h c has) ∙ k.0 h c has;
      right = λ z. k.1 (added.1 ∙ z);
    }
    )
    (λ r. ((λ h c has. added.0 h c has ∙ r.counters h c has), (λ z. r.right (sym added.1 ∙ z))))

-- all ties of a file are added
pub concluded :
    (m : Meaning) (l : Laws m) (f ys : List ℕ) (t : Totals) (n : ℕ) (b : Bool) (s : Shape)
    → Usable m f
    → n + 1 ≡ entries f
    → n ≤ length ys
    → s ≡ file_shape f
    → Sofar m s (equations f) ys n t
    → Decides b (Contradict s t)
    → (Checkable m f ys × Decides b (Refutes m (file_shape f) (equations f) ys))
    × (b ≡ true → Contradictory m (file_shape f) (equations f))
concluded m l f ys t n b s usable count enough is sofar decides =
    let es = equations f in
    let all : n ≡ length es = sym (equations_length f ∙ omega arith) in
    let here = subst₂ (λ (v : Shape) (k : ℕ). Sofar m v es ys k t) is all sofar in
    let sound : All (Sound m (file_shape f)) es = All-from_get_or (Sound m (file_shape f)) es _ here.1 in
    let refutes = refutes_totals m (file_shape f) es ys t b here.2 (subst (λ (v : Shape). Decides b (Contradict v t)) is decides) in (
      (record { usable = usable; enough = subst (λ (k : ℕ). k ≤ length ys) all enough; sound = sound }, refutes),
      λ e. trusted m l (file_shape f) es ys sound usable.within (refutes.0 e),
    )

-- a tie at fault stops the check
pub stopped_at :
    (m : Meaning) (f ys : List ℕ) (n i : ℕ) (s : Shape) (g : TieFault)
    → Usable m f
    → n + 1 ≡ entries f
    → n ≤ length ys
    → i < n
    → s ≡ file_shape f
    → ((j : ℕ) → j < i → Sound m s (nth_equation (equations f) j))
    → Faulty m s (nth_equation (equations f) i) g
    → Stopped m f ys (Tie i g)
stopped_at m f ys n i s g usable count enough below is sound faulty =
    let all : n ≡ length (equations f) = sym (equations_length f ∙ omega arith) in
    let E : Shape → Type 0 = λ v. ((j : ℕ) → j < i → Sound m v (nth_equation (equations f) j)) × Faulty m v (nth_equation (equations f) i) g in
    let here = subst E is (sound, faulty) in
    (usable, subst (λ (k : ℕ). k ≤ length ys) all enough, subst (λ (k : ℕ). i < k) all below, here.0, here.1)

-- too few multipliers stop it
pub stopped_short :
    (m : Meaning) (f ys : List ℕ) (n : ℕ) → Usable m f → n + 1 ≡ entries f → length ys < n → Stopped m f ys Short
stopped_short m f ys n usable count few =
    (usable, subst (λ (k : ℕ). length ys < k) (sym (equations_length f ∙ omega arith)) few)
