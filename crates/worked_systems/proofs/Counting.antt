-- What the small systems have in common: their laws, how the first tie of a book counts, and contradictions.
use Rattle.std.proofs.Common.{◌≡◌, ℕ, ◌+◌, ◌-◌, ◌*◌, ◌<◌, ◌≤◌, List, [], ◌∷◌, ◌++◌, length, sum, sym, subst, subst₂, sub-add_cancel, arith}
use Rattle.std.specs.List.{All}
use Rattle.std.proofs.lemmas.List.Elements.{All-nil}
use Rattle.scale.specs.Meaning.{Meaning, Laws, Code, digits, power}
use Rattle.scales.specs.Kinds.{binary_mark, prime_mark}
use Rattle.scales.specs.Known.{named_laws}
use Rattle.ties.specs.Layouts.{Assignment, Assigns, Has, Shape, Within, counters_of, width_of}
use Rattle.ties.specs.Equations.{Count, Equation, Meets, depth, total, value}
use Rattle.ties.specs.Faults.{Sound}
use Rattle.multipliers.specs.Refuting.{Refutes}
use Rattle.multipliers.proofs.Trusted.{trusted}
use Rattle.linear.proofs.Counts.{count_more, count_none}
use Rattle.linear.proofs.Moves.{slid}
use Rattle.book.specs.Posting.{Accepted, Shown}
use Rattle.worked_systems.specs.Worked.{Contradicts, binary, term, ternary, tie}
use Rattle.worked_systems.proofs.Cases.{alone, each}

pub binary_laws : Laws binary
binary_laws = named_laws (binary_mark 3) (omega arith)

pub ternary_laws : Laws ternary
ternary_laws = named_laws (prime_mark 3 2) (omega arith)

-- a tie of one term is sound
pub one_term :
    (m : Meaning) (s : Shape) (target right head counter factor : ℕ)
    → (target < counters_of s)
    × Has s head counter
    × Code m factor
    × Code m right
    × (width_of s target ≤ m.level factor + width_of s counter)
    → Sound m s (tie target right (term head counter factor ∷ []))
one_term m s target right head counter factor known =
    record {
      target = known.0;
      exist = each _ 1 (tt, known.1);
      rise = each _ 1 (tt, λ h. absurd (omega arith));
      codes = each _ 2 (omega (arith, known.2, known.3));
      fine = each _ 1 (tt, known.4);
    }

module _ (m : Meaning) (l : Laws m) (s : Shape) (within : Within m s) where
  -- the first tie of a book, whose raised terms have level v along some direction, and whose raised value has level v or
  -- more everywhere
  module _ (e : Equation) (v : ℕ) (u : Assignment) (sound : Sound m s e) (gives : Assigns m s u)
      (steep : m.level (m.product (power m (digits m - depth s e)) (total m e.terms u)) ≡ v)
      (above : (x : Assignment) → v ≤ m.level (m.product (power m (digits m - depth s e)) (value m e x)))
    where
      abbrev all_digits : ℕ
      all_digits = s.heads * sum s.widths

      counted : (digits m - v ≤ all_digits) × Count m s (e ∷ []) (all_digits - (digits m - v))
      counted =
          count_more m l s within [] e all_digits v u sound gives (count_none m l s within)
          (λ x t is solves. (
            λ h c has. l.sum_code _ _ (solves.0 h c has) (l.product_code t _ is (gives h c has)),
            All-nil (λ d. Meets m s d (slid m x t u)),
          ))
          steep (λ x solves. above x)

      pub first_count : Count m s (e ∷ []) (all_digits - (digits m - v))
      first_count = counted.1

      pub first_accepted : (x : Assignment) → Assigns m s x → Meets m s e x → Accepted m s [] e (digits m - v)
      first_accepted x assigns met =
          record {
            sound = sound;
            room = omega arith;
            some = (x, (assigns, alone (λ d. Meets m s d x) e met));
            before = all_digits;
            after = all_digits - (digits m - v);
            count_before = count_none m l s within;
            count_after = first_count;
            fell = sub-add_cancel counted.0;
          }

  -- multipliers that refute sound ties show that no assignment meets them all
  module _ (es : List Equation) (ys : List ℕ) (sound : All (Sound m s) es) (refutes : Refutes m s es ys) where
    pub shown : length es ≤ length ys → Shown m s es ys
    shown long =
        record {
          refutes = refutes;
          checked = λ f usable same_shape same_ties. (
            record {
              usable = usable;
              enough = subst (λ (q : List Equation). length q ≤ length ys) (sym same_ties) long;
              sound = subst₂ (λ (z : Shape) (q : List Equation). All (Sound m z) q) (sym same_shape) (sym same_ties) sound;
            },
            subst₂ (λ (z : Shape) (q : List Equation). Refutes m z q ys) (sym same_shape) (sym same_ties) refutes,
          );
        }

  pub contradicts :
      (es : List Equation) (e : Equation) (ys : List ℕ)
      → All (Sound m s) (es ++ (e ∷ []))
      → Sound m s e
      → length es < 64
      → Refutes m s (es ++ (e ∷ [])) ys
      → Contradicts m s es e
  contradicts es e ys sounds sound room refutes list enough = (
    enough,
    sound,
    room,
    trusted m l s (es ++ (e ∷ [])) ys sounds within refutes,
  )
