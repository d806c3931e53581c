-- What the check of multipliers says to the files of the small systems.
use Rattle.std.proofs.Common.{◌≡◌, ℕ, ◌≤◌, Bool, true, false, List, [], ◌∷◌, length, Ok, Err, Result, MatchResult, Decides, refl, ap, arith}
use Rattle.scale.specs.Meaning.{Meaning}
use Rattle.ties.specs.declared.fault.LayoutFault.TheVariants.{Shape as BadShape, Width as BadWidth}
use Rattle.ties.specs.Equations.{nth_equation}
use Rattle.tie_file.specs.declared.fault.FileFault.TheVariants.{Contents, Entry as BadEntry, Body}
use Rattle.tie_file.specs.Table.{TieLength, WellFormed, extent_at, kind_at}
use Rattle.tie_file.specs.Bodies.{equations, file_shape}
use Rattle.multipliers.specs.declared.fault.CheckFault.{CheckFault}
use Rattle.multipliers.specs.declared.fault.CheckFault.TheVariants.{File, Layout, Mark, List as Short, Tie}
use Rattle.multipliers.specs.Checked.{Checkable, Stopped}
use Rattle.multipliers.specs.Refuting.{Refutes}
use Rattle.book.proofs.Faultless.{no_fault}
use Rattle.worked_systems.specs.Worked.{binary, ternary}
use Rattle.worked_systems.proofs.Cases.{each}
use Rattle.worked_systems.proofs.Pair.{both_sound}
use Rattle.worked_systems.proofs.Single.{four_sound}

-- what the check answers
abbrev pub Says : Meaning → List ℕ → List ℕ → Result Bool CheckFault → Type 0
Says m f ys r =
    MatchResult r (λ shows. Checkable m f ys × Decides shows (Refutes m (file_shape f) (equations f) ys)) (Stopped m f ys)

module _ (m : Meaning) (f ys : List ℕ) (fine : Checkable m f ys) where
  unstopped : (g : CheckFault) → Stopped m f ys g → ⊥
  unstopped (File Contents) bad = bad fine.usable.formed.table
  unstopped (File BadEntry) bad = bad.1 fine.usable.formed.entries
  unstopped (File Body) bad = bad.2 fine.usable.formed.bodies
  unstopped (Layout BadShape) bad = bad.1 fine.usable.sized
  unstopped (Layout BadWidth) bad = bad.1.1 fine.usable.within
  unstopped Mark bad = bad.3 fine.usable.mark
  unstopped Short bad = omega (arith, bad.1, fine.enough)
  unstopped (Tie i g) bad =
      no_fault m (file_shape f) (nth_equation (equations f) i) g (fine.sound i (nth_equation [] 0) bad.2) bad.4

  pub says_yes : Refutes m (file_shape f) (equations f) ys → (r : Result Bool CheckFault) → Says m f ys r → r ≡ Ok true
  says_yes refutes (Ok shows) said = ap Ok (said.1.1 refutes)
  says_yes refutes (Err g) bad = absurd (unstopped g bad)

  pub says_no :
      (Refutes m (file_shape f) (equations f) ys → ⊥) → (r : Result Bool CheckFault) → Says m f ys r → r ≡ Ok false
  says_no never (Ok true) said = absurd (never (said.1.0 refl))
  says_no never (Ok false) said = refl
  says_no never (Err g) bad = absurd (unstopped g bad)

-- the files are in order
abbrev pub two_ties : List ℕ
two_ties =
    3 ∷ 1 ∷ 16 ∷ 0 ∷ 6 ∷ 0 ∷ 2 ∷ 22 ∷ 0 ∷ 17 ∷ 0 ∷ 2 ∷ 39 ∷ 0 ∷ 11 ∷ 0
    ∷ 1 ∷ 2 ∷ 3 ∷ 2 ∷ 1 ∷ 3
    ∷ 0 ∷ 6 ∷ 0 ∷ 0 ∷ 0 ∷ 0 ∷ 0 ∷ 2 ∷ 0 ∷ 0 ∷ 0 ∷ 1 ∷ 0 ∷ 4 ∷ 0 ∷ 0 ∷ 0
    ∷ 0 ∷ 0 ∷ 0 ∷ 0 ∷ 0 ∷ 0 ∷ 0 ∷ 4 ∷ 0 ∷ 0 ∷ 0
    ∷ []

two_ties_formed : WellFormed two_ties
two_ties_formed =
    record {
      table = omega arith;
      entries =
          record {
            layout = refl;
            ties = λ i low h. each (λ k. 1 ≤ k → kind_at two_ties k ≡ 2) 3 (omega arith) i h low;
            gapless = each _ 3 (omega arith);
            ends = refl;
          };
      bodies =
          record {
            layout_least = omega arith;
            layout = refl;
            ties =
                λ i low h.
                each (λ k. 1 ≤ k → TieLength (extent_at two_ties k)) 3
                (((tt, λ h. absurd (omega arith)), λ h. (2, omega arith, refl)), λ h. (1, omega arith, refl)) i h low;
          };
    }

pub two_ties_checkable : (ys : List ℕ) → 2 ≤ length ys → Checkable binary two_ties ys
two_ties_checkable ys enough =
    record {
      usable =
          record {
            formed = two_ties_formed;
            sized = omega arith;
            within = each _ 1 (omega arith);
            mark = refl;
          };
      enough = enough;
      sound = both_sound;
    }

abbrev pub one_tie : List ℕ
one_tie =
    2 ∷ 1 ∷ 11 ∷ 0 ∷ 6 ∷ 0 ∷ 2 ∷ 17 ∷ 0 ∷ 11 ∷ 0
    ∷ 2 ∷ 3 ∷ 2 ∷ 1 ∷ 1 ∷ 2
    ∷ 0 ∷ 4 ∷ 0 ∷ 0 ∷ 0 ∷ 0 ∷ 0 ∷ 3 ∷ 0 ∷ 0 ∷ 0
    ∷ []

one_tie_formed : WellFormed one_tie
one_tie_formed =
    record {
      table = omega arith;
      entries =
          record {
            layout = refl;
            ties = λ i low h. each (λ k. 1 ≤ k → kind_at one_tie k ≡ 2) 2 (omega arith) i h low;
            gapless = each _ 2 (omega arith);
            ends = refl;
          };
      bodies =
          record {
            layout_least = omega arith;
            layout = refl;
            ties =
                λ i low h.
                each (λ k. 1 ≤ k → TieLength (extent_at one_tie k)) 2
                ((tt, λ h. absurd (omega arith)), λ h. (1, omega arith, refl)) i h low;
          };
    }

pub one_tie_checkable : (ys : List ℕ) → 1 ≤ length ys → Checkable ternary one_tie ys
one_tie_checkable ys enough =
    record {
      usable =
          record {
            formed = one_tie_formed;
            sized = omega arith;
            within = each _ 1 (omega arith);
            mark = refl;
          };
      enough = enough;
      sound = four_sound;
    }
