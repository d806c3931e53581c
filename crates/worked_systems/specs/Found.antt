-- What the library is found to answer for the small systems.
use Rattle.std.specs.Prelude.{◌≡◌, ℕ, ◌<◌, ◌||◌, ◌==◌, true, false, slice_index_or, None, Ok, Err}
use Rattle.scale.specs.Meaning.{Divided}
use Rattle.ties.specs.declared.fault.TermFault.TheVariants.{Coarse}
use Rattle.ties.specs.declared.fault.TieFault.TheVariants.{Term as OfTerm}
use Rattle.book.specs.declared.fault.PostFault.TheVariants.{Contradiction, Tie}
use Rattle.worked_systems.specs.declared.findings.Arithmetic.{Arithmetic}
use Rattle.worked_systems.specs.declared.findings.Findings.{Findings}
use Rattle.worked_systems.specs.declared.findings.NoTerms.{NoTerms}
use Rattle.worked_systems.specs.declared.findings.Pair.{Pair}
use Rattle.worked_systems.specs.declared.findings.Single.{Single}
use Rattle.worked_systems.specs.declared.findings.Uneven.{Uneven}
use Rattle.worked_systems.specs.Worked.{binary}

pub record ArithmeticFound (f : Arithmetic) : Type 0 where
  pub four_by_two : (c : ℕ) → c < 8 → slice_index_or f.four_by_two c false ≡ ((c == 2) || (c == 6))
  pub answered : Divided binary 4 2 f.answered
  pub two_by_four : f.two_by_four ≡ None
  pub sum : f.sum ≡ 6
  pub product : f.product ≡ 5
  pub negative : f.negative ≡ 4
  pub level : f.level ≡ 0

pub record PairFound (f : Pair) : Type 0 where
  pub free : f.free ≡ 6
  pub first : f.first ≡ Ok 2
  pub left : f.left ≡ 4
  pub x : f.x ≡ Ok 1
  pub y : f.y ≡ Ok 0
  pub other : f.other ≡ Err Contradiction
  pub two_and_seven : f.two_and_seven ≡ Ok true
  pub one_and_one : f.one_and_one ≡ Ok false
  pub four_and_none : f.four_and_none ≡ Ok false
  pub second : f.second ≡ Ok 0

pub record SingleFound (f : Single) : Type 0 where
  pub four : f.four ≡ Err Contradiction
  pub three : f.three ≡ Ok true
  pub six : f.six ≡ Ok 1
  pub left : f.left ≡ 1

-- the faulty factor has place 0
pub record UnevenFound (f : Uneven) : Type 0 where
  pub factor_two : f.factor_two ≡ Err (Tie (OfTerm (Coarse 0)))
  pub factor_four : f.factor_four ≡ Ok 1
  pub sum : f.sum ≡ Ok 1
  pub left : f.left ≡ 3

pub record NoTermsFound (f : NoTerms) : Type 0 where
  pub right_one : f.right_one ≡ Err Contradiction
  pub right_none : f.right_none ≡ Ok 0

pub record Found (f : Findings) : Type 0 where
  pub arithmetic : ArithmeticFound f.arithmetic
  pub pair : PairFound f.pair
  pub single : SingleFound f.single
  pub uneven : UnevenFound f.uneven
  pub no_terms : NoTermsFound f.no_terms
