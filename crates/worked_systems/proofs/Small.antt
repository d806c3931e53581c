-- What the definitions say of the small systems.
use Rattle.std.proofs.Common.{refl}
use Rattle.scales.specs.Counting.{zeros}
use Rattle.scales.specs.Numbering.{ungray}
use Rattle.worked_systems.specs.Worked.{SmallSystems}
use Rattle.worked_systems.proofs.Pair as pair
use Rattle.worked_systems.proofs.Single as single
use Rattle.worked_systems.proofs.Uneven as uneven

pub small : SmallSystems
unfolding zeros ungray
small =
    record {
      four_by_two = pair.four_by_two;
      two_by_four = pair.two_by_four;
      disc_sum = refl;
      disc_product = refl;
      disc_negative = refl;
      disc_level = refl;
      pair_free = pair.pair_free;
      first_fixes = pair.first_fixes;
      first_leaves = pair.first_leaves;
      second_fixes = pair.second_fixes;
      other_refused = pair.other_refused;
      two_and_seven = pair.two_and_seven;
      one_and_one = pair.one_and_one;
      four_and_none = pair.four_and_none;
      x_settled = pair.x_settled;
      y_settled = pair.y_settled;
      ternary_fixes = single.ternary_fixes;
      ternary_leaves = single.ternary_leaves;
      ternary_refused = single.ternary_refused;
      three = single.three;
      factor_four = uneven.factor_four;
      factor_two = uneven.factor_two;
      sum_fixes = uneven.sum_fixes;
      sum_leaves = uneven.sum_leaves;
      none_is_none = pair.none_is_none;
      none_is_one = pair.none_is_one;
      fifteen = refl;
      thirteen = refl;
    }
