use Rattle.std.proofs.Common.{[], ◌∷◌, ap, ap₂, ◌∙◌, subst, arith}
use Rattle.scale.specs.Meaning.{Meaning}
use Rattle.ties.specs.Equations.{equation}
use Rattle.worked_systems.specs.Worked.{ask_x, ask_y, binary, four_x_is_four, four_x_is_none, pair, tie, two_x_four_y_is_six}
use Rattle.worked_systems.proofs.Books.{contradicted, free_is, opened, posted, settled_is}
use Rattle.worked_systems.proofs.Counting.{binary_laws}
use Rattle.worked_systems.proofs.Pair as known
use Rattle.worked_systems.proofs.Checks.{Says, says_no, says_yes, two_ties, two_ties_checkable}
use Rattle.worked_systems.proofs.systems.pair.find_pair.Goals as goal

pub returns : goal.returns
returns g c =
    let meaning = g.S.Scale.meaning in
    let l = binary_laws in
    let empty = c.in_ok-book.book in
    let after = c.post-first.new.book in
    let other = c.post-other.new.book in
    let start = opened meaning binary l pair c.args.scale empty c.requires c.in_ok-book.ensures in
    let one =
    posted meaning binary l pair empty [] start (equation c.tie.result) two_x_four_y_is_six
    (c.tie.ensures ∙ ap₂ (λ t u. tie 0 6 (t ∷ u ∷ [])) c.term.ensures c.term-2.ensures)
    after c.post-first.result c.post-first.ensures.answer c.post-first.ensures.book 2 known.first_fixes
    in
    let es = two_x_four_y_is_six ∷ [] in
    let x =
    settled_is meaning binary l pair after es one.1 (equation c.tie-2.result) ask_x
    (c.tie-2.ensures ∙ ap (λ t. tie 0 0 (t ∷ [])) c.term-3.ensures) 1 known.ask_x_sound known.x_settled c.settled-x.result
    c.settled-x.ensures
    in
    let y =
    settled_is meaning binary l pair after es one.1 (equation c.tie-3.result) ask_y
    (c.tie-3.ensures ∙ ap (λ t. tie 0 0 (t ∷ [])) c.term-4.ensures) 0 known.ask_y_sound known.y_settled c.settled-y.result
    c.settled-y.ensures
    in
    let two =
    contradicted meaning binary l pair after es one.1 (equation c.tie-4.result) four_x_is_none
    (c.tie-4.ensures ∙ ap (λ t. tie 0 0 (t ∷ [])) c.term-5.ensures)
    other c.post-other.result c.post-other.ensures.answer c.post-other.ensures.book known.other_refused
    in
    let three =
    posted meaning binary l pair other es two.1 (equation c.tie-5.result) four_x_is_four
    (c.tie-5.ensures ∙ ap (λ t. tie 0 4 (t ∷ [])) c.term-5.ensures)
    c.post-second.new.book c.post-second.result c.post-second.ensures.answer c.post-second.ensures.book 0 known.second_fixes
    in
    let over = ap meaning c.scale.ensures ∙ two.1.0 in
    let over-2 = ap meaning c.scale-2.ensures ∙ two.1.0 in
    let over-3 = ap meaning c.scale-3.ensures ∙ two.1.0 in
    record {
      free = free_is meaning binary l pair empty [] start c.free_digits-free.result 6 known.pair_free c.free_digits-free.ensures.count;
      first = one.0;
      left = free_is meaning binary l pair after es one.1 c.free_digits-left.result 4 known.first_leaves c.free_digits-left.ensures.count;
      x = x;
      y = y;
      other = two.0;
      two_and_seven =
          says_yes binary two_ties (2 ∷ 7 ∷ []) (two_ties_checkable (2 ∷ 7 ∷ []) (omega arith)) known.refutes_two_and_seven
          c.check-two_and_seven.result
          (subst (λ (m : Meaning). Says m two_ties (2 ∷ 7 ∷ []) c.check-two_and_seven.result) over c.check-two_and_seven.ensures.answer);
      one_and_one =
          says_no binary two_ties (1 ∷ 1 ∷ []) (two_ties_checkable (1 ∷ 1 ∷ []) (omega arith)) known.one_and_one
          c.check-one_and_one.result
          (subst (λ (m : Meaning). Says m two_ties (1 ∷ 1 ∷ []) c.check-one_and_one.result) over-2 c.check-one_and_one.ensures.answer);
      four_and_none =
          says_no binary two_ties (4 ∷ 0 ∷ []) (two_ties_checkable (4 ∷ 0 ∷ []) (omega arith)) known.four_and_none
          c.check-four_and_none.result
          (subst (λ (m : Meaning). Says m two_ties (4 ∷ 0 ∷ []) c.check-four_and_none.result) over-3 c.check-four_and_none.ensures.answer);
      second = three.0;
    }
