use Rattle.std.proofs.Common.{[], ◌∷◌, ap, ap₂, ◌∙◌}
use Rattle.ties.specs.Equations.{equation}
use Rattle.worked_systems.specs.Worked.{binary, narrow, sum_is_one, tie, uneven}
use Rattle.worked_systems.proofs.Books.{coarse, free_is, opened, posted, taken_back, withdrawn}
use Rattle.worked_systems.proofs.Counting.{binary_laws}
use Rattle.worked_systems.proofs.Uneven as known
use Rattle.worked_systems.proofs.systems.uneven.find_uneven.Goals as goal

pub unwrap-requires : goal.unwrap-requires
unwrap-requires g c =
    let meaning = g.S.Scale.meaning in
    let l = binary_laws in
    let empty = c.in_ok-book.book in
    let start = opened meaning binary l uneven c.args.scale empty c.requires c.in_ok-book.ensures in
    let one =
    coarse meaning binary l uneven empty [] start (equation c.tie.result) (narrow 2)
    (c.tie.ensures ∙ ap (λ t. tie 0 0 (t ∷ [])) c.term.ensures)
    c.post-factor_two.new.book c.post-factor_two.result c.post-factor_two.ensures.answer c.post-factor_two.ensures.book
    known.factor_two
    in
    let two =
    posted meaning binary l uneven c.post-factor_two.new.book [] one.1 (equation c.tie-2.result) (narrow 4)
    (c.tie-2.ensures ∙ ap (λ t. tie 0 0 (t ∷ [])) c.term-2.ensures)
    c.post-factor_four.new.book c.post-factor_four.result c.post-factor_four.ensures.answer c.post-factor_four.ensures.book 1
    known.factor_four
    in
    withdrawn meaning binary l uneven c.post-factor_four.new.book (narrow 4) two.1 c.withdraw.new.self c.withdraw.result c.withdraw.ensures

pub returns : goal.returns
returns g c =
    let meaning = g.S.Scale.meaning in
    let l = binary_laws in
    let empty = c.in_ok-book.book in
    let start = opened meaning binary l uneven c.args.scale empty c.requires c.in_ok-book.ensures in
    let one =
    coarse meaning binary l uneven empty [] start (equation c.tie.result) (narrow 2)
    (c.tie.ensures ∙ ap (λ t. tie 0 0 (t ∷ [])) c.term.ensures)
    c.post-factor_two.new.book c.post-factor_two.result c.post-factor_two.ensures.answer c.post-factor_two.ensures.book
    known.factor_two
    in
    let two =
    posted meaning binary l uneven c.post-factor_two.new.book [] one.1 (equation c.tie-2.result) (narrow 4)
    (c.tie-2.ensures ∙ ap (λ t. tie 0 0 (t ∷ [])) c.term-2.ensures)
    c.post-factor_four.new.book c.post-factor_four.result c.post-factor_four.ensures.answer c.post-factor_four.ensures.book 1
    known.factor_four
    in
    let three =
    taken_back meaning binary l uneven c.post-factor_four.new.book (narrow 4) two.1 c.withdraw.new.self c.withdraw.result c.withdraw.ensures
    in
    let four =
    posted meaning binary l uneven c.withdraw.new.self [] three (equation c.tie-3.result) sum_is_one
    (c.tie-3.ensures ∙ ap₂ (λ t u. tie 1 1 (t ∷ u ∷ [])) c.term-3.ensures c.term-4.ensures)
    c.post-sum.new.book c.post-sum.result c.post-sum.ensures.answer c.post-sum.ensures.book 1 known.sum_fixes
    in
    record {
      factor_two = one.0;
      factor_four = two.0;
      sum = four.0;
      left =
          free_is meaning binary l uneven c.post-sum.new.book (sum_is_one ∷ []) four.1 c.free_digits-left.result 3
          known.sum_leaves c.free_digits-left.ensures.count;
    }
