use Rattle.std.proofs.Common.{[], ◌∷◌, ap, ◌∙◌, subst, arith}
use Rattle.scale.specs.Meaning.{Meaning}
use Rattle.ties.specs.Equations.{equation}
use Rattle.worked_systems.specs.Worked.{single, ternary, three_x_is_four, three_x_is_six, tie}
use Rattle.worked_systems.proofs.Books.{contradicted, free_is, opened, posted}
use Rattle.worked_systems.proofs.Counting.{ternary_laws}
use Rattle.worked_systems.proofs.Checks.{Says, one_tie, one_tie_checkable, says_yes}
use Rattle.worked_systems.proofs.Single as known
use Rattle.worked_systems.proofs.systems.single.find_single.Goals as goal

pub returns : goal.returns
returns g c =
    let meaning = g.S.Scale.meaning in
    let l = ternary_laws in
    let empty = c.in_ok-book.book in
    let after = c.post-four.new.book in
    let last = c.post-six.new.book in
    let start = opened meaning ternary l single c.args.scale empty c.requires c.in_ok-book.ensures in
    let one =
    contradicted meaning ternary l single empty [] start (equation c.tie.result) three_x_is_four
    (c.tie.ensures ∙ ap (λ t. tie 0 4 (t ∷ [])) c.term.ensures)
    after c.post-four.result c.post-four.ensures.answer c.post-four.ensures.book known.ternary_refused
    in
    let two =
    posted meaning ternary l single after [] one.1 (equation c.tie-2.result) three_x_is_six
    (c.tie-2.ensures ∙ ap (λ t. tie 0 6 (t ∷ [])) c.term.ensures)
    last c.post-six.result c.post-six.ensures.answer c.post-six.ensures.book 1 known.ternary_fixes
    in
    record {
      four = one.0;
      three =
          says_yes ternary one_tie (3 ∷ []) (one_tie_checkable (3 ∷ []) (omega arith)) known.refutes_three c.check-three.result
          (subst (λ (m : Meaning). Says m one_tie (3 ∷ []) c.check-three.result) (ap meaning c.scale.ensures ∙ one.1.0)
          c.check-three.ensures.answer);
      six = two.0;
      left =
          free_is meaning ternary l single last (three_x_is_six ∷ []) two.1 c.free_digits-left.result 1 known.ternary_leaves
          c.free_digits-left.ensures.count;
    }
