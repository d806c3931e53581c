use Rattle.std.proofs.Common.{[]}
use Rattle.ties.specs.Equations.{equation}
use Rattle.worked_systems.specs.Worked.{binary, no_terms, pair}
use Rattle.worked_systems.proofs.Books.{contradicted, opened, posted}
use Rattle.worked_systems.proofs.Counting.{binary_laws}
use Rattle.worked_systems.proofs.Pair as known
use Rattle.worked_systems.proofs.systems.no_terms.find_no_terms.Goals as goal

pub returns : goal.returns
returns g c =
    let meaning = g.S.Scale.meaning in
    let l = binary_laws in
    let empty = c.in_ok-book.book in
    let after = c.post-right_one.new.book in
    let last = c.post-right_none.new.book in
    let start = opened meaning binary l pair c.args.scale empty c.requires c.in_ok-book.ensures in
    let one =
    contradicted meaning binary l pair empty [] start (equation c.tie.result) (no_terms 1) c.tie.ensures after
    c.post-right_one.result c.post-right_one.ensures.answer c.post-right_one.ensures.book known.none_is_one
    in
    let two =
    posted meaning binary l pair after [] one.1 (equation c.tie-2.result) (no_terms 0) c.tie-2.ensures last
    c.post-right_none.result c.post-right_none.ensures.answer c.post-right_none.ensures.book 0 known.none_is_none
    in
    record { right_one = one.0; right_none = two.0 }
