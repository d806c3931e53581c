use Rattle.ties.specs.Layouts.{shape}
use Rattle.scales.specs.Counting.{counting}
use Rattle.endomorphisms.proofs.Additions.{all_matrices, answered, counting_cyclic}
use Rattle.endomorphisms.proofs.images.matrix_of_images.Goals as goal

pub returns-clause-answer : goal.returns-clause-answer
returns-clause-answer g c =
    let k = g.D.Digits.counts c.args.scale.now.digits in
    let l = g.met.D.Digits.lawful c.args.scale.now.digits in
    rw c.then_some.ensures
    (answered (counting k) l (shape c.args.layout.now) (counting_cyclic k) c.args.images.now c.is_endomorphism.result
    c.is_endomorphism.ensures.answer)

pub returns-clause-every : goal.returns-clause-every
returns-clause-every g c =
    let k = g.D.Digits.counts c.args.scale.now.digits in
    all_matrices (counting k) (g.met.D.Digits.lawful c.args.scale.now.digits) (shape c.args.layout.now) (counting_cyclic k)
