use Rattle.book.specs.Held.{Held}
use Rattle.book.proofs.Writes.{again, told}
use Rattle.book.proofs.book.Book.write.Goals as goal

pub returns-clause-again : goal.returns-clause-again
returns-clause-again g c =
    let meaning = g.S.Scale.meaning in
    let old = c.args.list.now in
    let new = c.write.new.list in
    let inside = c.self.inside in
    let b : Held g.row.S.Denot = record { scale = inside.scale; layout = inside.layout; table = inside.table } in
    rw (← c.self.view_is)
    (again meaning b old new c.ok_or.result
    (told meaning b old new _ _ _ _ c.mark.ensures c.deref.ensures.value c.self.invariant.few c.write.ensures c.ok_or.ensures.value))
