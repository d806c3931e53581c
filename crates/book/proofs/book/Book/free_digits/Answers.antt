use Rattle.ties.specs.Layouts.{shape}
use Rattle.book.proofs.Posts.{stands_count}
use Rattle.book.proofs.book.Book.free_digits.Goals as goal

pub returns-clause-count : goal.returns-clause-count
returns-clause-count g c =
    let b = c.self.inside in
    let ready = c.self.invariant in
    rw (← c.self.view_is)
    (stands_count (g.S.Scale.meaning b.scale) (g.met.S.Scale.lawful b.scale) (shape b.layout) b.table ready.within ready.stands)
