use Rattle.tie_file.specs.Bodies.{equations}
use Rattle.report.proofs.Summed.{reported}
use Rattle.report.proofs.summing.report_on.Goals as goal

pub returns : goal.returns
returns g c =
    let first = c.args.book.now in
    let summed = c.sum_up.ensures in
    reported g.S.Scale.meaning first c.post_all-posted.new.self (equations c.args.file.now) c.post_all-posted.result c.sum_up.result
    (g.met.S.Scale.lawful first.scale) c.requires c.post_all-posted.ensures.answer c.post_all-posted.ensures.book
    summed.standing summed.stopped summed.digits
