use Rattle.std.proofs.lemmas.Result.{MatchResult-at_ok}
use Rattle.report.proofs.settling.settled_at.Goals as goal

pub returns : goal.returns
returns g c =
    let known = MatchResult-at_ok _ _ _ c.unwrap.ensures c.query.ensures in
    let queried = rw (c.one.ensures, c.scale.ensures) at known in queried.settled
