use Rattle.std.proofs.lemmas.Result.{err_from_is_err_and}
use Rattle.book.specs.Standing.{ledger}
use Rattle.book.proofs.Loads.{unloaded}
use Rattle.book.proofs.book.loading.Book+S+Open.load.Goals as goal

pub returns-in_err-whole : goal.returns-in_err-whole
returns-in_err-whole g c =
    let first = c.args.self.now in
    let ys = c.args.multipliers.now in
    let p = err_from_is_err_and c.from_residual.result c.from_residual.ensures.1 in
    let stopped = c.in_err-whole.ensures in
    let kept = unloaded g.S.Scale.meaning first c.args.file.now c.in_err-whole.field-0.0 ys stopped in
    rw (p.1, p.2) (record { answer = stopped (ledger first.table) ys; book = kept.0; list = kept.1 })
