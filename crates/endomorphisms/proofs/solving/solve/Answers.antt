use Rattle.std.proofs.Common.{Ok, Err, refl}
use Rattle.std.proofs.lemmas.Result.{err_from_is_err_and}
use Rattle.ties.specs.Layouts.{Shape}
use Rattle.endomorphisms.specs.Equations.{table_of, ties_of}
use Rattle.endomorphisms.specs.Solving.{TableAnswered, TableListing}
use Rattle.endomorphisms.proofs.Solves.{all_drawn, opened_said, solved, tie_decided, tie_stopped}
use Rattle.endomorphisms.proofs.solving.solve.Goals as goal

pub returns-in_err-post_table : goal.returns-in_err-post_table
returns-in_err-post_table g c =
    let meaning = g.S.Scale.meaning in
    let scale = c.args.scale in
    let m = meaning scale in
    let l = g.met.S.Scale.lawful scale in
    let s : Shape = record { heads = c.args.heads; widths = c.args.widths.now } in
    let es = table_of c.args.table.now in
    let ys = c.args.multipliers.now in
    let xs = c.args.sheet.now in
    let b = c.in_ok-book.book in
    let stop = c.in_err-post_table.field-0.0 in
    let p = err_from_is_err_and c.from_residual-in_err-post_table.result c.from_residual-in_err-post_table.ensures.1 in
    let answered =
    opened_said meaning scale s b (λ k r q. TableAnswered k r q (ties_of r es) ys (Err stop)) c.in_ok-book.ensures
    c.in_err-post_table.ensures.answer
    in
    let listed =
    opened_said meaning scale s b (λ k r q. TableListing k r q (ties_of r es) (Err stop) ys c.post_table.new.multipliers)
    c.in_ok-book.ensures c.in_err-post_table.ensures.list
    in
    rw (p.1, p.2)
    (record {
      answer = tie_stopped m l s es stop ys xs c.in_ok-book.ensures.sized c.in_ok-book.ensures.within answered;
      decided = tie_decided m l s es stop ys xs answered;
      list = listed;
      kept = refl;
    })

pub returns : goal.returns
returns g c =
    let meaning = g.S.Scale.meaning in
    let scale = c.args.scale in
    let s : Shape = record { heads = c.args.heads; widths = c.args.widths.now } in
    let es = table_of c.args.table.now in
    let ys = c.args.multipliers.now in
    let b = c.in_ok-book.book in
    let answered =
    opened_said meaning scale s b (λ k r q. TableAnswered k r q (ties_of r es) ys (Ok tt)) c.in_ok-book.ensures
    c.in_ok-post_table.ensures.answer
    in
    let drawn =
    all_drawn meaning scale s b c.post_table.new.book es c.args.sheet.now c.sheet.new.list c.in_ok-sheet.field-0
    c.in_ok-book.ensures c.in_ok-post_table.ensures.book c.in_ok-sheet.ensures
    in
    let whole =
    solved (meaning scale) (g.met.S.Scale.lawful scale) s es ys c.args.sheet.now c.sheet.new.list c.in_ok-sheet.field-0
    c.in_ok-book.ensures.sized c.in_ok-book.ensures.within answered drawn
    in
    record {
      answer = whole;
      decided = λ proper. whole.some;
      list = c.in_ok-post_table.ensures.list;
      kept = tt;
    }
