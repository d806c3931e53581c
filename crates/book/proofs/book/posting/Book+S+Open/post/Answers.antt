use Rattle.std.proofs.Common.{◌<◌, None, [], ◌∷◌, length, vec_items, ap, arith, length-append}
use Rattle.ties.specs.Equations.{equation}
use Rattle.ties.specs.Layouts.{shape}
use Rattle.book.specs.Measures.{Measures}
use Rattle.book.specs.Standing.{ledger}
use Rattle.book.proofs.Books.{ledger_length, rows_sheet}
use Rattle.book.proofs.Posts.{accepted, contradictory, shown, taken_stands}
use Rattle.book.proofs.book.posting.Book+S+Open.post.Goals as goal

pub measure-requires : goal.measure-requires
measure-requires g c =
    let rows = rows_sheet g.met.S.Scale.lawful c.self.invariant _ c.deref.ensures.value in
    record { codes = rw c.in_ok-tie.ensures.2 rows.0; size = rw c.in_ok-tie.ensures.3 rows.1; blank = (c.default-pivot.ensures.1.0, c.default-pivot.ensures.1.1.1) }

pub invariant_of-self : goal.invariant_of-self
invariant_of-self g c =
    let b = c.self.inside in
    let ready = c.self.invariant in
    let checked = c.in_ok-tie.ensures in
    let took = rw (checked.1, checked.2, checked.3) at c.take_in.ensures in
    record {
      within = ready.within;
      stands = taken_stands (g.S.Scale.meaning b.scale) (g.met.S.Scale.lawful b.scale) (shape b.layout) b.table ready.within ready.stands
          (equation c.args.tie.now) c.take_in.new.table c.take_in.result took;
      few = omega (
        arith,
        c.take_in.new.table.standing.ok.0,
        ap length took.standing,
        length-append (vec_items b.table.standing) (took.last ∷ []),
        b.table.standing.ok.0,
        c.len.ensures,
        c.if-len-ge64.false,
      );
      room = omega (arith, took.room, ready.room);
    }

pub returns-in-Some-clause-answer : goal.returns-in-Some-clause-answer
returns-in-Some-clause-answer g c =
    let b = c.self.inside in
    let ready = c.self.invariant in
    let checked = c.in_ok-tie.ensures in
    let took = rw (checked.1, checked.2, checked.3) at c.take_in.ensures in
    let room : length (ledger b.table) < 64 = omega (arith, ledger_length b.table, c.len.ensures, c.if-len-ge64.false) in
    rw (← c.self.view_is) (
      c.if-multipliers-lt64.false,
      accepted (g.S.Scale.meaning b.scale) (g.met.S.Scale.lawful b.scale) (shape b.layout) b.table c.take_in.new.table
          (equation c.args.tie.now) c.take_in.result ready.within ready.stands checked.0 room took,
    )

pub returns-clause-answer : goal.returns-clause-answer
returns-clause-answer g c =
    let b = c.self.inside in
    let m = g.S.Scale.meaning b.scale in
    let s = shape b.layout in
    let e = equation c.args.tie.now in
    let k = c.measure.new.pivot in
    let ready = c.self.invariant in
    let checked = c.in_ok-tie.ensures in
    let meas : Measures m s e (vec_items b.table.rows) k None =
    rw (checked.1, checked.2, checked.3, c.deref.ensures.value) at c.in-None.ensures
    in
    rw (← c.self.view_is) (
      c.if-multipliers-lt64.false,
      checked.0,
      omega (arith, ledger_length b.table, c.len.ensures, c.if-len-ge64.false),
      contradictory m (g.met.S.Scale.lawful b.scale) s b.table ready.within ready.stands e checked.0 k meas.pivots meas.shift,
    )

pub returns-clause-list : goal.returns-clause-list
returns-clause-list g c =
    let b = c.self.inside in
    let e = equation c.args.tie.now in
    let ready = c.self.invariant in
    let checked = c.in_ok-tie.ensures in
    let refuted = rw (checked.1, checked.2, checked.3) at c.refute.ensures in
    rw (← c.self.view_is) (
      shown (g.S.Scale.meaning b.scale) (g.met.S.Scale.lawful b.scale) (shape b.layout) b.table ready.within ready.stands e
          c.refute.new.multipliers checked.0
          (omega (arith, ledger_length b.table, c.len.ensures, c.if-len-ge64.false, c.refute.auto.multipliers, c.if-multipliers-lt64.false)) refuted.0,
      c.refute.auto.multipliers,
      λ i h. refuted.1 i (omega (arith, length-append (ledger b.table) (e ∷ []))),
    )
