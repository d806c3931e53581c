use Rattle.std.proofs.Common.{◌≡◌, ℕ, List, ◌∷◌, [], ◌++◌, map, length, vec_items, vec_capacity, vec_len, sym, refl, ap, ◌∙◌, subst, arith}
use mathlib.Core.List.{map-append}
use Rattle.ties.specs.Layouts.{shape}
use Rattle.book.specs.declared.standing.Standing.{Standing}
use Rattle.book.specs.Standing.{Built, Stands, equation_of}
use Rattle.book.proofs.Exactness.{built_codes}
use Rattle.book.proofs.Posts.{last_step}
use Rattle.book.proofs.book.withdrawing.Book+S+Open.withdraw.Goals as goal

pub give_back-requires : goal.give_back-requires
give_back-requires g c =
    let b = c.self.inside in
    let m = g.S.Scale.meaning b.scale in
    let s = shape b.layout in
    let qs = vec_items c.take_last-last.new.self in
    let k = c.take_last-last.result in
    let step = last_step m s b.table qs k c.take_last-last.ensures.items c.self.invariant.stands in
    record { stepped = (s, step.0, step.1, step.3) }

pub invariant_of-self : goal.invariant_of-self
invariant_of-self g c =
    let b = c.self.inside in
    let m = g.S.Scale.meaning b.scale in
    let s = shape b.layout in
    let qs = vec_items c.take_last-last.new.self in
    let k = c.take_last-last.result in
    let new = c.give_back.new.table in
    let step = last_step m s b.table qs k c.take_last-last.ensures.items c.self.invariant.stands in
    let whole = built_codes m s qs (length qs) step.0 step.1 step.2 in
    let back = c.give_back.ensures.0 s step.0 step.1 whole.0 whole.1 step.3 in
    let standing : vec_items new.standing ≡ qs = ap vec_items c.give_back.ensures.1 in
    let stands : Stands m s new =
    subst (λ (q : List Standing). Built m s q (length q) (vec_items new.rows) new.free) (sym standing)
    (subst (λ (xs : List ℕ). Built m s qs (length qs) xs new.free) (sym back.0)
    (subst (λ (f : ℕ). Built m s qs (length qs) step.0 f) (sym back.1) step.2))
    in
    let room = ap vec_capacity c.give_back.ensures.1 ∙ c.take_last-last.ensures.capacity in
    record {
      within = c.self.invariant.within;
      stands = stands;
      few = omega (arith, ap vec_len c.give_back.ensures.1, c.take_last-last.ensures.len, c.self.invariant.few);
      room = omega (arith, room, c.self.invariant.room);
    }

pub returns : goal.returns
returns g c =
    let qs = vec_items c.take_last-last.new.self in
    let k = c.take_last-last.result in
    let standing : vec_items c.give_back.new.table.standing ≡ qs = ap vec_items c.give_back.ensures.1 in
    rw (← c.self.view_is) (
      refl,
      refl,
      (
        equation_of k,
        ap (map equation_of) c.take_last-last.ensures.items
            ∙ map-append equation_of qs (k ∷ [])
            ∙ ap (λ q. map equation_of q ++ (equation_of k ∷ [])) (sym standing),
      ),
    )
