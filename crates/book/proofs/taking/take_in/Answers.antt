use Rattle.std.proofs.Common.{◌≡◌, ℕ, ◌+◌, ◌-◌, ◌*◌, List, [], ◌∷◌, ◌++◌, get_or, length, vec_items, sym, refl, ap, ◌∙◌, subst, subst₂, arith}
use Rattle.std.proofs.lemmas.List.{get_or_push, length_push, with_items_is}
use Rattle.scale.specs.Meaning.{Quotient, digits}
use Rattle.ties.specs.Equations.{Equation, equation}
use Rattle.ties.specs.Faults.{Sound}
use Rattle.ties.specs.Layouts.{places, shape}
use Rattle.book.specs.Rows.{Codes}
use Rattle.book.specs.Turning.{Turned}
use Rattle.book.specs.declared.pivot.Pivot.{Pivot}
use Rattle.book.specs.declared.standing.Standing.{Standing}
use Rattle.book.specs.Standing.{Pivots, rest}
use Rattle.book.proofs.Posts.{enough_free, stands_codes}
use Rattle.book.proofs.taking.take_in.Goals as goal

last_is : (ks xs : List Standing) (k x : Standing) → xs ≡ ks ++ (k ∷ []) → x ≡ get_or xs (length xs - 1) x → x ≡ k
last_is ks xs k x is at = at ∙ ap (λ ys. get_or ys (length xs - 1) x) is ∙ get_or_push ks k x (length xs - 1) (omega (arith, ap length is, length_push ks k))

pub turn-requires-clause-codes : goal.turn-requires-clause-codes
turn-requires-clause-codes g c =
    let tie = c.args.tie.now in
    let m = g.S.Scale.meaning tie.scale.now in
    let l = g.met.S.Scale.lawful tie.scale.now in
    subst (Codes m) (sym c.deref_mut.ensures.value)
    (stands_codes m l (shape tie.layout.now) c.args.table.now c.requires.within c.requires.stands).0

pub turn-requires-clause-size : goal.turn-requires-clause-size
turn-requires-clause-size g c =
    let tie = c.args.tie.now in
    let m = g.S.Scale.meaning tie.scale.now in
    let l = g.met.S.Scale.lawful tie.scale.now in
    let on : c.unwrap.result.now.pivot ≡ c.args.pivot =
    ap (λ (q : Standing). q.pivot) (last_is _ _ _ _ (c.deref.ensures.value ∙ c.push_reserved.ensures.items) (rw c.unwrap.ensures at c.last.ensures.item.1))
    in
    ap length c.deref_mut.ensures.value
    ∙ (stands_codes m l (shape tie.layout.now) c.args.table.now c.requires.within c.requires.stands).1
    ∙ ap (λ n. n + n * n) (sym c.requires.measures.pivots.formed.row ∙ ap (λ (k : Pivot). length k.row.items) (sym on))

pub overflow_sub-table : goal.overflow_sub-table
overflow_sub-table g c =
    let tie = c.args.tie.now in
    let m = g.S.Scale.meaning tie.scale.now in
    let l = g.met.S.Scale.lawful tie.scale.now in
    let enough =
    enough_free m l (shape tie.layout.now) c.args.table.now c.requires.within c.requires.stands (equation tie.tie)
    tie.sound c.args.pivot c.requires.measures.pivots c.requires.measures.shift.0
    in
    omega (arith, enough, c.from.ensures, c.fixed-fixed.ensures)

pub returns : goal.returns
returns g c =
    let tie = c.args.tie.now in
    let m = g.S.Scale.meaning tie.scale.now in
    let s = shape tie.layout.now in
    let e = equation tie.tie in
    let k = c.args.pivot in
    let old = c.args.table.now in
    let xs = vec_items old.rows in
    let new = c.turn.new.rows in
    let pivots = c.requires.measures.pivots in
    let fixed = c.fixed-fixed.result in
    let on : c.unwrap.result.now.pivot ≡ k =
    ap (λ (q : Standing). q.pivot) (last_is _ _ _ _ (c.deref.ensures.value ∙ c.push_reserved.ensures.items) (rw c.unwrap.ensures at c.last.ensures.item.1))
    in
    let step = rw on at c.turn.ensures.turned in
    let fixed_is : fixed ≡ digits m - m.level k.divisor = c.fixed-fixed.ensures in
    let fell : old.free - c.from.result + fixed ≡ old.free = omega (arith, overflow_sub-table g c.before, c.from.ensures) in
    let turned : Turned m (places s) k.number k.quotients.items c.args.shift (digits m - m.level k.divisor) xs new =
    subst₂ (λ (n : ℕ) (ys : List ℕ). Turned m n k.number k.quotients.items c.args.shift (digits m - m.level k.divisor) ys new)
    pivots.formed.row c.deref_mut.ensures.value step
    in
    let same = c.to_owned.ensures in
    let rows = with_items_is old.rows new (c.turn.auto.rows ∙ c.deref_mut.ensures.len) in
    let long = (stands_codes m (g.met.S.Scale.lawful tie.scale.now) s old c.requires.within c.requires.stands).1 in
    record {
      last = _;
      equation = same;
      standing = c.push_reserved.ensures.items;
      stepped =
          record {
            sound = subst (Sound m s) (sym same) tie.sound;
            size = ap length rows ∙ c.turn.auto.rows ∙ ap length c.deref_mut.ensures.value ∙ long;
            codes = rw rows c.turn.ensures.codes;
            pivots = subst (λ (q : Equation). Pivots m s q xs k) (sym same) pivots;
            shift =
                subst (λ (q : Equation). Quotient m (rest m s q xs) k.divisor c.args.shift) (sym same)
                c.requires.measures.shift.1;
            turned = rw rows turned;
            free = rw (← fixed_is) fell;
            freed = refl;
          };
      fell = fell;
      room = c.push_reserved.ensures.capacity;
    }
