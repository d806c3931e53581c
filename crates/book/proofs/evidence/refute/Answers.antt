use Rattle.std.proofs.Common.{◌≡◌, ℕ, suc, ◌-◌, ◌<◌, ◌≤◌, List, [], ◌∷◌, ◌++◌, map, length, get_or, set, take, replicate, vec_items, sym, refl, ap, ◌∙◌, subst, ap₂, add-one, arith, length-append, length-set, get_or-set_other, get_or-set_same}
use lib.ListN.{length-map}
use Rattle.std.proofs.lemmas.List.Elements.{All-push}
use Rattle.std.proofs.lemmas.List.{get_or-take, get_or_push, length-take, length_push, take-take, take_all, take_at}
use Rattle.std.specs.Iterator.Adapters.{enumerate_source, rev_source}
use Rattle.std.specs.Slice.Iter.{iter_rest}
use Rattle.scale.specs.Meaning.{Meaning, Laws, Code, digits, power}
use Rattle.scale.proofs.Codes.{power_code}
use Rattle.ties.specs.Equations.{Equation, depth, equation}
use Rattle.ties.specs.Layouts.{Shape, places, shape}
use Rattle.multipliers.proofs.Concluding.{zeros_read}
use Rattle.book.specs.declared.standing.Standing.{Standing}
use Rattle.book.specs.Standing.{equation_of, ledger, nobody, nth_standing, rest}
use Rattle.book.specs.Turning.{Formed}
use Rattle.book.specs.Evidence.{Settled, against}
use Rattle.ties.specs.Faults.{Sound}
use Rattle.book.proofs.Choosing.{least}
use Rattle.book.proofs.Posts.{stands_solved, stands_sound}
use Rattle.book.proofs.Filling.{product_is, zeros_codes}
use Rattle.book.proofs.Refuting.{Refuting, done, has_quotient, settles, start, step}
use Rattle.book.proofs.evidence.refute.Goals as goal

-- the last of the standing ties that are left, and those before it
module _ (m : Meaning) (l : Laws m) (s : Shape) (ks : List Standing) (e : Equation) (left rest : List Standing) (ys row : List ℕ) (t : Standing)
    (taken : left ≡ take (length left) ks) (cut : left ≡ rest ++ (t ∷ [])) (so_far : Refuting m l s ks e (length left) ys row)
  where
    abbrev k : ℕ
    k = length rest

    one_more : length left ≡ suc k
    one_more = ap length cut ∙ length_push rest t ∙ add-one k

    pub below : k < length ks
    below = omega (arith, one_more, ap length taken, length-take (length left) ks)

    read_is : t ≡ nth_standing ks k
    read_is =
        sym (get_or_push rest t nobody k refl)
        ∙ ap (λ q. get_or q k nobody) (sym cut ∙ taken)
        ∙ get_or-take (length left) ks k nobody (omega (arith, one_more))

    here : Refuting m l s ks e (suc k) ys row
    here = subst (λ (n : ℕ). Refuting m l s ks e n ys row) one_more so_far

    -- what is known of it
    pub next_tie : Sound m s (equation_of t) × Formed m (places s) t.pivot × (m.level t.pivot.divisor ≤ m.level (against m s row t.pivot))
    next_tie =
        let known = settles m l s ks e k ys row here in
        let P : Standing → Type 0 =
        λ t. Sound m s (equation_of t) × Formed m (places s) t.pivot × (m.level t.pivot.divisor ≤ m.level (against m s row t.pivot))
        in
        subst P (sym read_is) (known.0, known.1, has_quotient m l s ks e k ys row here)

    -- it is settled
    pub next_settled :
        (new : List ℕ) (y : ℕ)
        → k < length ys
        → Settled m s (equation_of t) t.pivot row new y
        → (rest ≡ take k ks) × Refuting m l s ks e k (set ys k y) new
    next_settled new y room done =
        let u = nth_standing ks k in
        let settled : Settled m s (equation_of u) u.pivot row new y =
        subst (λ (t : Standing). Settled m s (equation_of t) t.pivot row new y) read_is done
        in
        let raise = power m (digits m - depth s (equation_of u)) in (
          sym (take_at rest (t ∷ []) k refl) ∙ ap (take k) (sym cut ∙ taken) ∙ take-take k (length left) ks (omega (arith, one_more)),
          subst (λ (y : ℕ). Refuting m l s ks e k (set ys k y) new) (sym settled.is)
              (step m l s ks e k ys row here settled.quotient (m.product y raise) new below room settled.divides
              (ap (λ a. m.product a raise) settled.is) settled.codes settled.added),
        )

pub loop-k-init : goal.loop-k-init
loop-k-init g c =
    let m = g.S.Scale.meaning c.args.tie.now.scale.now in
    let l = g.met.S.Scale.lawful c.args.tie.now.scale.now in
    let s = shape c.args.tie.now.layout.now in
    let e = equation c.args.tie.now.tie in
    let ks = vec_items c.args.table.now.standing in
    let xs = vec_items c.args.table.now.rows in
    let pivots = c.requires.measures.pivots in
    let p = c.args.pivot.now in
    let ys = c.args.multipliers.now in
    let lead = c.step_power-lead.result in
    let count : c.len-count.result ≡ length ks = c.len-count.ensures ∙ c.args.table.now.standing.ok.0 in
    let room : c.len-count.result < length ys = omega (arith, c.len-count.ensures, c.requires.room) in
    let v = m.level p.divisor in
    let lead_is : lead ≡ power m (digits m - v) =
    c.step_power-lead.ensures ∙ ap (power m) c.fixed.ensures
    in
    let set_there : get_or (set ys c.len-count.result lead) c.len-count.result 0 ≡ lead =
    get_or-set_same ys c.len-count.result lead 0 room
    in
    let lead_code : Code m lead = subst (Code m) (sym lead_is) (power_code m l _) in
    let raise_code : Code m c.raise.result = subst (Code m) (sym c.raise.ensures) (power_code m l _) in
    let by = product_is m l lead c.raise.result c.product.result lead_code raise_code c.product.ensures in
    let zeros = zeros_codes m l 32 in
    let begun : Refuting m l s ks e (length ks) (set ys c.len-count.result lead) c.add_terms.new.row =
    start m l s ks e xs c.args.table.now.free p.number v c.product.result (replicate 32 0)
    (set ys c.len-count.result lead) c.add_terms.new.row c.requires.stands c.args.tie.now.sound
    (ap m.level (sym pivots.divisor)) (least m l s e xs p pivots)
    (ap (λ i. get_or (set ys c.len-count.result lead) i 0) (sym count) ∙ set_there ∙ lead_is)
    (by.1 ∙ ap₂ m.product lead_is c.raise.ensures)
    (zeros_read 32) (c.add_terms.ensures.codes by.0 zeros) (c.add_terms.ensures.added by.0 zeros)
    in
    let all : iter_rest (enumerate_source (rev_source c.into_iter-k-iterator.result)) ≡ ks = cc in (
      cc,
      rw all (sym (take_all (length ks) ks (omega arith))),
      rw all begun,
      set_there,
      λ i h. refl,
    )

pub invariant_of-tie : goal.invariant_of-tie
invariant_of-tie g c =
    let tie = c.args.tie.now in
    let inv = c.loop-k.invariant in
    let known =
    next_tie _ (g.met.S.Scale.lawful tie.scale.now) (shape tie.layout.now) (vec_items c.args.table.now.standing)
    (equation tie.tie) _ _ c.loop-k.multipliers c.loop-k.row c.in-Some.standing.now inv.1 c.in-Some.ensures.steps.1.0 inv.2
    in
    record { sound = rw c.tie.ensures known.0 }

pub settle-requires : goal.settle-requires
settle-requires g c =
    let tie = c.args.tie.now in
    let inv = c.loop-k.invariant in
    let known =
    next_tie _ (g.met.S.Scale.lawful tie.scale.now) (shape tie.layout.now) (vec_items c.args.table.now.standing)
    (equation tie.tie) _ _ c.loop-k.multipliers c.loop-k.row c.in-Some.standing.now inv.1 c.in-Some.ensures.steps.1.0 inv.2
    in
    record { formed = known.1; codes = inv.2.codes; divides = known.2 }

pub loop-k-preserved : goal.loop-k-preserved
loop-k-preserved g c =
    let tie = c.args.tie.now in
    let m = g.S.Scale.meaning tie.scale.now in
    let s = shape tie.layout.now in
    let ks = vec_items c.args.table.now.standing in
    let inv = c.loop-k.invariant in
    let steps = c.in-Some.ensures.steps in
    let rest : List Standing = iter_rest (enumerate_source (rev_source c.next.new.self)) in
    let k : ℕ = length rest in
    let ys = c.loop-k.multipliers in
    let t = c.in-Some.standing.now in
    let y = c.settle.result in
    let at : c.in-Some.k ≡ k = omega (arith, steps.1.1, inv.0) in
    let low : k < length ks = below m (g.met.S.Scale.lawful tie.scale.now) s ks (equation tie.tie) _ rest ys c.loop-k.row t inv.1 steps.1.0 inv.2 in
    let long = c.loop-k.auto.multipliers ∙ length-set c.args.multipliers.now c.len-count.result c.step_power-lead.result in
    let count : c.len-count.result ≡ length ks = c.len-count.ensures ∙ c.args.table.now.standing.ok.0 in
    let room : k < length ys = omega (arith, c.requires.room, c.len-count.ensures) in
    let next =
    next_settled m (g.met.S.Scale.lawful tie.scale.now) s ks (equation tie.tie) _ rest ys c.loop-k.row t inv.1 steps.1.0 inv.2
    c.settle.new.row y room
    (subst (λ (e : Equation). Settled m s e t.pivot c.loop-k.row c.settle.new.row y) c.tie.ensures c.settle.ensures)
    in
    rw at (
      steps.0 ∙ inv.0,
      next.0,
      next.1,
      get_or-set_other ys k c.len-count.result y 0 (λ f. omega arith) ∙ inv.3,
      λ i h. get_or-set_other ys k i y 0 (λ f. omega arith) ∙ inv.4 i h,
    )

pub returns : goal.returns
returns g c =
    let m = g.S.Scale.meaning c.args.tie.now.scale.now in
    let l = g.met.S.Scale.lawful c.args.tie.now.scale.now in
    let s = shape c.args.tie.now.layout.now in
    let e = equation c.args.tie.now.tie in
    let table = c.args.table.now in
    let ks = vec_items table.standing in
    let xs = vec_items table.rows in
    let pivots = c.requires.measures.pivots in
    let p = c.args.pivot.now in
    let ys = c.loop-k.multipliers in
    let count : c.len-count.result ≡ length ks = c.len-count.ensures ∙ table.standing.ok.0 in
    let v = m.level p.divisor in
    let none = c.in-None.ensures.steps.1.0 in
    let ended = subst (λ (n : ℕ). Refuting m l s ks e n ys c.loop-k.row) none c.loop-k.invariant.2 in
    let lead_is : c.step_power-lead.result ≡ power m (digits m - v) =
    c.step_power-lead.ensures ∙ ap (power m) c.fixed.ensures
    in
    let sounds = All-push (Sound m s) (ledger table) e (stands_sound m l s table c.requires.within c.requires.stands) c.args.tie.now.sound in
    let solves = stands_solved m l s table c.requires.within c.requires.stands in
    let most = l.level_most p.divisor pivots.formed.divisor in
    let short : m.level (rest m s e xs) < v = c.requires.measures.shift in
    let longer : length (map equation_of ks ++ (e ∷ [])) ≡ suc (length ks) = omega (arith, length-append (map equation_of ks) (e ∷ []), length-map ks equation_of) in (
      done m l s ks e xs ys c.loop-k.row c.requires.within sounds solves ended v
          (ap (λ i. get_or ys i 0) (sym count) ∙ c.loop-k.invariant.3 ∙ lead_is) short most,
      λ i h.
          c.loop-k.invariant.4 i (omega arith)
          ∙ get_or-set_other c.args.multipliers.now c.len-count.result i c.step_power-lead.result 0 (λ f. omega arith),
    )
