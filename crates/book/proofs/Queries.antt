-- What the standing ties settle of the value of one more tie.
use Rattle.std.proofs.Common.{◌≡◌, ℕ, ◌+◌, ◌*◌, ◌<◌, ◌≤◌, min, List, length, get_or, vec_items, sym, ◌∙◌, subst, ap₂, arith, below_more}
use Rattle.scale.specs.Meaning.{Meaning, Laws, digits}
use Rattle.scale.proofs.Coded.{Coded, codes}
use Rattle.scale.proofs.Ring.{Ring}
use Rattle.ties.specs.Layouts.{Assignment, Shape, Within, less, places}
use Rattle.ties.specs.Equations.{Equation, Solves, depth, total, value}
use Rattle.ties.specs.Faults.{Sound}
use Rattle.linear.proofs.Moves.{slid, value_less, value_slid}
use Rattle.linear.proofs.Raised.{factors_of, flat}
use Rattle.linear.proofs.Rows.{On, on_apart}
use Rattle.linear.proofs.Valued.{codes_valued}
use Rattle.book.specs.declared.reading.Reading.{Reading}
use Rattle.book.specs.declared.table.Table.{Table}
use Rattle.book.specs.Measures.{Totals}
use Rattle.book.specs.Querying.{Least, Queried, Settles}
use Rattle.book.specs.Sheets.{generator_of, point_of}
use Rattle.book.specs.Standing.{Stands, ledger}
use Rattle.book.proofs.Coding.{coded, coded_generator, flat_dot_is, on_sheet, row_assigns, total_dot_is}
use Rattle.book.proofs.Spots.{rows_size}
use Rattle.book.proofs.Posts.{stands_codes, stands_exact, stands_slides, stands_solved}

module _ (m : Meaning) (d : ℕ) (xs : List ℕ) where
  -- one number more
  pub least_more : (n v w : ℕ) → w ≡ min v (m.level (get_or xs n 0)) → Least m d xs n v → Least m d xs (n + 1) w
  least_more n v w is before =
      record {
        most = omega (arith, before.most);
        each = below_more _ n (λ i h. omega (arith, before.each i h)) (omega arith);
        greatest = λ k h each.
            let low = before.greatest k h (λ i b. each i (omega arith)) in
            let last = each n (omega arith) in
            omega arith;
      }

module _ (m : Meaning) (l : Laws m) (s : Shape) (t : Table) (within : Within m s) (stands : Stands m s t) where
  abbrev xs : List ℕ
  xs = vec_items t.rows

  abbrev R : Ring (Coded m)
  R = codes m l

  reached :
      (x : Assignment)
      → Solves m s (ledger t) x
      → On R (places s) (coded m l xs 0) (coded_generator m l s xs) (flat m l s x)
  reached x solves =
      (on_sheet m l s xs (stands_codes m l s t within stands).0 x solves.0).0
      ((stands_exact m l s t within stands x solves.0).0 solves.1)

  module _ (e : Equation) (sound : Sound m s e) where
    -- where no total at a generator has a lower level, neither has the difference of two values
    apart :
        (v : ℕ)
        → v ≤ digits m
        → ((i : ℕ) → i < places s → v ≤ m.level (total m e.terms (generator_of s xs i)))
        → Settles m s (ledger t) e v
    apart v most each x y solves-x solves-y =
        let all = (stands_codes m l s t within stands).0 in
        let difference =
        value_less m l s within e sound x y solves-x.0 solves-y.0
        ∙ sym (ap₂ (less m) (flat_dot_is m l s e sound x solves-x.0) (flat_dot_is m l s e sound y solves-y.0))
        in
        subst (λ (z : ℕ). v ≤ m.level z) (sym difference)
        (on_apart (codes_valued m l) v (places s) (factors_of m l s e) (coded m l xs 0) (flat m l s x) (flat m l s y)
        (coded_generator m l s xs) most
        (λ i h.
        subst (λ (z : ℕ). v ≤ m.level z) (sym (total_dot_is m l s e sound xs all (places s + i * places s))) (each i h)
        )
        (reached x solves-x) (reached y solves-y))

    -- and where two values never differ by a lower level, neither do the totals have one
    each_total :
        (v : ℕ)
        → Settles m s (ledger t) e v
        → (i : ℕ)
        → i < places s
        → v ≤ m.level (total m e.terms (generator_of s xs i))
    each_total v settles i h =
        let gives = row_assigns m l s xs (stands_codes m l s t within stands).0 in
        let p = point_of s xs in
        let g = generator_of s xs i in
        let solves = stands_solved m l s t within stands in
        let moved = stands_slides m l s t within stands i h p m.one l.one_code solves in
        subst (λ (z : ℕ). v ≤ m.level z)
        (value_slid m l s within e sound p g (gives 0) (gives (places s + i * places s)))
        (settles (slid m p m.one g) p moved solves)

    pub queried :
        (r : Reading) (ts : List ℕ)
        → r.value ≡ value m e (point_of s xs)
        → Totals m s e xs ts
        → Least m (depth s e) ts (length ts) r.settled
        → Queried m s (ledger t) xs e r
    queried r ts is totals least =
        let deep = (within e.target sound.target).1 in
        let most = least.most in
        let rows = stands_codes m l s t within stands in
        record {
          sound = sound;
          whole =
              record {
                size = rows.1 ∙ rows_size (places s);
                codes = rows.0;
                exact = stands_exact m l s t within stands;
              };
          at_point = is;
          settled =
              record {
                most = most;
                agree =
                    apart r.settled (omega arith)
                    (λ i h.
                    subst (λ (a : ℕ). r.settled ≤ m.level a) (totals.each i h) (least.each i (omega (arith, totals.count)))
                    );
                greatest = λ k h settles.
                    least.greatest k h
                    (λ i b.
                    let inside : i < places s = omega (arith, totals.count) in
                    subst (λ (a : ℕ). k ≤ m.level a) (sym (totals.each i inside)) (each_total k settles i inside)
                    );
              };
        }
