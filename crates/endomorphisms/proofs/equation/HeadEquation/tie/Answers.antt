use Rattle.std.proofs.Common.{◌≡◌, ◌+◌, ◌*◌, ◌<◌, ◌↔◌, ℕ, map, refl, rules, ap, subst, sym, ◌∙◌, arith}
use Rattle.std.specs.List.{range_with_len}
use Rattle.ties.specs.Layouts.{counters_of, shape}
use Rattle.ties.specs.Equations.{Equation, Meets, equation_in}
use Rattle.ties.proofs.Places.{layout_sized, place_below, places_most}
use Rattle.endomorphisms.specs.Equations.{HoldsAt, group_equation, right, term_of, tie_of}
use Rattle.ties.specs.Faults.{Sound}
use Rattle.endomorphisms.proofs.Soluble.{over_sound}
use Rattle.endomorphisms.proofs.Tied.{meets_is, terms_length, terms_more}
use Rattle.endomorphisms.proofs.equation.HeadEquation.tie.Goals as goal

pub push-requires : goal.push-requires
push-requires c =
    let s = shape c.args.layout.now in
    let e = group_equation c.args.self.now in
    let long = terms_length s e c.args.counter (c.loop-head.head * counters_of s + c.loop-source.source) c.loop-source.terms.items c.loop-source.invariant in
    let head : c.loop-head.head < s.heads = omega (arith, c.heads-head-end.ensures, c.loop-head-test.true) in
    let source : c.loop-source.source < counters_of s = omega (arith, c.counters-source-end.ensures, c.loop-source-test.true) in
    let below = place_below s c.loop-head.head c.loop-source.source (head, source) in
    let most = places_most s (layout_sized c.args.layout.now) in
    omega arith

pub loop-source-preserved : goal.loop-source-preserved
loop-source-preserved c =
    let s = shape c.args.layout.now in
    let e = group_equation c.args.self.now in
    let source : c.loop-source.source < counters_of s = omega (arith, c.counters-source-end.ensures, c.loop-source-test.true) in
    terms_more s e c.args.counter c.loop-head.head c.loop-source.source c.loop-source.terms.items c.push.new.self.items source
    c.loop-source.invariant (rw c.factor.ensures at c.push.ensures.items)

pub returns : goal.returns
returns c =
    let s = shape c.args.layout.now in
    let e = group_equation c.args.self.now in
    let end : c.loop-head.head ≡ s.heads =
    omega (arith, c.loop-head.auto.head-end, c.loop-head-test.false, c.heads-head-end.ensures)
    in
    let terms : c.loop-head.terms.items ≡ (tie_of s e c.args.counter).terms =
    c.loop-head.invariant ∙ ap (λ (h : ℕ). map (term_of s e c.args.counter) (range_with_len 0 (h * counters_of s))) end
    in
    let side : c.unwrap_or.result ≡ right e c.args.counter = search rules in
    let is : tie_of s e c.args.counter ≡ equation_in (record { target = c.args.counter; right = c.unwrap_or.result; terms = c.loop-head.terms }) =
    rw (side, terms) refl
    in
    record {
      tie = sym is;
      means = λ m l coded x gives.
          subst (λ (t : Equation). Meets m s t x ↔ HoldsAt m s e x c.args.counter) is
          (meets_is m l s e c.args.counter coded x gives);
      sound = λ m l over inside. subst (Sound m s) is (over_sound m l s e over c.args.counter inside);
    }
