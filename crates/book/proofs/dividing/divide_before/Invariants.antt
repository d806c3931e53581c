use Rattle.std.proofs.Common.{◌≡◌, ℕ, ◌<◌, ◌≤◌, length, get_or}
use Rattle.scale.specs.Meaning.{Quotient}
use Rattle.book.proofs.dividing.divide_before.Given as goal

abbrev pub invariant-loop-i : goal.invariant-loop-i
invariant-loop-i g l =
    let m = g.S.Scale.meaning l.scale in
    let ds = l.products in
    let p = l.choice.number in
    let Done : ℕ → Type 0 = λ i. Quotient m (get_or ds i 0) (get_or ds p 0) (get_or l.quotients i 0) in
    (length l.quotients ≡ length ds)
    × ((i : ℕ) → i < l.i → Done i)
    × ((i : ℕ) → p ≤ i → i < length ds → Done i)
