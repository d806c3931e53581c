use Rattle.std.proofs.Common.{◌≡◌, ℕ, ◌<◌, length, get_or}
use Rattle.scale.specs.Meaning.{reading}
use Rattle.book.proofs.pivot.negatives.Given as goal

abbrev pub invariant-loop-number : goal.invariant-loop-number
invariant-loop-number g l =
    let m = g.S.Scale.meaning l.scale in
    (length l.negatives.items ≡ l.number-index)
    × ((i : ℕ) → i < l.number-index → get_or l.negatives.items i 0 ≡ m.negative (reading m (get_or l.numbers.items i 0)))
