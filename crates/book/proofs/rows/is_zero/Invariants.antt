use Rattle.std.proofs.Common.{◌≡◌, ℕ, ◌<◌, ◌≤◌, get_or}
use Rattle.book.proofs.rows.is_zero.Given as goal

abbrev pub invariant-loop-code : goal.invariant-loop-code
invariant-loop-code l =
    ((j : ℕ) → j < l.code-index → get_or l.row j 0 ≤ l.greatest)
    × (((j : ℕ) → j < l.code-index → get_or l.row j 0 ≡ 0) → l.greatest ≡ 0)
