use Rattle.std.proofs.Common.{◌≡◌, ℕ, ◌<◌}
use Rattle.tie_file.proofs.Fitting.{Follows}
use Rattle.tie_file.specs.Table.{end_before}
use Rattle.tie_file.proofs.checks.Contents.entries_follow.Given as goal

abbrev pub invariant-loop-i : goal.invariant-loop-i
invariant-loop-i l = (l.end ≡ end_before l.self.file.now l.i) × ((k : ℕ) → k < l.i → Follows l.self.file.now k)
