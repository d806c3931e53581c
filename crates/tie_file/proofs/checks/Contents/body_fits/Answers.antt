use Rattle.std.proofs.lemmas.Bool.{some_since}
use Rattle.tie_file.proofs.WellFormed.{entry_there}
use Rattle.tie_file.proofs.checks.Contents.body_fits.Goals as goal

pub unwrap-requires : goal.unwrap-requires
unwrap-requires c =
    some_since _ _ _ c.nth_entry.ensures
    (λ none. none (entry_there c.args.self.now.file.now c.args.self.now.table c.requires.follow c.args.i c.requires.inside))
