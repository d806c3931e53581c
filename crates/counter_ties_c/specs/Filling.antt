-- A book that has taken the ties of a file.
use Rattle.std.specs.Prelude.{◌≡◌, ℕ, List, [], take, Result}
use Rattle.scales.specs.Made.{any_scale}
use Rattle.ties.specs.Layouts.{shape}
use Rattle.tie_file.specs.Bodies.{equations, file_shape}
use Rattle.marked_check.specs.Marked.{scale_of}
use Rattle.book.specs.declared.fault.Stop.{Stop}
use Rattle.book.specs.Loading.{AllAnswered, AllListing, accepted_of}
use Rattle.book.specs.Standing.{ledger}
use Rattle.report.specs.Reported.{Openable}
use Rattle.counter_ties_c.specs.declared.filling.Filled.{Filled}

-- what posting the ties of a file to an empty book over its own mark and layout answers, and what the list then holds
abbrev pub FileAnswered : List ℕ → List ℕ → Result ℕ Stop → Type 0
FileAnswered f = AllAnswered (scale_of f) (file_shape f) [] (equations f)

abbrev pub FileListing : List ℕ → Result ℕ Stop → List ℕ → List ℕ → Type 0
FileListing f = AllListing (scale_of f) (file_shape f) [] (equations f)

-- the book is over the file's mark and layout, and those ties of the file stand that were accepted
pub record FilledBy (f old new : List ℕ) (t : Filled) : Type 0 where
  pub openable : Openable f
  pub meaning : any_scale t.book.scale ≡ scale_of f
  pub shape : shape t.book.layout ≡ file_shape f
  pub stand : ledger t.book.table ≡ take (accepted_of t.posted) (equations f)
  pub answered : FileAnswered f old t.posted
  pub listing : FileListing f t.posted old new
