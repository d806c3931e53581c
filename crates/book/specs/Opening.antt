-- Opening a book.
use Rattle.std.specs.Prelude.{◌≡◌, []}
use Rattle.scale.specs.Meaning.{Meaning}
use Rattle.ties.specs.Layouts.{Shape, Sized, Within, shape}
use Rattle.ties.specs.Faults.{BadLayout}
use Rattle.book.specs.declared.fault.OpenFault.{OpenFault}
use Rattle.book.specs.declared.fault.OpenFault.TheVariants.{Layout, Memory}
use Rattle.book.specs.Held.{Held}
use Rattle.book.specs.Standing.{ledger}

-- the book that opening makes of a scale and a shape: no tie stands
pub record Opened {S : Type 0} (meaning : S → Meaning) (scale : S) (s : Shape) (b : Held S) : Type 0 where
  pub sized : Sized s
  pub within : Within (meaning scale) s
  pub same_scale : b.scale ≡ scale
  pub same_shape : shape b.layout ≡ s
  pub nothing : ledger b.table ≡ []

-- what stops opening: the first check on the layout that fails, or want of memory where none does
abbrev pub OpenStopped : Meaning → Shape → OpenFault → Type 0
OpenStopped m s (Layout f) = BadLayout m s f
OpenStopped m s Memory = Sized s × Within m s
