-- The failures of the program.
use Rattle.std.specs.Prelude.{◌≡◌, ℕ, List, string_bytes}
use Rattle.std.specs.declared.io.Error.{Error}
use Rattle.std.specs.declared.io.ErrorKind.TheVariants.{OutOfMemory}
use Rattle.std.specs.IoError.{error_kind}
use Rattle.check_multipliers.specs.declared.failure.Failure.{Failure}
use Rattle.check_multipliers.specs.declared.failure.Failure.TheVariants.{Usage, Number, File, Io}

-- the failure is want of memory
abbrev pub WantsMemory : Failure → Type 0
WantsMemory f = (e : Error) × (f ≡ Io e) × (error_kind e ≡ OutOfMemory)

-- the failure names a word that writes no number, or is want of memory
abbrev pub NamesWord : List ℕ → Failure → Type 0
NamesWord w Usage = ⊥
NamesWord w (Number s) = string_bytes s ≡ w
NamesWord w (File p e) = ⊥
NamesWord w (Io e) = error_kind e ≡ OutOfMemory
