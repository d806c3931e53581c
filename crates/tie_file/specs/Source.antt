-- Reading the bytes of a file.
use Rattle.std.specs.Prelude.{◌≡◌, ℕ, List, take}

-- these bytes are the first of the file, up to one more than a file may have
abbrev pub ReadOf : List ℕ → List ℕ → Type 0
ReadOf bytes file = bytes ≡ take 16385 file
