-- What the bodies of a file hold.
use Rattle.std.specs.Prelude.{ℕ, ◌+◌, ◌-◌, ◌*◌, ◌/◌, List, map, length}
use Rattle.std.specs.List.{range_with_len, between}
use Rattle.scale.specs.declared.Mark.{Mark}
use Rattle.ties.specs.declared.tie.Term.{Term}
use Rattle.ties.specs.Equations.{Equation}
use Rattle.ties.specs.Layouts.{Shape}
use Rattle.tie_file.specs.Table.{byte, entries, body_at}

-- 32 bits at a place, low byte first
abbrev pub long : List ℕ → ℕ → ℕ
long b i = byte b i + 256 * byte b (i + 1) + 65536 * byte b (i + 2) + 16777216 * byte b (i + 3)

-- a layout's body: the three bytes of the mark, the heads, the number of counters, and then the widths
abbrev pub mark_of : List ℕ → Mark
mark_of b = record { kind = byte b 0; base = byte b 1; length = byte b 2 }

abbrev pub shape_of : List ℕ → Shape
shape_of b = record { heads = byte b 3; widths = between 5 (length b) b }

-- a tie's body: the target, the right side in 32 bits, and six bytes a term, which are head, counter and the factor in 32 bits
abbrev pub term_in : List ℕ → ℕ → Term
term_in b i = record { head = byte b (5 + 6 * i); counter = byte b (6 + 6 * i); factor = long b (7 + 6 * i) }

abbrev pub terms_in : List ℕ → ℕ
terms_in b = (length b - 5) / 6

abbrev pub equation_of : List ℕ → Equation
equation_of b = record { target = byte b 0; right = long b 1; terms = map (term_in b) (range_with_len 0 (terms_in b)) }

-- a whole file: its first body is the layout's, and each other is a tie's
abbrev pub file_mark : List ℕ → Mark
file_mark f = mark_of (body_at f 0)

abbrev pub file_shape : List ℕ → Shape
file_shape f = shape_of (body_at f 0)

abbrev pub equations : List ℕ → List Equation
equations f = map (λ i. equation_of (body_at f i)) (range_with_len 1 (entries f - 1))
