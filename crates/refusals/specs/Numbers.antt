-- The number of each refusal: the one place where these numbers stand.
use Rattle.std.specs.Prelude.{ℕ}
use Rattle.refusals.specs.declared.Refusal.{Refusal}
use Rattle.refusals.specs.declared.Refusal.TheVariants.{Contents, Entry, Body, Numbers, Shape, Width, Mark, List, Target, Absent, Order, NoCode, Coarse, Full, Contradiction, Nothing}

abbrev pub number : Refusal → ℕ
number Contents = 1
number Entry = 2
number Body = 3
number Numbers = 4
number Shape = 5
number Width = 6
number Mark = 7
number List = 8
number Target = 9
number Absent = 10
number Order = 11
number NoCode = 12
number Coarse = 13
number Full = 14
number Contradiction = 15
number Nothing = 16
