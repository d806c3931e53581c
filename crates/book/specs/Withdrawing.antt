-- Withdrawing the last tie.
use Rattle.std.specs.Prelude.{◌≡◌, [], ◌∷◌, ◌++◌, Ok, Err, Result}
use Rattle.ties.specs.Equations.{Equation}
use Rattle.book.specs.declared.fault.WithdrawFault.{WithdrawFault}
use Rattle.book.specs.Held.{Held}
use Rattle.book.specs.Standing.{ledger}

-- the last tie is taken off and the others stand; where none stands nothing changes
abbrev pub Withdrawn : {S : Type 0} → Held S → Result Unit WithdrawFault → Held S → Type 0
Withdrawn b (Ok u) c =
    (c.scale ≡ b.scale)
    × (c.layout ≡ b.layout)
    × ((e : Equation) × (ledger b.table ≡ ledger c.table ++ (e ∷ [])))
Withdrawn b (Err f) c = (ledger b.table ≡ []) × (c ≡ b)
