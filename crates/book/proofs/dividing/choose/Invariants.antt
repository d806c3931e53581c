use Rattle.std.proofs.Common.{◌<◌, length, get_or}
use Rattle.book.specs.Dividing.{DividesBy, Scanned}
use Rattle.book.proofs.dividing.choose.Given as goal

abbrev pub invariant-loop-i : goal.invariant-loop-i
invariant-loop-i g l =
    (l.number < length l.products.items)
    × DividesBy (g.S.Scale.meaning l.scale) (get_or l.products.items l.number 0) l.divisor
    × Scanned (g.S.Scale.meaning l.scale) l.products.items l.i l.number l.quotients.items
