use Rattle.std.proofs.Common.{rules, ◌≡◌, ◌≤◌, sum, arith}
use Rattle.std.proofs.lemmas.List.Elements.{All-from_get_or}
use Rattle.std.proofs.lemmas.List.Sums.{sum_by-le}
use Rattle.book.proofs.empty.head_digits.Goals as goal

pub returns-clause-few : goal.returns-clause-few
returns-clause-few c =
    let ws = c.args.widths.now in
    let all : c.sum.result ≡ sum ws = search rules in
    let each = All-from_get_or (λ w. w ≤ 255) ws 0 (λ i h. omega (arith, c.type_inv.widths i)) in
    omega (arith, sum_by-le (λ w. w) 255 ws each)
