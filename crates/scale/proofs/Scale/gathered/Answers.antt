use Rattle.std.proofs.Common.{sym, arith}
use Rattle.scale.proofs.Codes.{bits_code, length_most, reading_of}
use Rattle.scale.proofs.Scale.gathered.Goals as goal

pub overflow_shr-total : goal.overflow_shr-total
overflow_shr-total g c =
    let most = length_most _ (g.met.Self.Scale.lawful c.args.self.now) in
    rw c.mark-base.ensures (omega (arith, most))

pub overflow_cast-result : goal.overflow_cast-result
overflow_cast-result g c =
    let l = g.met.Self.Scale.lawful c.args.self.now in
    let short = rw c.mark-base.ensures at c.if-total-length-eq0.true in
    omega (arith, bits_code _ l c.args.total short, l.size_most)

pub returns-then-total-length-eq0 : goal.returns-then-total-length-eq0
returns-then-total-length-eq0 g c =
    let l = g.met.Self.Scale.lawful c.args.self.now in
    let short = rw c.mark-base.ensures at c.if-total-length-eq0.true in
    sym (reading_of _ l c.args.total (bits_code _ l c.args.total short))
