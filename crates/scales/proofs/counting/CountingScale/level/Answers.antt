use Rattle.std.proofs.Common.{ap, sym, ◌∙◌, rules}
use Rattle.scales.specs.Counting.{zeros}
use Rattle.scales.specs.Zeros.{parted_level}
use Rattle.scales.proofs.counting.CountingScale.level.Goals as goal

pub returns-in_default : goal.returns-in_default
returns-in_default g c =
    let m = g.D.Digits.counts c.args.self.now.digits in
    let laws = g.met.D.Digits.lawful c.args.self.now.digits in
    sym (parted_level m.base m.length _ c.split.result laws.base_least (search rules) c.split.ensures).1
    ∙ ap (zeros m.base m.length) c.reading.ensures
