use Rattle.std.proofs.Common.{◌≤◌, length, arith}
use Rattle.std.proofs.lemmas.Grind.{common_steps}
use Rattle.ties.specs.Layouts.{shape}
use Rattle.ties.proofs.Places.{few_terms_lem, layout_sized, places_most}
use Rattle.ties.proofs.sound.SoundTie.to_owned.Goals as goal

pub unwrap-requires : goal.unwrap-requires
unwrap-requires g c =
    let tie = c.args.self.now in
    let s = shape tie.layout.now in
    let few = few_terms_lem s _ tie.sound.exist tie.sound.rise in
    let most = places_most s (layout_sized tie.layout.now) in
    let short : length tie.tie.terms.now ≤ 32 = omega arith in
    grind (arith, common_steps)
