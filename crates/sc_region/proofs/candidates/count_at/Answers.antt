use Rattle.std.proofs.Common.{get_or, arith}
use Rattle.std.proofs.lemmas.List.Elements.{Contains-get_or}
use Rattle.sc_region.proofs.candidates.count_at.Goals as goal

pub index-requires : goal.index-requires
index-requires c =
    let at = c.loop-school.school-index in
    omega (arith, c.requires (get_or c.args.schools.now at 0) (Contains-get_or c.args.schools.now at 0 c.loop-school-test.true), c.args.firsts.now.ok.0)
