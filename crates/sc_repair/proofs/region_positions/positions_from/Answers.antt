use Rattle.std.proofs.Common.{◌-◌, ◌∙◌, drop, length, arith}
use Rattle.std.proofs.lemmas.List.{length-drop, take_all}
use Rattle.sc_repair.proofs.Positioned.{last-marked}
use Rattle.sc_repair.proofs.region_positions.positions_from.Goals as goal

pub returns : goal.returns
returns c =
    let positions = c.positions-positions.result.now in
    let n = c.count_before.result in
    take_all (length positions - n) (drop n positions) (omega (arith, length-drop n positions))
    ∙ last-marked c.args.region.now positions n c.args.from c.positions-positions.ensures.rising c.positions-positions.ensures.marked
    c.count_before.ensures.within c.count_before.ensures.before c.count_before.ensures.rest
