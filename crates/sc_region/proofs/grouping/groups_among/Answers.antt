use Rattle.std.proofs.Common.{get_or}
use Rattle.std.proofs.lemmas.List.Elements.{Contains-get_or}
use Rattle.sc_region.proofs.Joining.{groups-begun}
use Rattle.sc_region.proofs.grouping.groups_among.Goals as goal

pub loop-position-init : goal.loop-position-init
loop-position-init c = groups-begun c.args.papers.now c.schools_len.result c.in_ok-groups.groups c.schools_len.ensures c.in_ok-groups.ensures

pub join_choices-requires-clause-within : goal.join_choices-requires-clause-within
join_choices-requires-clause-within c =
    let at = c.loop-position.position-index in
    c.requires (get_or c.args.positions.now at 0) (Contains-get_or c.args.positions.now at 0 c.loop-position-test.true)
