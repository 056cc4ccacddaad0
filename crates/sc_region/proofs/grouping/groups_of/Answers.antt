use Rattle.sc_region.proofs.Joining.{groups-begun}
use Rattle.sc_region.proofs.grouping.groups_of.Goals as goal

pub loop-position-init : goal.loop-position-init
loop-position-init c = groups-begun c.args.papers.now c.schools_len.result c.in_ok-groups.groups c.schools_len.ensures c.in_ok-groups.ensures
