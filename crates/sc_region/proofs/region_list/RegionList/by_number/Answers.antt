use Rattle.sc_region.proofs.Rising.{sorted-rising}
use Rattle.sc_region.proofs.region_list.RegionList.by_number.Goals as goal

pub invariant_of-result : goal.invariant_of-result
invariant_of-result c =
    sorted-rising c.args.students.items c.sort_unstable.new.self.items c.sort_unstable.ensures.permutation c.requires c.sort_unstable.ensures.sorted
