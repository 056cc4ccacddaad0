use Rattle.sc_region.proofs.Rising.{search-contains}
use Rattle.sc_region.proofs.region_list.RegionList.contains.Goals as goal

pub returns : goal.returns
returns c =
    rw (c.is_ok.ensures.value, ← c.self.view_is)
    (search-contains c.self.inside.students.items c.args.student c.binary_search.result (rw c.deref.ensures.value at c.binary_search.ensures.position) c.self.invariant)
