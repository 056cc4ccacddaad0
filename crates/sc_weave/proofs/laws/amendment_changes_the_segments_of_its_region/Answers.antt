use Rattle.sc_weave.proofs.Region.{region-segmented}
use Rattle.sc_weave.proofs.laws.amendment_changes_the_segments_of_its_region.Goals as goal

pub returns : goal.returns
returns c = region-segmented
