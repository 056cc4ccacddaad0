use Rattle.sc_weave.proofs.Region.{rest-segmented}
use Rattle.sc_weave.proofs.laws.segments_outside_a_change_stay.Goals as goal

pub returns : goal.returns
returns c = rest-segmented
