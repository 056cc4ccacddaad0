use Rattle.sc_weave.proofs.Woven.{woven-segmented}
use Rattle.sc_weave.proofs.laws.woven_segments_are_segmented.Goals as goal

pub returns : goal.returns
returns c = woven-segmented
