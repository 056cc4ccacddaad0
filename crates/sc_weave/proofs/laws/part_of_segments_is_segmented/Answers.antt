use Rattle.sc_weave.proofs.Part.{part-segmented}
use Rattle.sc_weave.proofs.laws.part_of_segments_is_segmented.Goals as goal

pub returns : goal.returns
returns c = part-segmented
