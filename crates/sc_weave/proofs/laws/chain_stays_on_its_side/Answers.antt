use Rattle.sc_weave.proofs.Part.{segment-passes, segment-fails}
use Rattle.sc_weave.proofs.laws.chain_stays_on_its_side.Goals as goal

pub returns-clause-passes : goal.returns-clause-passes
returns-clause-passes c = segment-passes

pub returns-clause-fails : goal.returns-clause-fails
returns-clause-fails c = segment-fails
