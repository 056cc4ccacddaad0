use Rattle.sc_stamps.proofs.Step.{in-step-after}
use Rattle.sc_stamps.proofs.laws.stamps_stay_in_step.Goals as goal

pub returns-clause-after : goal.returns-clause-after
returns-clause-after c = in-step-after
