use Rattle.sc_stamps.proofs.Rising.{rising-in-step}
use Rattle.sc_stamps.proofs.laws.accepted_amendments_of_a_record_carry_rising_stamps.Goals as goal

pub returns : goal.returns
returns c = rising-in-step
