use Rattle.sc_stamps.proofs.Stamping.{stamp-after}
use Rattle.sc_stamps.proofs.laws.accepted_amendment_stamps_its_record.Goals as goal

pub returns-clause-stamps : goal.returns-clause-stamps
returns-clause-stamps c = stamp-after
