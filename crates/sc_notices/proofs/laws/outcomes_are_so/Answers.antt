use Rattle.sc_notices.proofs.OutcomeLaws.{outcome-given, outcome-later, outcome-refused}
use Rattle.sc_notices.proofs.laws.outcomes_are_so.Goals as goal

pub returns-clause-given : goal.returns-clause-given
returns-clause-given c = outcome-given

pub returns-clause-refused : goal.returns-clause-refused
returns-clause-refused c = outcome-refused

pub returns-clause-later : goal.returns-clause-later
returns-clause-later c = outcome-later
