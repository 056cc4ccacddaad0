use Rattle.sc_stamps.proofs.Turns.{last-accepted, last-refused, well-list}
use Rattle.sc_stamps.proofs.laws.stamped_amendments_are_answered_in_turn.Goals as goal

pub returns-clause-accepted : goal.returns-clause-accepted
returns-clause-accepted c = last-accepted

pub returns-clause-refused : goal.returns-clause-refused
returns-clause-refused c = last-refused

pub returns-clause-well_formed : goal.returns-clause-well_formed
returns-clause-well_formed c = well-list
