use Rattle.sc_notices.proofs.ChangeLaws.{changed-exact, unchanged}
use Rattle.sc_notices.proofs.laws.changes_are_so.Goals as goal

pub returns-clause-told : goal.returns-clause-told
returns-clause-told c = changed-exact

pub returns-clause-unchanged : goal.returns-clause-unchanged
returns-clause-unchanged c = unchanged
