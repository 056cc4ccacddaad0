use Rattle.std.proofs.Common.{rules}
use Rattle.sc_export.proofs.roster.push_header.Goals as goal

pub returns-else-longer : goal.returns-else-longer
returns-else-longer c = rw c.if-longer.false (search rules)
