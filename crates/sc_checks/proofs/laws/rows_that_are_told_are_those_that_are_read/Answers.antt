use Rattle.sc_checks.proofs.RowsRead.{rows-read}
use Rattle.sc_checks.proofs.laws.rows_that_are_told_are_those_that_are_read.Goals as goal

pub returns : goal.returns
returns c = rows-read
