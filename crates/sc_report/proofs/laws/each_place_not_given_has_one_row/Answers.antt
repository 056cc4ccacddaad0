use Rattle.sc_report.proofs.ReasonCounts.{rows-preferred, rows-others}
use Rattle.sc_report.proofs.laws.each_place_not_given_has_one_row.Goals as goal

pub returns-clause-preferred : goal.returns-clause-preferred
returns-clause-preferred c = rows-preferred

pub returns-clause-others : goal.returns-clause-others
returns-clause-others c = rows-others
