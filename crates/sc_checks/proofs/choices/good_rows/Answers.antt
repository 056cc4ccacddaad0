use Rattle.sc_papers.specs.declared.limits.TheConstants.{MOST_STUDENTS}
use Rattle.sc_intake.specs.Lists.{list_number}
use Rattle.sc_intake.proofs.RowLemmas.{AreRows-none}
use Rattle.sc_checks.proofs.choices.good_rows.Goals as goal

pub returns-in-None-clause-differ : goal.returns-in-None-clause-differ
returns-in-None-clause-differ c = AreRows-none list_number MOST_STUDENTS
