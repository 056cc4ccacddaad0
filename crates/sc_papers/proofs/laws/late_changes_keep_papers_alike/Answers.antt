use Rattle.sc_papers.proofs.Rewinding.{alike-students, alike-seats}
use Rattle.sc_papers.proofs.laws.late_changes_keep_papers_alike.Goals as goal

pub returns-clause-students : goal.returns-clause-students
returns-clause-students c = alike-students

pub returns-clause-seats : goal.returns-clause-seats
returns-clause-seats c = alike-seats
