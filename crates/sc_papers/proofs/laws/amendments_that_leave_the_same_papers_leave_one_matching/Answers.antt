use Rattle.sc_papers.proofs.Weaving.{lists-matching}
use Rattle.sc_papers.proofs.laws.amendments_that_leave_the_same_papers_leave_one_matching.Goals as goal

pub returns-clause-lists : goal.returns-clause-lists
returns-clause-lists c = lists-matching

pub returns-clause-interleavings : goal.returns-clause-interleavings
returns-clause-interleavings c = λ m desks first second a b well woven also. lists-matching m first second a b well
