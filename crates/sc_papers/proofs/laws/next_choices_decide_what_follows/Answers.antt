use Rattle.sc_papers.proofs.Standings.{settled-follows, next-follows}
use Rattle.sc_papers.proofs.laws.next_choices_decide_what_follows.Goals as goal

pub returns-clause-settled : goal.returns-clause-settled
returns-clause-settled c = λ m log other rest well. settled-follows m well log other rest

pub returns-clause-next : goal.returns-clause-next
returns-clause-next c = λ m log other rest well. next-follows m well log other rest
