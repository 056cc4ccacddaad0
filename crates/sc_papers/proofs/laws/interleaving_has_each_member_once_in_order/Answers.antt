use Rattle.sc_papers.proofs.Weaving.{interleaving-members, interleaving-order}
use Rattle.sc_papers.proofs.laws.interleaving_has_each_member_once_in_order.Goals as goal

pub returns-clause-members : goal.returns-clause-members
returns-clause-members g c = λ desks woven. interleaving-members desks woven

pub returns-clause-order : goal.returns-clause-order
returns-clause-order g c = λ desks woven. interleaving-order desks woven
