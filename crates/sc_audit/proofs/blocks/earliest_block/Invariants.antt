use Rattle.sc_papers.specs.Assignment.{assigned}
use Rattle.sc_papers.specs.Market.{student_at}
use Rattle.sc_audit.proofs.Blocking.{PassedOver}
use Rattle.sc_audit.proofs.blocks.earliest_block.Given as goal

abbrev pub invariant-loop-rank : goal.invariant-loop-rank
invariant-loop-rank l = PassedOver l.papers (assigned l.assignment) (student_at l.papers l.position) l.rank
