use Rattle.sc_papers.specs.Assignment.{assigned}
use Rattle.sc_audit.proofs.Blocking.{FirstAmong}
use Rattle.sc_audit.proofs.blocks.first_block.Given as goal

abbrev pub invariant-loop-position : goal.invariant-loop-position
invariant-loop-position l = FirstAmong l.papers (assigned l.assignment) l.position l.first
