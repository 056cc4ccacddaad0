use Rattle.sc_engine.proofs.Settling.{GivesFirst}
use Rattle.sc_engine.proofs.round.ranks.assignment_of.Given as goal

abbrev pub invariant-loop-position : goal.invariant-loop-position
invariant-loop-position l = GivesFirst l.papers l.ranks l.assignment l.position
