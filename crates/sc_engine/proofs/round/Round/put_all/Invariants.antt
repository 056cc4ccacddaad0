use Rattle.sc_engine.specs.Round.{view_of, is_spent}
use Rattle.sc_engine.proofs.Resuming.{PutFirst}
use Rattle.sc_engine.proofs.round.Round.put_all.Given as goal

abbrev pub invariant-loop-choice : goal.invariant-loop-choice
invariant-loop-choice g l = PutFirst l.papers l.next_choices (view_of g.R.Roll.keys g.R.Roll.seats l.self) (is_spent l.self) l.choice-index
