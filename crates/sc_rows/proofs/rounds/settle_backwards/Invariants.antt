use Rattle.sc_engine.specs.Round.{view_of, is_spent}
use Rattle.sc_rows.proofs.Backwards.{EnteredFrom}
use Rattle.sc_rows.proofs.rounds.settle_backwards.Given as goal

abbrev pub invariant-loop-left : goal.invariant-loop-left
invariant-loop-left g l = EnteredFrom l.papers (view_of g.R.Roll.keys g.R.Roll.seats l.round) (is_spent l.round) l.left

abbrev pub decreases-loop-left : goal.decreases-loop-left
decreases-loop-left g l = l.left
