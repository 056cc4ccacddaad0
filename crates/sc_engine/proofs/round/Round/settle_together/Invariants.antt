-- Those who are left are yet to propose.
use Rattle.std.proofs.Common.{drop}
use Rattle.sc_engine.specs.Applicants.{numbers_of}
use Rattle.sc_engine.specs.Round.{view_of}
use Rattle.sc_engine.specs.Together.{entries_of, Waits}
use Rattle.sc_engine.proofs.round.Round.settle_together.Given as goal

abbrev pub invariant-loop-turn : goal.invariant-loop-turn
invariant-loop-turn g l = Waits l.papers (view_of g.R.Roll.keys g.R.Roll.seats l.self) (numbers_of l.papers (drop l.turn l.applicants)) (entries_of l.waiting.items)
