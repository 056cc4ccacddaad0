use Rattle.std.proofs.Common.{◌<◌, length}
use Rattle.sc_papers.specs.Market.{student_at}
use Rattle.sc_engine.specs.RoundView.{Moves, choices_left, only}
use Rattle.sc_engine.specs.Round.{view_of}
use Rattle.sc_engine.proofs.round.Round.chain.Given as goal

abbrev pub invariant-loop-out : goal.invariant-loop-out
invariant-loop-out g l =
    (l.proposer < length l.papers.students)
    × Moves l.papers (view_of g.R.Roll.keys g.R.Roll.seats l.fn.self) (only (student_at l.papers l.fn.first)) (view_of g.R.Roll.keys g.R.Roll.seats l.self) (only (student_at l.papers l.proposer))

abbrev pub decreases-loop-out : goal.decreases-loop-out
decreases-loop-out g l = choices_left l.papers l.self.ranks
