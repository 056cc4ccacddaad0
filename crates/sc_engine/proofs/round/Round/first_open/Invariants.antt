use Rattle.std.proofs.Common.{ℕ, ◌-◌, Bool, length}
use Rattle.sc_papers.specs.Market.{choices_of, student_at}
use Rattle.sc_engine.specs.Round.{view_of}
use Rattle.sc_engine.specs.RoundView.{IsAway}
use Rattle.sc_engine.specs.Together.{moved_to, PassesUnnoted}
use Rattle.sc_engine.proofs.round.Round.first_open.Given as goal

abbrev pub invariant-loop-proposal : goal.invariant-loop-proposal
invariant-loop-proposal g l =
    (away : ℕ → Bool) → IsAway l.papers (view_of g.R.Roll.keys g.R.Roll.seats l.self) away (student_at l.papers l.proposer)
    → PassesUnnoted l.papers (view_of g.R.Roll.keys g.R.Roll.seats l.self) away (moved_to (view_of g.R.Roll.keys g.R.Roll.seats l.self) l.proposer l.rank) (student_at l.papers l.proposer)

abbrev pub decreases-loop-proposal : goal.decreases-loop-proposal
decreases-loop-proposal g l = length (choices_of l.papers (student_at l.papers l.proposer)) - l.rank
