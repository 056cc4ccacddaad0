use Rattle.std.proofs.Common.{ℕ, Bool}
use Rattle.sc_papers.specs.Market.{student_at}
use Rattle.sc_engine.specs.RoundView.{IsAway, Passes, choices_left}
use Rattle.sc_engine.specs.Round.{view_of}
use Rattle.sc_engine.proofs.round.Round.next_open.Given as goal

abbrev pub invariant-passed : goal.invariant-passed
invariant-passed g l =
    (away : ℕ → Bool) → IsAway l.papers (view_of g.R.Roll.keys g.R.Roll.seats l.fn.self) away (student_at l.papers l.proposer)
    → Passes l.papers (view_of g.R.Roll.keys g.R.Roll.seats l.fn.self) away (view_of g.R.Roll.keys g.R.Roll.seats l.self) (student_at l.papers l.proposer)

abbrev pub decreases-passed : goal.decreases-passed
decreases-passed g l = choices_left l.papers l.self.ranks
