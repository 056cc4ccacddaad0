use Rattle.std.proofs.Common.{ℕ, List}
use Rattle.sc_engine.specs.Round.{view_of}
use Rattle.sc_engine.specs.RoundView.{choices_left}
use Rattle.sc_engine.specs.Together.{entries_of, Waits}
use Rattle.sc_engine.proofs.round.Round.work_off.Given as goal

abbrev pub invariant-loop-self : goal.invariant-loop-self
invariant-loop-self g l =
    (hands : List ℕ) → Waits l.papers (view_of g.R.Roll.keys g.R.Roll.seats l.fn.self) hands (entries_of l.fn.waiting.items)
    → Waits l.papers (view_of g.R.Roll.keys g.R.Roll.seats l.self) hands (entries_of l.waiting.items)

abbrev pub decreases-loop-self : goal.decreases-loop-self
decreases-loop-self g l = choices_left l.papers l.self.ranks
