use Rattle.std.proofs.Common.{◌≡◌, ℕ, map, take}
use Rattle.sc_papers.specs.Market.{schools_of, students_of}
use Rattle.sc_papers.specs.Matching.{Matching}
use Rattle.sc_engine.specs.RoundView.{RollFits, roll_of}
use Rattle.sc_engine.specs.Rolls.{rolls_of}
use Rattle.sc_tallies.specs.Tally.{tally}
use Rattle.sc_engine.proofs.round.rolls.tallies_of.Given as goal

abbrev pub invariant-loop-position : goal.invariant-loop-position
invariant-loop-position g l =
    (a : Matching) → ((s : ℕ) → RollFits l.papers a s (roll_of l.papers (rolls_of g.R.Roll.keys g.R.Roll.seats l.rolls.items) s))
    → l.tallies.items ≡ map (tally l.papers a (students_of l.papers)) (take l.position (schools_of l.papers))
