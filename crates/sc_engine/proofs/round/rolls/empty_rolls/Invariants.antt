use Rattle.std.proofs.Common.{◌≡◌, length}
use Rattle.sc_engine.specs.RoundView.{AreEmpty}
use Rattle.sc_engine.specs.Rolls.{rolls_of}
use Rattle.sc_engine.proofs.round.rolls.empty_rolls.Given as goal

abbrev pub invariant-loop-position : goal.invariant-loop-position
invariant-loop-position g l = (length l.rolls.items ≡ l.position) × AreEmpty l.papers (rolls_of g.R.Roll.keys g.R.Roll.seats l.rolls.items) l.position
