use Rattle.std.proofs.Common.{◌≡◌, false}
use Rattle.sc_engine.specs.Round.{view_of, is_spent}
use Rattle.sc_papers.specs.Restriction.{cut}
use Rattle.sc_engine.specs.{InOrder.{IsInOrder}, RoundView.{SettlesFirst}}
use Rattle.sc_engine.proofs.settled.enter_all.Given as goal

abbrev pub invariant-loop-position : goal.invariant-loop-position
invariant-loop-position g l =
    SettlesFirst l.papers (view_of g.R.Roll.keys g.R.Roll.seats l.round) l.position
    × (is_spent l.round ≡ false)
    × IsInOrder (cut l.papers l.position) (view_of g.R.Roll.keys g.R.Roll.seats l.round).log
