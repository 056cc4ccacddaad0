use Rattle.sc_papers.proofs.Hands.{has-position}
use Rattle.sc_engine.proofs.round.ranks.position_near.Goals as goal

pub unreachable-requires : goal.unreachable-requires
unreachable-requires c = has-position c.args.papers.now c.args.student c.requires c.in_default.ensures
