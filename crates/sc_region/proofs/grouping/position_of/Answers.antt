use Rattle.std.proofs.Common.{sym, ◌∙◌}
use Rattle.sc_papers.proofs.Hands.{school-has_position}
use Rattle.sc_region.proofs.grouping.position_of.Goals as goal

pub unreachable-requires : goal.unreachable-requires
unreachable-requires c = school-has_position c.args.papers.now c.args.school c.requires (sym c.in_default.is ∙ c.school_position.ensures)
