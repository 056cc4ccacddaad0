use Rattle.std.proofs.Common.{sym, ◌∙◌, refl}
use Rattle.sc_papers.proofs.Hands.{student-there}
use Rattle.sc_engine.proofs.Proposing.{proposes_there}
use Rattle.sc_engine.proofs.Tables.{next_there}
use Rattle.sc_engine.proofs.round.ranks.proposal_of.Goals as goal

pub returns : goal.returns
returns c i found =
    proposes_there c.args.papers.now i c.args.at _ c.proposal.result (student-there c.args.papers.now i c.args.at found)
    (c.proposal.ensures.school ∙ next_there c.args.papers.now c.args.ranks.now i c.args.at c.in_ok-rank.rank _ found (sym c.in_ok-rank.was ∙ c.rank_at.ensures.rank) refl)
    c.proposal.ensures.position c.proposal.ensures.key
