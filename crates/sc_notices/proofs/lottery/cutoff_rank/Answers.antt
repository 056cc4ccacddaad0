use Rattle.std.proofs.Common.{◌∙◌, Some, ap, sym}
use Rattle.sc_notices.specs.Lottery.{cutoff_rank}
use Rattle.sc_notices.proofs.LotteryLemmas.{cutoff-ticket}
use Rattle.sc_notices.proofs.lottery.cutoff_rank.Goals as goal

pub returns-in-Full : goal.returns-in-Full
returns-in-Full c a s is =
    let m = c.args.papers.now in
    let last = c.in-Full.key in
    ap Some (c.rank_of.ensures last.student
    (cutoff-ticket m a s last c.ticket_of.result (sym c.in-Full.is ∙ is) c.ticket_of.ensures.class c.ticket_of.ensures.draw c.ticket_of.ensures.student))
    ∙ ap (cutoff_rank m) (sym c.in-Full.is)
