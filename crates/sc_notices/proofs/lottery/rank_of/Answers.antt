use Rattle.std.proofs.Common.{arith}
use Rattle.sc_notices.proofs.LotteryLemmas.{tickets-few}
use Rattle.sc_notices.proofs.lottery.rank_of.Goals as goal

pub searched_rank-requires : goal.searched_rank-requires
searched_rank-requires c = omega (arith, tickets-few c.args.papers.now c.args.tickets.now c.requires, c.students_len.ensures.within_limits.students)
