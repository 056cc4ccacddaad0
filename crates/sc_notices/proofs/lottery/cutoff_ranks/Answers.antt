use Rattle.std.proofs.Common.{◌∙◌, ◌∷◌, [], ap, arith, length, length-append, map}
use Rattle.std.proofs.lemmas.List.{take_all}
use Rattle.sc_notices.specs.Lottery.{cutoff_rank}
use Rattle.sc_reasons.specs.declared.cutoff.CutoffRow.{CutoffRow}
use Rattle.sc_notices.proofs.LotteryLemmas.{ranks-more, row-cutoff}
use Rattle.sc_notices.proofs.lottery.cutoff_ranks.Goals as goal

pub loop-row-preserved : goal.loop-row-preserved
loop-row-preserved c =
    let m = c.args.papers.now in
    let k = c.loop-row.row-index in
    let row = c.row-item.result in
    record {
      count = omega (arith, ap length c.in_ok-push.ensures.items, length-append c.loop-row.ranks.items (c.cutoff_rank.result ∷ []), c.loop-row.invariant.count);
      ranks = λ a are.
          ranks-more m c.args.rows.now k row c.cutoff_rank.result c.loop-row.ranks.items c.push.new.self.items c.loop-row-test.true c.row-item.is
          (c.loop-row.invariant.ranks a are) (c.cutoff_rank.ensures a row.school (row-cutoff m a c.args.rows.now k row are c.loop-row-test.true c.row-item.is)) c.in_ok-push.ensures.items;
    }

pub returns-clause-ranks : goal.returns-clause-ranks
returns-clause-ranks c a are =
    c.loop-row.invariant.ranks a are
    ∙ ap (map (λ (row : CutoffRow). cutoff_rank c.args.papers.now row.cutoff)) (take_all c.loop-row.row-index c.args.rows.now (omega (arith, c.loop-row-test.false)))
