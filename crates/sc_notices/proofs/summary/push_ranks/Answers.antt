use Rattle.std.proofs.Common.{ap, ◌∙◌, ◌++◌, arith}
use Rattle.std.specs.Prelude.{codes}
use Rattle.sc_papers.specs.Assignment.{assigned}
use Rattle.sc_report.proofs.LineLemmas.{lines-all, lines-more}
use Rattle.sc_notices.specs.Summary.{with_rank}
use Rattle.sc_notices.specs.SummaryText.{rank_line, ranks}
use Rattle.sc_notices.proofs.SummaryLemmas.{counts-rank, counts-unplaced, rank-there, ranks-joined, ranks-length}
use Rattle.sc_notices.proofs.summary.push_ranks.Goals as goal

pub loop-rank-preserved : goal.loop-rank-preserved
loop-rank-preserved c =
    let m = c.args.papers.now in
    let a = assigned c.args.places.now in
    let rank = c.loop-rank.rank in
    lines-more (λ r. rank_line r (with_rank m a r)) ranks rank rank c.extend_from_slice.new.self.items c.loop-rank.text.items c.push_rank.new.text.items
    c.loop-rank.invariant
    (c.in_ok-push_rank.ensures ∙ ap (λ n. c.loop-rank.text.items ++ rank_line rank n) (counts-rank m a c.rank_counts-counts.result rank c.rank_counts-counts.ensures c.loop-rank-test.true))
    (omega (arith, ranks-length, c.loop-rank-test.true))
    (rank-there rank rank c.loop-rank-test.true)

pub returns : goal.returns
returns c =
    let m = c.args.papers.now in
    let a = assigned c.args.places.now in
    ranks-joined m a c.rank_counts-counts.result.unplaced c.args.text.now.items c.loop-rank.text.items c.push_unplaced.new.text.items
    (lines-all (λ r. rank_line r (with_rank m a r)) ranks c.loop-rank.rank c.args.text.now.items (codes "rank,students\n")
    c.extend_from_slice.new.self.items c.loop-rank.text.items c.in_ok-extend_from_slice.ensures.items c.loop-rank.invariant
    (omega (arith, ranks-length, c.loop-rank-test.false)))
    c.in_ok-push_unplaced.ensures
    (counts-unplaced m a c.rank_counts-counts.result c.rank_counts-counts.ensures)
