use Rattle.std.proofs.Common.{sym, subst, All}
use Rattle.std.proofs.lemmas.List.{take_more}
use Rattle.std.proofs.lemmas.List.Elements.{All-push}
use Rattle.sc_papers.specs.Market.{student_at}
use Rattle.sc_ledgers.specs.Course.{labels_of}
use Rattle.sc_ledgers.specs.Ledger.{IsRefusedToo}
use Rattle.sc_ledgers.specs.Marks.{marked_in}
use Rattle.sc_ledgers.proofs.sweep.refusals_too.Goals as goal

pub loop-rank-preserved : goal.loop-rank-preserved
loop-rank-preserved c =
    let n = c.args.rows.now.papers.now in
    let refused = IsRefusedToo n (marked_in n c.args.marks.now.flags) (labels_of n c.args.ledgers.now) c.args.turn (student_at n c.args.turn) in
    subst (All refused) (sym (take_more c.args.segment.now c.loop-rank.rank c.index-segment-rank.result c.loop-rank-test.true)) (All-push refused _ _ c.loop-rank.invariant (subst refused c.index-segment-rank.is (c.is_refused_too.ensures c.if-not-is_refused_too.false)))
