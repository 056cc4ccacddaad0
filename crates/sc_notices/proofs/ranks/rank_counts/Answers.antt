use Rattle.std.proofs.Common.{sym, ◌∙◌, ap, slice_get}
use Rattle.sc_papers.specs.Assignment.{assigned}
use Rattle.sc_papers.specs.Market.{choices_of, students_of}
use Rattle.sc_papers.proofs.Hands.{hand-is}
use Rattle.sc_notices.proofs.RankLemmas.{ranks-more}
use Rattle.sc_notices.proofs.ranks.rank_counts.Goals as goal

pub loop-position-preserved : goal.loop-position-preserved
loop-position-preserved c =
    let m = c.args.papers.now in
    let i = c.in-Some.student in
    let told = ap (λ n. slice_get (students_of n) c.loop-position.position) (sym c.deref-in-loop-position.ensures) ∙ sym c.in-Some.ensures in
    ranks-more m (assigned c.args.places.now) c.loop-position.counts c.count_place.new.counts c.choices_at.result.now c.get_near-held.result c.loop-position.position i
    told (c.choices_at.ensures.choices ∙ ap (choices_of m) (hand-is m c.loop-position.position i told))
    c.get_near-held.ensures c.loop-position.invariant c.count_place.ensures.by_rank c.count_place.ensures.unplaced
