use Rattle.std.proofs.Common.{◌≡◌, ◌+◌, Some, slice_get, take, rules, subst, sym}
use Rattle.sc_papers.specs.Assignment.{holders}
use Rattle.sc_repair.specs.Places.{AreCountsBy}
use Rattle.sc_repair.proofs.Counts.{counted-more, holders-more}
use Rattle.sc_repair.proofs.places.counts_of.Goals as goal

pub loop-position-preserved : goal.loop-position-preserved
loop-position-preserved c =
    let pairs = c.args.assignment.now in
    let position = c.loop-position.position in
    let pair = c.in-Some.pair in
    let at : slice_get pairs position ≡ Some pair = search rules in
    subst (AreCountsBy (holders (take (position + 1) pairs))) (sym c.count_one.ensures.counted)
    (counted-more (holders (take position pairs)) (holders (take (position + 1) pairs)) c.loop-position.counts.items pair.1 c.loop-position.invariant c.count_one.ensures.within
    (λ s. holders-more pairs position s pair at))
