use Rattle.std.proofs.Common.{◌≡◌, ℕ, ◌-◌, ◌==◌, Some, slice_get, take, arith, refl, rules, subst, sym}
use Rattle.std.proofs.lemmas.Bool.{cond-true, eq-eqb}
use Rattle.sc_papers.specs.Assignment.{holders}
use Rattle.sc_repair.specs.Places.{AreCountsBy}
use Rattle.sc_repair.proofs.Counts.{counted-less, holders-last}
use Rattle.sc_repair.proofs.places.uncount_from.Goals as goal

pub uncount_one-requires-clause-some : goal.uncount_one-requires-clause-some
uncount_one-requires-clause-some c low =
    let pairs = c.args.assignment.now in
    let pair = c.in-Some.pair in
    let at : slice_get pairs (c.loop-left.left - 1) ≡ Some pair = search rules in
    let one = cond-true {A = ℕ} (pair.1 == pair.1) 1 0 (eq-eqb pair.1 pair.1 refl) in
    omega (arith, one, holders-last pairs c.loop-left.left pair pair.1 (omega (arith, c.loop-left-test.true)) at, c.loop-left.invariant.2.each pair.1 low)

pub loop-left-preserved : goal.loop-left-preserved
loop-left-preserved c =
    let pairs = c.args.assignment.now in
    let left = c.loop-left.left in
    let pair = c.in-Some.pair in
    let at : slice_get pairs (left - 1) ≡ Some pair = search rules in (
      omega (arith, c.loop-left-test.true),
      omega (arith, c.loop-left.invariant.1),
      subst (AreCountsBy (holders (take (left - 1) pairs))) (sym c.uncount_one.ensures.counted)
          (counted-less (holders (take left pairs)) (holders (take (left - 1) pairs)) c.loop-left.counts.items pair.1 c.loop-left.invariant.2 c.uncount_one.ensures.within
          (λ s. holders-last pairs left pair s (omega (arith, c.loop-left-test.true)) at)),
    )
