use Rattle.std.proofs.Common.{◌≡◌, ◌<◌, length, get_or, slice_get, Some, arith}
use Rattle.std.proofs.lemmas.Map.Entries.{length-keys_of}
use Rattle.std.proofs.lemmas.Option.{slice_get-get_or}
use Rattle.sc_papers.specs.Market.{schools_of}
use Rattle.sc_audit.specs.Tallies.{over_at}
use Rattle.sc_audit.proofs.Lessers.{least-more}
use Rattle.sc_audit.proofs.tallies.least_over.Goals as goal

pub loop-position-preserved : goal.loop-position-preserved
loop-position-preserved c = λ a are.
    let m = c.args.papers.now in
    let k = c.loop-position.position in
    let low : k < length (schools_of m) = omega (arith, c.loop-position-test.true, c.schools_len-position-end.ensures, length-keys_of m.schools) in
    let here : slice_get (schools_of m) k ≡ Some (get_or (schools_of m) k 0) = slice_get-get_or (schools_of m) k 0 low in
    least-more (schools_of m) (over_at m a) k (get_or (schools_of m) k 0) c.loop-position.least c.over_at.result c.lesser-least.result here
    (c.over_at.ensures a (get_or (schools_of m) k 0) are here) c.lesser-least.ensures (c.loop-position.invariant a are)
