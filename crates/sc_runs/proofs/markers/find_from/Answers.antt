use Rattle.std.proofs.Common.{◌≡◌, ◌+◌, nat_eq, true, drop, length, subst, sym}
use Rattle.std.proofs.lemmas.List.{take_rest}
use Rattle.std.specs.List.{starts_with}
use Rattle.memchr.specs.Find.{IsFirst, Nowhere, NoneBefore, OccursAt}
use Rattle.sc_runs.proofs.Cutting.{found-first, found-none}
use Rattle.sc_runs.proofs.markers.find_from.Goals as goal

pub returns-in_err-ahead : goal.returns-in_err-ahead
returns-in_err-ahead c =
    subst (IsFirst (λ at. starts_with nat_eq (drop at c.args.bytes.now) c.args.marker.now ≡ true) c.args.start (length c.args.bytes.now)) (sym c.from_residual.ensures)
    (found-none c.args.marker.now c.args.bytes.now c.args.start c.requires
    (subst (λ hay. Nowhere (OccursAt hay c.args.marker.now) 0 (length hay + 1)) (take_rest c.args.bytes.now c.args.start) c.in_err-ahead.ensures))

pub returns : goal.returns
returns c = found-first c.args.marker.now c.args.bytes.now c.args.start c.in_ok-ahead.ahead c.requires
    (subst (λ hay. NoneBefore (OccursAt hay c.args.marker.now) 0 (length hay + 1) c.in_ok-ahead.ahead × OccursAt hay c.args.marker.now c.in_ok-ahead.ahead)
    (take_rest c.args.bytes.now c.args.start) c.in_ok-ahead.ensures)
