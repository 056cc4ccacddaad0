use Rattle.std.proofs.Common.{◌≡◌, ◌<◌, sym, ◌∙◌, length, length-set, set, arith}
use Rattle.std.specs.Prelude.{slice_index}
use Rattle.std.proofs.lemmas.List.{get_or_read}
use Rattle.sc_region.proofs.Roots.{climb-step, root-fixed}
use Rattle.sc_region.proofs.school_groups.find_root.Goals as goal

pub climb-preserved : goal.climb-preserved
climb-preserved c =
    let before = c.climb.invariant in
    let now = c.climb.parents.items in
    let at = c.climb.at in
    let x = c.index-parent.result.now in
    let y = c.index-in-climb.result.now in
    let z = c.index-at.result.now in
    let x_is : x ≡ slice_index now at = get_or_read now at x before.1 c.index-parent.ensures 0 in
    let x_low : x < length now = omega (arith, x_is, before.0.low at, before.1) in
    let y_is : y ≡ slice_index now x = get_or_read now x y x_low c.index-in-climb.ensures 0 in
    let at_low : at < length (set now at y) = omega (arith, before.1, length-set now at y) in
    let z_is : z ≡ slice_index (set now at y) at = get_or_read (set now at y) at z at_low c.index-at.ensures 0 in
    let step = climb-step c.args.parents.now.items now at x y z before.0 before.1 x_is y_is z_is in
    (step.0, step.1, step.2 ∙ before.2)

pub returns-clause-root : goal.returns-clause-root
returns-clause-root c =
    let before = c.climb.invariant in
    let now = c.climb.parents.items in
    let at = c.climb.at in
    let own : slice_index now at ≡ at = sym (get_or_read now at c.index.result.now before.1 c.index.ensures 0) ∙ c.climb-test.false in
    sym (root-fixed now before.0.low at own) ∙ before.0.roots at ∙ before.2
