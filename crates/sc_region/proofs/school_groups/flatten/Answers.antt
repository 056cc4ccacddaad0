use Rattle.std.proofs.Common.{◌≡◌, ◌<◌, ap, ◌∙◌, length, arith}
use Rattle.std.specs.Prelude.{slice_index}
use Rattle.std.proofs.lemmas.List.{get_or_read}
use Rattle.sc_region.proofs.Roots.{flat-more}
use Rattle.sc_region.proofs.school_groups.flatten.Goals as goal

pub loop-position-preserved : goal.loop-position-preserved
loop-position-preserved c =
    let old = c.args.parents.now.items in
    let now = c.loop-position.parents.items in
    let flat = c.loop-position.invariant in
    let at = c.loop-position.position in
    let x = c.index-parent.result.now in
    let y = c.index.result.now in
    let within : at < length old = omega (arith, c.loop-position-test.true, c.len-position-end.ensures, c.args.parents.now.ok.0) in
    let now_within : at < length now = omega (arith, within, flat.size) in
    let x_is : x ≡ slice_index now at = get_or_read now at x now_within c.index-parent.ensures 0 in
    let x_low : x < length now = omega (arith, x_is, flat.from at (omega arith), c.requires at, now_within) in
    let y_is : y ≡ slice_index now x = get_or_read now x y x_low c.index.ensures 0 in
    flat-more old now at y c.requires flat within (y_is ∙ ap (slice_index now) x_is)
