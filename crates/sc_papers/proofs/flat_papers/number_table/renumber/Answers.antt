use Rattle.std.proofs.Common.{◌<◌, get_or, length, ap, ◌∙◌, arith}
use Rattle.std.specs.Prelude.{slice_set}
use Rattle.std.proofs.lemmas.List.{get_or_default}
use Rattle.std.proofs.lemmas.List.Edits.{map_over_more}
use Rattle.sc_papers.specs.NumberTable.{moved}
use Rattle.sc_papers.proofs.flat_papers.number_table.renumber.Goals as goal

pub loop-position-preserved : goal.loop-position-preserved
loop-position-preserved c =
    let before = c.args.positions.now.items in
    let now = c.loop-position.position-items in
    let at = c.loop-position.position-index in
    let x = get_or now at 0 in
    let low : at < length before = omega (arith, c.loop-position-test.true, ap length c.deref_mut-position-items.ensures.value) in
    let within : at < length now = omega (arith, c.loop-position-test.true, c.loop-position.auto.position-items) in
    ap (slice_set now at) c.moved.ensures
    ∙ map_over_more (moved c.args.from c.args.to) before now at x low c.loop-position.invariant (get_or_default now at 0 x within)
