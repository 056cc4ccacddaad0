use Rattle.std.proofs.Common.{◌<◌, ◌∙◌, ap, get_or, length, map, arith}
use Rattle.std.specs.Prelude.{slice_set}
use Rattle.std.proofs.lemmas.List.{get_or_default, with_items_is}
use Rattle.std.proofs.lemmas.List.Edits.{map_over_more}
use Rattle.sc_ledgers.specs.Known.{labels_with}
use Rattle.sc_ledgers.specs.Left.{kept_without, label_without}
use Rattle.sc_ledgers.proofs.Leavers.{map-over-all}
use Rattle.sc_ledgers.proofs.Listing.{labels-left}
use Rattle.sc_ledgers.proofs.ledger.Ledger.leave.Goals as goal

pub loop-turn-preserved : goal.loop-turn-preserved
loop-turn-preserved c =
    let before = c.deref_mut-turn-items.result.now in
    let now = c.loop-turn.turn-items in
    let at = c.loop-turn.turn-index in
    let low : at < length before = omega (arith, c.loop-turn-test.true) in
    let here : at < length now = omega (arith, low, c.loop-turn.auto.turn-items) in
    ap (slice_set now at) c.turn_without.ensures
    ∙ map_over_more (kept_without c.args.position) before now at (get_or now at 0) low c.loop-turn.invariant (get_or_default now at 0 (get_or now at 0) here)

pub returns : goal.returns
returns c =
    let keys = c.self.inside.keys.items in
    let now = c.loop-turn.turn-items in
    let passed = map-over-all (kept_without c.args.position) c.deref_mut-turn-items.result.now now c.loop-turn.turn-index (omega (arith, c.loop-turn-test.false)) c.loop-turn.invariant in
    ap (labels_with keys) (with_items_is c.self.inside.turns now (omega (arith, c.loop-turn.auto.turn-items, ap length c.deref_mut-turn-items.ensures.value))
    ∙ passed ∙ ap (map (kept_without c.args.position)) c.deref_mut-turn-items.ensures.value)
    ∙ labels-left c.args.position keys c.self.inside.turns.items
    ∙ ap (map (label_without c.args.position)) c.self.view_is
