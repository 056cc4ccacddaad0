use Rattle.std.proofs.Common.{◌<◌, ap, sym, ◌∙◌, length, map, arith}
use Rattle.std.specs.Prelude.{slice_set}
use Rattle.std.specs.Vec.{with_items}
use Rattle.std.proofs.lemmas.List.{with_items_is}
use Rattle.std.proofs.lemmas.List.Edits.{map_over_more}
use Rattle.sc_ledgers.specs.Left.{label_without}
use Rattle.sc_ledgers.proofs.Leavers.{labels-without, map-over-all}
use Rattle.sc_ledgers.proofs.leaving.leave_each.Goals as goal

pub loop-ledger-preserved : goal.loop-ledger-preserved
loop-ledger-preserved c =
    let before = c.deref_mut-ledger-items.result.now in
    let now = c.loop-ledger.ledger-items in
    let at = c.loop-ledger.ledger-index in
    let low : at < length before = omega (arith, c.loop-ledger-test.true) in
    ap (slice_set now at) (c.leave.ensures ∙ ap (map (label_without c.args.position)) (sym c.ledger-item.is))
    ∙ map_over_more (map (label_without c.args.position)) before now at c.ledger-item.result low c.loop-ledger.invariant c.ledger-item.is

pub returns-clause-without : goal.returns-clause-without
returns-clause-without c m =
    let before = c.deref_mut-ledger-items.result.now in
    let now = c.loop-ledger.ledger-items in
    labels-without m c.args.position c.args.ledgers.now.items (with_items c.args.ledgers.now now).items
    (with_items_is c.args.ledgers.now now (omega (arith, c.loop-ledger.auto.ledger-items, ap length c.deref_mut-ledger-items.ensures.value))
    ∙ map-over-all (map (label_without c.args.position)) before now c.loop-ledger.ledger-index (omega (arith, c.loop-ledger-test.false)) c.loop-ledger.invariant
    ∙ ap (map (map (label_without c.args.position))) c.deref_mut-ledger-items.ensures.value)
