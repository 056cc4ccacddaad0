use Rattle.std.proofs.Common.{◌≡◌, ◌∙◌, ap, sym, subst, map, take, List, arith}
use Rattle.std.proofs.lemmas.List.{take_all}
use Rattle.sc_ledgers.specs.Known.{labels_with, HasEachKey}
use Rattle.sc_ledgers.specs.declared.ledger.Label.{Label}
use Rattle.sc_ledgers.proofs.Listing.{kept-come, kept-parted, parted}
use Rattle.sc_ledgers.proofs.ledger.Ledger.of.Goals as goal
use Rattle.sc_ledgers.proofs.ledger.Ledger.of.Goals.{After-loop-label}

all : (c : After-loop-label) → take c.loop-label.label-index c.deref-label-items.result.now ≡ c.by_key-sorted.result.items
all c = take_all c.loop-label.label-index c.deref-label-items.result.now (omega (arith, c.loop-label-test.false)) ∙ c.deref-label-items.ensures.value

keys : (c : After-loop-label) → c.loop-label.keys.items ≡ map (λ label. label.key) c.by_key-sorted.result.items
keys c = c.loop-label.invariant.keys ∙ ap (map (λ (label : Label). label.key)) (all c)

turns : (c : After-loop-label) → c.loop-label.turns.items ≡ map (λ label. label.turn) c.by_key-sorted.result.items
turns c = c.loop-label.invariant.turns ∙ ap (map (λ (label : Label). label.turn)) (all c)

pub invariant_of-result : goal.invariant_of-result
invariant_of-result c = rw (keys c, turns c) (kept-parted c.by_key-sorted.result.items c.by_key-sorted.ensures.sorted)

pub returns : goal.returns
returns c =
    let step = (goal.at.returns c).After-loop-label in
    let labels : List Label = c.args.labels.items in
    let sorted : List Label = c.by_key-sorted.result.items in
    let is : labels_with c.loop-label.keys.items c.loop-label.turns.items ≡ sorted =
    (λ t. labels_with (keys step t) (turns step t)) ∙ parted sorted (kept-come labels sorted c.by_key-sorted.ensures.kept c.requires.turns) in
    subst (HasEachKey labels) (sym is) c.by_key-sorted.ensures.kept
