use Rattle.std.proofs.Common.{◌≡◌, map, take}
use Rattle.sc_ledgers.proofs.ledger.Ledger.of.Given as goal

abbrev pub invariant-loop-label : goal.invariant-loop-label
invariant-loop-label l = record {
  keys : l.keys.items ≡ map (λ label. label.key) (take l.label-index l.label-items);
  turns : l.turns.items ≡ map (λ label. label.turn) (take l.label-index l.label-items);
}
