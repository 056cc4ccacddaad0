use Rattle.std.proofs.Common.{rules, ◌≡◌, sym, subst, List}
use Rattle.std.specs.List.{dedup}
use Rattle.std.specs.Cmp.Rules.{comparing}
use Rattle.std.proofs.lemmas.Fn.{dedup_same}
use Rattle.std.proofs.lemmas.List.Sorted.{answers_always}
use Rattle.sc_ledgers.specs.Known.{HasEachKey, IsByKey}
use Rattle.sc_ledgers.specs.declared.ledger.Label.{Label}
use Rattle.sc_ledgers.proofs.Keying.{by_key-dedup, keys-dedup, same-key}
use Rattle.sc_ledgers.proofs.ledger.by_key.Goals as goal

pub returns : goal.returns
returns c =
    let labels : List Label = c.args.labels.items in
    let sorted : List Label = c.sort_unstable_by_key.new.self.items in
    let dropped : c.dedup_by_key.new.self.items ≡ dedup same-key sorted = dedup_same _ same-key _ (λ x y b f' x' y' k. search (rules, comparing)) _ _ c.dedup_by_key.ensures.filtered in
    record {
      sorted = subst IsByKey (sym dropped) (by_key-dedup sorted (c.sort_unstable_by_key.ensures.sorted (λ label. label.key) (answers_always _ _ _ (λ f a r g called. search rules))));
      kept = subst (HasEachKey labels) (sym dropped) (keys-dedup labels sorted c.sort_unstable_by_key.ensures.permutation);
    }
