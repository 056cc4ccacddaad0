-- Labels that come in any order, put by their keys, one of each.
use Rattle.std.proofs.Common.{◌≡◌, sym, List, [], ◌∷◌, Bool}
use Rattle.std.specs.Cmp.{eq_by_cmp_equiv, nat_cmp_total, on_total, then_total, Equal-is, IsTotalOrder}
use Rattle.std.specs.List.{dedup}
use Rattle.std.specs.List.Sorted.{IsPermutation, IsSorted, IsStrictlySortedBy}
use Rattle.std.specs.Ordering.{eq_by_cmp}
use Rattle.std.specs.declared.cmp.Ordering.{Ordering}
use Rattle.std.specs.declared.cmp.Ordering.TheVariants.{Less}
use Rattle.std.proofs.lemmas.List.Elements.{All-from_recursion}
use Rattle.std.proofs.lemmas.List.Kept.{Any-dedup, Contains-from_dedup, IsStrictlySortedBy-dedup}
use Rattle.std.proofs.lemmas.List.Sorted.{Contains-permutation, IsPermutation-sym}
use Rattle.sc_papers.specs.Key.{key_cmp}
use Rattle.sc_papers.specs.declared.key.Key.{Key}
use Rattle.sc_papers.proofs.Priority.{cmp-equal}
use Rattle.sc_seats.proofs.Order.{before-from_less}
use Rattle.sc_ledgers.specs.Known.{HasEachKey, IsByKey}
use Rattle.sc_ledgers.specs.declared.ledger.Label.{Label}

-- how two labels stand by their keys, and whether these are one
abbrev pub key-order : Label → Label → Ordering
key-order a b = key_cmp a.key b.key

abbrev pub same-key : Label → Label → Bool
same-key = eq_by_cmp key-order

order-total : IsTotalOrder key-order
order-total =
    on_total (λ (label : Label). label.key)
    (then_total (on_total (λ (key : Key). key.class) nat_cmp_total)
    (then_total (on_total (λ (key : Key). key.draw) nat_cmp_total) (on_total (λ (key : Key). key.student) nat_cmp_total)))

-- sorted, and of each key one kept, each is ahead of every later one
strictly : (labels : List Label) → IsStrictlySortedBy key-order labels → IsByKey labels
unfolding IsStrictlySortedBy
strictly [] up = tt
strictly (label ∷ labels) up = (
  λ j d low. before-from_less label.key _ (All-from_recursion (λ later. key-order label later ≡ Less) labels up.0 j d low),
  strictly labels up.1,
)

pub by_key-dedup : (labels : List Label) → IsSorted key-order labels → IsByKey (dedup same-key labels)
by_key-dedup labels sorted = strictly (dedup same-key labels) (IsStrictlySortedBy-dedup order-total (λ x y t. same-key x y) labels sorted)

-- and no label's key is lost
pub keys-dedup : (labels sorted : List Label) → IsPermutation labels sorted → HasEachKey labels (dedup same-key sorted)
keys-dedup labels sorted moved = record {
  only = λ label here. Contains-permutation sorted labels label (IsPermutation-sym labels sorted moved) (Contains-from_dedup same-key sorted label here);
  each = λ label here.
      let (k, other, low, is, same) = Any-dedup (eq_by_cmp_equiv order-total) sorted label (Contains-permutation labels sorted label moved here) in
      (other, (k, low, is), sym ((cmp-equal label.key other.key).0 ((Equal-is (key-order label other)).0 same)));
}
