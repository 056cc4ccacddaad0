-- What an offer does to the keys of a sorted roll.
use Rattle.std.proofs.Common.{◌≡◌, ap, sym, ◌∙◌, subst, ℕ, ◌<◌, ◌≤◌, true, List, ◌∷◌, ◌++◌, length, get_or, Option, None, Some, All, IfSome, append-nil, arith}
use Rattle.std.specs.List.{insert}
use Rattle.std.specs.List.Sorted.{IsPermutation, IsNonDecreasingBy}
use Rattle.std.specs.Option.{option_to_list}
use Rattle.std.specs.Ordering.{ordering_index}
use Rattle.std.proofs.lemmas.Bool.{cases_order}
use Rattle.std.proofs.Common.{inl, inr}
use Rattle.std.proofs.lemmas.List.Sorted.{IsPermutation-insert, IsPermutation-trans, IsPermutation-append_comm}
use Rattle.sc_papers.specs.Key.{is_before, key_cmp}
use Rattle.sc_papers.specs.declared.key.Key.{Key}
use Rattle.sc_seats.specs.Roll.{IsAscending}
use Rattle.sc_seats.proofs.Order.{index-rises, ascending-places, ascending-front, ascending-insert}

-- against any key, the keys of an ascending list rise
pub ascending-searchable : (keys : List Key) (x : Key) → IsAscending keys → IsNonDecreasingBy (λ y. ordering_index (key_cmp y x)) keys
ascending-searchable keys x up i j d not_after here =
    elim (cases_order i j) [
      | inl same ↦ let at = ap (λ k. ordering_index (key_cmp (get_or keys k d) x)) same in omega arith
      | inr (inl below) ↦ index-rises (get_or keys i d) (get_or keys j d) x (ascending-places keys i j d up below here)
      | inr (inr above) ↦ absurd (omega arith)
    ]

-- nothing is lost
pub IsPermutation-offered : (old new : List Key) (key : Key) (place : ℕ) (out : Option Key) → insert old place key ≡ new ++ option_to_list out → IsPermutation (key ∷ old) (option_to_list out ++ new)
IsPermutation-offered old new key place out popped =
    IsPermutation-trans (key ∷ old) (insert old place key) (option_to_list out ++ new) (IsPermutation-insert old place key)
    (subst (λ xs. IsPermutation xs (option_to_list out ++ new)) (sym popped) (IsPermutation-append_comm new (option_to_list out)))

-- what leaves is the last, and what stays ascends
pub ascending-popped : (new : List Key) (out : Option Key) → IsAscending (new ++ option_to_list out) → IsAscending new × IfSome out (λ worst. All (λ held. is_before held worst ≡ true) new)
ascending-popped new None up = (subst IsAscending (append-nil new) up, tt)
ascending-popped new (Some worst) up = ascending-front new worst up

-- what an offer did
pub record Offered (old new : List Key) (key : Key) (out : Option Key) : Type 0 where
  pub together : IsPermutation (key ∷ old) (option_to_list out ++ new)
  pub ascending : IsAscending new
  pub last : IfSome out (λ worst. All (λ held. is_before held worst ≡ true) new)

-- a key is put in at its place, and then the last may leave
pub Offered-sorted : (old seen put new : List Key) (key : Key) (place : ℕ) (out : Option Key) → IsAscending old → seen ≡ old
    → ((k : ℕ) (d : Key) → k < place → is_before (get_or seen k d) key ≡ true)
    → ((k : ℕ) (d : Key) → place ≤ k → k < length seen → is_before key (get_or seen k d) ≡ true)
    → put ≡ insert old place key → put ≡ new ++ option_to_list out → Offered old new key out
Offered-sorted old seen put new key place out up same ahead behind is_put is_out =
    let popped : insert old place key ≡ new ++ option_to_list out = sym is_put ∙ is_out in
    let up_seen : IsAscending seen = subst IsAscending (sym same) up in
    let up_put : IsAscending (insert old place key) = subst (λ xs. IsAscending (insert xs place key)) same (ascending-insert seen place key up_seen (λ k d low here. ahead k d low) behind) in
    let after = ascending-popped new out (subst IsAscending popped up_put) in
    record {
      together = IsPermutation-offered old new key place out popped;
      ascending = after.0;
      last = after.1;
    }
