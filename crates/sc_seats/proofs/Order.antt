-- The order of keys, and ascending lists of them.
use Rattle.std.proofs.Common.{◌≡◌, inl, inr, refl, ap, sym, ◌∙◌, subst, ℕ, zero, suc, ◌<◌, ◌≤◌, ◌-◌, true, List, [], ◌∷◌, ◌++◌, length, get_or, slice_get, Some, All, arith}
use Rattle.std.specs.List.{insert}
use Rattle.std.specs.Ordering.{ordering_index}
use Rattle.std.specs.declared.cmp.Ordering.TheVariants.{Less, Greater}
use Rattle.std.proofs.lemmas.Bool.{cases_lt}
use Rattle.std.proofs.lemmas.Bool.Decides.{nat_tests}
use Rattle.std.proofs.lemmas.Option.{get_or_from_slice_get, slice_get_within}
use Rattle.std.proofs.lemmas.List.Elements.{All-cons, All-head, All-tail, All-nil, All-pop}
use Rattle.sc_papers.specs.Key.{is_before, key_cmp}
use Rattle.sc_papers.specs.declared.key.Key.{Key}
use Rattle.sc_papers.proofs.Priority.{before-trans}
use Rattle.sc_seats.specs.Roll.{IsAscending}

pub before-from_less : (a b : Key) → key_cmp a b ≡ Less → is_before a b ≡ true
before-from_less a b less = grind (arith, nat_tests)

pub before-from_greater : (a b : Key) → key_cmp a b ≡ Greater → is_before b a ≡ true
before-from_greater a b greater = grind (arith, nat_tests)

pub index-rises : (a b x : Key) → is_before a b ≡ true → ordering_index (key_cmp a x) ≤ ordering_index (key_cmp b x)
index-rises a b x ahead = grind (arith, nat_tests)

-- of two places the first holds the key ahead
pub ascending-places : (keys : List Key) (i j : ℕ) (d : Key) → IsAscending keys → i < j → j < length keys → is_before (get_or keys i d) (get_or keys j d) ≡ true
ascending-places [] i j d up below here = absurd (omega (arith, here))
ascending-places (key ∷ keys) zero zero d up below here = absurd (omega (arith, below))
ascending-places (key ∷ keys) zero (suc j) d up below here = up.0 j d (omega (arith, here))
ascending-places (key ∷ keys) (suc i) zero d up below here = absurd (omega (arith, below))
ascending-places (key ∷ keys) (suc i) (suc j) d up below here = ascending-places keys i j d up.1 (omega (arith, below)) (omega (arith, here))

-- what is so of each key and of one more is so after it is put in
pub All-insert : (P : Key → Type 0) (keys : List Key) (i : ℕ) (key : Key) → All P keys → P key → All P (insert keys i key)
All-insert P keys zero key all one = All-cons P key keys one all
All-insert P [] (suc i) key all one = All-cons P key [] one (All-nil P)
All-insert P (first ∷ keys) (suc i) key all one =
    All-cons P first (insert keys i key) (All-head P first keys all) (All-insert P keys i key (All-tail P first keys all) one)

-- a key put in behind those ahead of it and ahead of the others
pub ascending-insert : (keys : List Key) (i : ℕ) (key : Key) → IsAscending keys → ((k : ℕ) (d : Key) → k < i → k < length keys → is_before (get_or keys k d) key ≡ true) → ((k : ℕ) (d : Key) → i ≤ k → k < length keys → is_before key (get_or keys k d) ≡ true) → IsAscending (insert keys i key)
ascending-insert keys zero key up ahead behind = ((λ k d here. behind k d (omega arith) here), up)
ascending-insert [] (suc i) key up ahead behind = (All-nil (λ later. is_before key later ≡ true), tt)
ascending-insert (first ∷ keys) (suc i) key up ahead behind = (
  All-insert (λ later. is_before first later ≡ true) keys i key up.0 (ahead 0 first (omega arith) (omega arith)),
  ascending-insert keys i key up.1 (λ k d low here. ahead (suc k) d (omega (arith, low)) (omega (arith, here))) (λ k d high here. behind (suc k) d (omega (arith, high)) (omega (arith, here))),
)

-- the last of an ascending list is behind the others, which ascend
pub ascending-front : (keys : List Key) (last : Key) → IsAscending (keys ++ last ∷ []) → IsAscending keys × All (λ held. is_before held last ≡ true) keys
ascending-front [] last up = (tt, All-nil (λ held. is_before held last ≡ true))
ascending-front (first ∷ keys) last up =
    let rest = ascending-front keys last up.1 in
    let parts = All-pop (λ later. is_before first later ≡ true) (keys ++ last ∷ []) keys (Some last) refl up.0 in
    ((parts.0, rest.0), All-cons (λ held. is_before held last ≡ true) first keys parts.1 rest.1)

-- where the last of an ascending list is ahead of a key, all are
pub all-ahead : (keys : List Key) (last key : Key) → IsAscending keys → slice_get keys (length keys - 1) ≡ Some last → is_before last key ≡ true → All (λ held. is_before held key ≡ true) keys
all-ahead keys last key up here ahead k d low =
    let is_last : get_or keys (length keys - 1) d ≡ last = get_or_from_slice_get keys (length keys - 1) last d here in
    elim (cases_lt k (length keys - 1)) [
      | inl earlier ↦
          before-trans (get_or keys k d) last key
          (subst (λ x. is_before (get_or keys k d) x ≡ true) is_last (ascending-places keys k (length keys - 1) d up earlier (omega (arith, low)))) ahead
      | inr past ↦
          let same : k ≡ length keys - 1 = omega (arith, past, low) in
          ap (λ n. is_before (get_or keys n d) key) same ∙ ap (λ x. is_before x key) is_last ∙ ahead
    ]

-- and where all are, the last is
pub last-ahead : (keys : List Key) (last key : Key) → slice_get keys (length keys - 1) ≡ Some last → All (λ held. is_before held key ≡ true) keys → is_before last key ≡ true
last-ahead keys last key here all =
    ap (λ x. is_before x key) (sym (get_or_from_slice_get keys (length keys - 1) last last here))
    ∙ all (length keys - 1) last (slice_get_within keys (length keys - 1) last here)
