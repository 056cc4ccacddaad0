-- What an offer does to the keys of a heap.
use Rattle.std.proofs.Common.{◌≡◌, refl, ap, sym, ◌∙◌, inl, inr, subst, ◌-◌, true, false, List, [], ◌∷◌, ◌++◌, ◌<◌, length, get_or, Option, Some, None, IfSome, Contains, All, slice_get, arith}
use Rattle.std.specs.Prelude.{IfNone}
use Rattle.std.specs.Option.{option_map_or}
use Rattle.std.proofs.lemmas.List.{get_or_default}
use Rattle.std.specs.List.Sorted.{IsPermutation}
use Rattle.std.proofs.lemmas.Bool.{cases_Bool, false_from_ne_true, true≢false}
use Rattle.std.proofs.lemmas.Bool.Decides.{nat_tests}
use Rattle.std.proofs.lemmas.List.Elements.{All-append, All-cons, All-contains, All-nil, Contains-append_left, Contains-append_right}
use Rattle.std.proofs.lemmas.List.Sorted.{IsPermutation-swap, IsPermutation-cons, IsPermutation-trans, IsPermutation-sym, All-permutation, Contains-permutation, length_permutation}
use Rattle.sc_papers.specs.Key.{is_before}
use Rattle.sc_papers.specs.declared.key.Key.{Key}
use Rattle.sc_papers.proofs.Counting.{contains-cons, contains-head, contains-tail}
use Rattle.sc_papers.specs.LastKey.{IsLastOf}
use Rattle.sc_seats.specs.Roll.{IsAscending, in_order}
use Rattle.sc_papers.proofs.Priority.{before-trans}
use Rattle.sc_seats.proofs.Ordering.{ties, ties-same, ties-self, before-apart, behind-apart, Differ, Differ-ascending, Differ-permutation, Differ-cons, Differ-head, Differ-tail, in_order-permutes, ascending-in_order, last-of}

pub length-in_order : (keys : List Key) → length (in_order keys) ≡ length keys
length-in_order keys = length_permutation keys (in_order keys) (in_order-permutes keys)

back : (keys : List Key) → IsPermutation (in_order keys) keys
back keys = IsPermutation-sym keys (in_order keys) (in_order-permutes keys)

differ-kept : (keys : List Key) → IsAscending (in_order keys) → Differ keys
differ-kept keys up = Differ-permutation (in_order keys) keys (back keys) (Differ-ascending (in_order keys) up)

differ-offered : (old : List Key) (key : Key) → IsAscending (in_order old) → (Contains (in_order old) key → ⊥) → Differ (key ∷ old)
differ-offered old key up new = Differ-cons key old (differ-kept old up) (λ among. new (Contains-permutation old (in_order old) key (in_order-permutes old) among))

-- a key is added
pub added-together : (old new : List Key) (key : Key) → IsPermutation (key ∷ old) new → IsPermutation (key ∷ in_order old) (in_order new)
added-together old new key moved =
    IsPermutation-trans (key ∷ in_order old) (key ∷ old) (in_order new) (IsPermutation-cons key (in_order old) old (back old))
    (IsPermutation-trans (key ∷ old) new (in_order new) moved (in_order-permutes new))

pub added-ascending : (old new : List Key) (key : Key) → IsAscending (in_order old) → (Contains (in_order old) key → ⊥) → IsPermutation (key ∷ old) new → IsAscending (in_order new)
added-ascending old new key up fresh moved = ascending-in_order new (Differ-permutation (key ∷ old) new moved (differ-offered old key up fresh))

-- a key is put in the place of the last
pub replaced-together : (old new : List Key) (key last : Key) → IsPermutation (key ∷ old) (last ∷ new) → IsPermutation (key ∷ in_order old) (last ∷ in_order new)
replaced-together old new key last moved =
    IsPermutation-trans (key ∷ in_order old) (key ∷ old) (last ∷ in_order new) (IsPermutation-cons key (in_order old) old (back old))
    (IsPermutation-trans (key ∷ old) (last ∷ new) (last ∷ in_order new) moved (IsPermutation-cons last new (in_order new) (in_order-permutes new)))

differ-replaced : (old new : List Key) (key last : Key) → IsAscending (in_order old) → (Contains (in_order old) key → ⊥) → IsPermutation (key ∷ old) (last ∷ new) → Differ (last ∷ new)
differ-replaced old new key last up fresh moved = Differ-permutation (key ∷ old) (last ∷ new) moved (differ-offered old key up fresh)

pub replaced-ascending : (old new : List Key) (key last : Key) → IsAscending (in_order old) → (Contains (in_order old) key → ⊥) → IsPermutation (key ∷ old) (last ∷ new) → IsAscending (in_order new)
replaced-ascending old new key last up fresh moved = ascending-in_order new (Differ-tail last new (differ-replaced old new key last up fresh moved))

both-behind : (a b : Key) → is_before a b ≡ false → is_before b a ≡ false → ties a b ≡ true
both-behind a b first second = grind (arith, nat_tests)

-- what is ahead of one that the last is not ahead of is ahead of the last
ahead-of_last : (key held last : Key) → is_before key held ≡ true → is_before last held ≡ false → is_before key last ≡ true
ahead-of_last key held last ahead behind = elim (cases_Bool (is_before held last)) [
  | inl before ↦ before-trans key held last ahead before
  | inr after ↦ subst (λ k. is_before key k ≡ true) (ties-same held last (both-behind held last after behind)) ahead
]

all-from : (P : Key → Type 0) (keys : List Key) → ((x : Key) → Contains keys x → P x) → All P keys
all-from P keys each k d low = each (get_or keys k d) (k, low, get_or_default keys k (get_or keys k d) d low)

pub replaced-last : (old new : List Key) (key last held : Key) → IsAscending (in_order old) → (Contains (in_order old) key → ⊥) → IsPermutation (key ∷ old) (last ∷ new) → All (λ x. is_before last x ≡ false) old → Contains old held → is_before key held ≡ true → All (λ x. is_before x last ≡ true) (in_order new)
replaced-last old new key last held up fresh moved greatest among ahead =
    all-from (λ x. is_before x last ≡ true) (in_order new) (λ x in_new.
    let in_heap : Contains new x = Contains-permutation (in_order new) new x (back new) in_new in
    elim (contains-cons key old x (Contains-permutation (last ∷ new) (key ∷ old) x (IsPermutation-sym (key ∷ old) (last ∷ new) moved) (contains-tail last new x in_heap))) [
      | inl is_key ↦ subst (λ k. is_before k last ≡ true) is_key (ahead-of_last key held last ahead (All-contains (λ y. is_before last y ≡ false) old held greatest among))
      | inr stayed ↦ behind-apart last x (All-contains (λ y. is_before last y ≡ false) old x greatest stayed) (Differ-head last new (differ-replaced old new key last up fresh moved) x in_heap)
    ])

-- a key that is ahead of none of the others is after them
pub refused-last : (old : List Key) (key : Key) → (Contains (in_order old) key → ⊥) → All (λ x. is_before key x ≡ false) old → All (λ x. is_before x key ≡ true) (in_order old)
refused-last old key fresh behind =
    all-from (λ x. is_before x key ≡ true) (in_order old) (λ x among.
    let in_heap : Contains old x = Contains-permutation (in_order old) old x (back old) among in
    behind-apart key x (All-contains (λ y. is_before key y ≡ false) old x behind in_heap)
    (elim (cases_Bool (ties key x)) [ inr apart ↦ apart | inl tie ↦ absurd (fresh (subst (Contains (in_order old)) (sym (ties-same key x tie)) among)) ]))

-- the last of the heap is the last in order
pub last-in_order : (keys : List Key) (last : Key) → IsAscending (in_order keys) → Contains keys last → All (λ x. is_before last x ≡ false) keys → slice_get (in_order keys) (length (in_order keys) - 1) ≡ Some last
last-in_order keys last up among greatest =
    last-of (in_order keys) last up (Contains-permutation keys (in_order keys) last (in_order-permutes keys) among)
    (All-permutation (λ x. is_before last x ≡ false) keys (in_order keys) (in_order-permutes keys) greatest)

-- the last leaves and another comes
pub replaced-heap : (old left new : List Key) (key last : Key) → IsPermutation old (last ∷ left) → IsPermutation (key ∷ left) new → IsPermutation (key ∷ old) (last ∷ new)
replaced-heap old left new key last out added =
    IsPermutation-trans (key ∷ old) (key ∷ last ∷ left) (last ∷ new) (IsPermutation-cons key old (last ∷ left) out)
    (IsPermutation-trans (key ∷ last ∷ left) (last ∷ key ∷ left) (last ∷ new) (IsPermutation-swap (key ∷ last ∷ left) (last ∷ key ∷ left) 0 1 (omega arith) (omega arith) refl)
    (IsPermutation-cons last (key ∷ left) new added))

-- the last, or none of none
pub worst-in_order : (keys : List Key) (last : Option Key) → IsAscending (in_order keys) → IfSome last (Contains keys) → IfSome last (λ x. All (λ y. is_before x y ≡ false) keys) → IfNone last (keys ≡ []) → last ≡ slice_get (in_order keys) (length (in_order keys) - 1)
worst-in_order keys None up among greatest none = ap (λ ks. slice_get (in_order ks) (length (in_order ks) - 1)) (sym none)
worst-in_order keys (Some x) up among greatest none = sym (last-in_order keys x up among greatest)

-- a key that is ahead of the last is ahead of one that is held
pub ahead-held : (last : Option Key) (keys : List Key) (key : Key) → IsLastOf last keys → option_map_or (is_before key) last false ≡ true → (held : Key) × Contains keys held × (is_before key held ≡ true)
ahead-held None keys key is never = absurd (true≢false (sym never))
ahead-held (Some last) keys key is ahead = (last, is.held, ahead)

-- a key that is not ahead of the last is ahead of none
pub behind-all : (last : Option Key) (keys : List Key) (key : Key) → IsLastOf last keys → option_map_or (is_before key) last false ≡ false → All (λ held. is_before key held ≡ false) keys
behind-all None keys key is behind = subst (All (λ held. is_before key held ≡ false)) (sym is.none) (all-from (λ held. is_before key held ≡ false) [] (λ x among. absurd (omega (arith, among.1))))
behind-all (Some last) keys key is behind =
    all-from (λ held. is_before key held ≡ false) keys (λ x among. false_from_ne_true (is_before key x)
    (λ ahead. absurd (true≢false (sym (ahead-of_last key x last ahead (All-contains (λ y. is_before last y ≡ false) keys x is.behind among)) ∙ behind))))

-- where all keys held are ahead of a key, it is not ahead of the last
pub behind-last : (last : Option Key) (keys : List Key) (key : Key) → IsLastOf last keys → All (λ held. is_before held key ≡ true) (in_order keys) → option_map_or (is_before key) last false ≡ false
behind-last last keys key is all = false_from_ne_true (option_map_or (is_before key) last false) (λ ahead.
    let (held, among, before) = ahead-held last keys key is ahead in
    let behind : is_before held key ≡ true = All-contains (λ x. is_before x key ≡ true) (in_order keys) held all (Contains-permutation keys (in_order keys) held (in_order-permutes keys) among) in
    true≢false (sym (ties-self key) ∙ before-apart key key (before-trans key held key before behind)))

-- a heap is made of the keys, and the last leaves it for another
pub heaped-together : (old heap new : List Key) (key last : Key) → IsPermutation old heap → IsPermutation (key ∷ heap) (last ∷ new) → IsPermutation (key ∷ old) (last ∷ new)
heaped-together old heap new key last made replaced =
    IsPermutation-trans (key ∷ old) (key ∷ heap) (last ∷ new) (IsPermutation-cons key old heap made) replaced

pub heaped-last : (old heap : List Key) (last : Key) → IsPermutation old heap → All (λ held. is_before last held ≡ false) heap → All (λ held. is_before last held ≡ false) old
heaped-last old heap last made = All-permutation (λ held. is_before last held ≡ false) heap old (IsPermutation-sym old heap made)

-- keys that have a last one are some, and so are those in which another stands in its place
pub some-held : (keys : List Key) (last : Key) → IsLastOf (Some last) keys → 0 < length keys
some-held keys last is = omega (arith, is.held.1)

pub some-replaced : (old new : List Key) (key out last : Key) → IsLastOf (Some last) old → IsPermutation (key ∷ old) (out ∷ new) → 0 < length new
some-replaced old new key out last is moved = omega (arith, some-held old last is, length_permutation (key ∷ old) (out ∷ new) moved)

-- no key is ahead of itself
before-itself : (key : Key) → is_before key key ≡ false
before-itself key = grind (arith, nat_tests)

only-last : (key : Key) → All (λ other. is_before key other ≡ false) (key ∷ [])
only-last key = All-cons (λ other. is_before key other ≡ false) key [] (before-itself key) (All-nil (λ other. is_before key other ≡ false))

-- a key that is appended is the last where the last so far is ahead of it
pub last-renewed : (keys : List Key) (key last : Key) → IsLastOf (Some last) keys → is_before last key ≡ true → IsLastOf (Some key) (keys ++ key ∷ [])
last-renewed keys key last is ahead = record {
  held = Contains-append_right keys (key ∷ []) key (contains-head key []);
  behind = All-append (λ other. is_before key other ≡ false) keys (key ∷ [])
      (all-from (λ other. is_before key other ≡ false) keys (λ x among. false_from_ne_true (is_before key x)
      (λ before. absurd (true≢false (sym (before-trans last key x ahead before) ∙ All-contains (λ other. is_before last other ≡ false) keys x is.behind among)))))
      (only-last key);
  none = tt;
}

-- and the last so far stays the last where it is not
pub last-stays : (keys : List Key) (key last : Key) → IsLastOf (Some last) keys → is_before last key ≡ false → IsLastOf (Some last) (keys ++ key ∷ [])
last-stays keys key last is behind = record {
  held = Contains-append_left keys (key ∷ []) last is.held;
  behind = All-append (λ other. is_before last other ≡ false) keys (key ∷ []) is.behind
      (All-cons (λ other. is_before last other ≡ false) key [] behind (All-nil (λ other. is_before last other ≡ false)));
  none = tt;
}
