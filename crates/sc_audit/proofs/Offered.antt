-- Offers: what joins the best keys, and what is out.
use Rattle.std.proofs.Common.{◌≡◌, inl, inr, refl, ap, sym, subst, ◌∙◌, ℕ, ◌<◌, ◌≤◌, true, false, List, ◌∷◌, length, Option, Some, None, Contains, All, arith}
use Rattle.std.specs.List.{list_all}
use Rattle.std.specs.List.Sorted.{IsPermutation}
use Rattle.std.specs.Option.{option_map_or}
use Rattle.std.proofs.lemmas.Bool.{cases_Bool, false_from_ne_true, true≢false}
use Rattle.std.proofs.lemmas.List.Elements.{All-contains}
use Rattle.std.proofs.lemmas.List.Sorted.{IsPermutation-refl, IsPermutation-swap, IsPermutation-cons, IsPermutation-trans, IsPermutation-sym, Contains-permutation, length_permutation}
use Rattle.std.proofs.lemmas.List.Sums.{AllPass-from_list_all, list_all-from_AllPass}
use Rattle.sc_papers.specs.Key.{is_before}
use Rattle.sc_papers.specs.declared.key.Key.{Key}
use Rattle.sc_papers.proofs.Counting.{contains-cons, contains-tail}
use Rattle.sc_papers.proofs.Priority.{before-asymm, before-trans, one-key}
use Rattle.sc_papers.specs.LastKey.{IsLastOf}
use Rattle.sc_audit.specs.Offers.{Offers}
use Rattle.sc_audit.proofs.Keeping.{both-ways}
use Rattle.sc_audit.proofs.Tables.{all-from}

-- where there is room, nobody is out
pub offered-room : (old new : List Key) (seats : ℕ) (key : Key) → length old < seats → IsPermutation (key ∷ old) new → Offers old seats key new None
offered-room old new seats key room added = record {
  together = added;
  last = tt;
  full = λ some. absurd (cc some);
  within = omega (arith, room, length_permutation (key ∷ old) new added);
}

-- what the last is not ahead of is ahead of what the last is ahead of
from-last : (last x key : Key) → is_before last x ≡ false → is_before last key ≡ true → is_before x key ≡ true
from-last last x key behind ahead = elim (cases_Bool (is_before x last)) [
  | inl before ↦ before-trans x last key before ahead
  | inr after ↦ subst (λ k. is_before k key ≡ true) (one-key last x behind after) ahead
]

-- what is ahead of one that the last is not ahead of is ahead of the last
to-last : (key x last : Key) → is_before key x ≡ true → is_before last x ≡ false → is_before key last ≡ true
to-last key x last ahead behind = elim (cases_Bool (is_before x last)) [
  | inl before ↦ before-trans key x last ahead before
  | inr after ↦ subst (λ k. is_before key k ≡ true) (one-key x last after behind) ahead
]

-- a key that is not ahead of the last is ahead of none
behind-all : (last : Option Key) (keys : List Key) (key : Key) → IsLastOf last keys → option_map_or (is_before key) last false ≡ false → All (λ kept. is_before key kept ≡ false) keys
behind-all None keys key is behind = subst (All (λ kept. is_before key kept ≡ false)) (sym is.none) (λ k d low. absurd (omega (arith, low)))
behind-all (Some last) keys key is behind =
    all-from (λ kept. is_before key kept ≡ false) keys (λ x among. false_from_ne_true (is_before key x)
    (λ ahead. absurd (true≢false (sym (to-last key x last ahead (All-contains (λ y. is_before last y ≡ false) keys x is.behind among)) ∙ behind))))

-- then it is out
pub offered-refused : (old : List Key) (seats : ℕ) (key : Key) (last : Option Key) → IsLastOf last old → option_map_or (is_before key) last false ≡ false → length old ≤ seats → seats ≤ length old → Offers old seats key old (Some key)
offered-refused old seats key last is behind within full = record {
  together = IsPermutation-refl (key ∷ old);
  last = behind-all last old key is behind;
  full = λ some. full;
  within = within;
}

-- a key that is ahead of the last
record Reached (keys : List Key) (key : Key) : Type 0 where
  held : Key
  among : Contains keys held
  ahead : is_before key held ≡ true

reached : (last : Option Key) (keys : List Key) (key : Key) → IsLastOf last keys → option_map_or (is_before key) last false ≡ true → Reached keys key
reached None keys key is never = absurd (true≢false (sym never))
reached (Some last) keys key is ahead = record { held = last; among = is.held; ahead = ahead }

-- then the last is out
pub offered-replaced : (old new : List Key) (seats : ℕ) (key out : Key) (last : Option Key) → IsLastOf last old → option_map_or (is_before key) last false ≡ true → length old ≤ seats → seats ≤ length old → IsPermutation (key ∷ old) (out ∷ new) → All (λ kept. is_before out kept ≡ false) old → Offers old seats key new (Some out)
offered-replaced old new seats key out last is ahead within full together behind =
    let met : Reached old key = reached last old key is ahead in
    let before : is_before key out ≡ true = to-last key met.held out met.ahead (All-contains (λ y. is_before out y ≡ false) old met.held behind met.among) in
    record {
      together = together;
      last = all-from (λ kept. is_before out kept ≡ false) new (λ x among.
          elim (contains-cons key old x (Contains-permutation (out ∷ new) (key ∷ old) x (IsPermutation-sym (key ∷ old) (out ∷ new) together) (contains-tail out new x among))) [
            | inl same ↦ subst (λ k. is_before out k ≡ false) same (before-asymm key out before)
            | inr stayed ↦ All-contains (λ y. is_before out y ≡ false) old x behind stayed
          ]);
      full = λ some. omega (arith, full, length_permutation (key ∷ old) (out ∷ new) together);
      within = omega (arith, within, length_permutation (key ∷ old) (out ∷ new) together);
    }

-- whether all keys are ahead of one
pub all-ahead : (last : Option Key) (keys : List Key) (key : Key) → IsLastOf last keys → option_map_or (λ x. is_before x key) last true ≡ list_all (λ kept. is_before kept key) keys
all-ahead None keys key is = ap (list_all (λ kept. is_before kept key)) (sym is.none)
all-ahead (Some last) keys key is = both-ways (is_before last key) (list_all (λ kept. is_before kept key) keys)
    (λ ahead. list_all-from_AllPass (λ kept. is_before kept key) keys (all-from (λ kept. is_before kept key ≡ true) keys (λ x among. from-last last x key (All-contains (λ y. is_before last y ≡ false) keys x is.behind among) ahead)))
    (λ all. All-contains (λ kept. is_before kept key ≡ true) keys last (AllPass-from_list_all (λ kept. is_before kept key) keys all) is.held)

-- the last leaves and another comes
pub replaced-together : (old left new : List Key) (key last : Key) → IsPermutation old (last ∷ left) → IsPermutation (key ∷ left) new → IsPermutation (key ∷ old) (last ∷ new)
replaced-together old left new key last out added =
    IsPermutation-trans (key ∷ old) (key ∷ last ∷ left) (last ∷ new) (IsPermutation-cons key old (last ∷ left) out)
    (IsPermutation-trans (key ∷ last ∷ left) (last ∷ key ∷ left) (last ∷ new) (IsPermutation-swap (key ∷ last ∷ left) (last ∷ key ∷ left) 0 1 (omega arith) (omega arith) refl)
    (IsPermutation-cons last (key ∷ left) new added))
