-- Which schools are marked.
use Rattle.std.proofs.Common.{[], ◌∷◌, ◌++◌, ◌≡◌, inl, inr, ap, sym, subst, ◌∙◌, ℕ, Bool, ◌<◌, true, false, List, IfSome, length, get_or, set, nat_eq, position, Option, None, Some, OnOk, Ok, Err, Result}
use Rattle.std.proofs.lemmas.Bool.{cases_eq, false≢true}
use Rattle.std.proofs.lemmas.List.{get_or_default, get_or-set_other, get_or-set_same, length-set}
use Rattle.std.proofs.lemmas.List.Elements.{All-contains, Contains-append_left, Contains-append_right, Contains-push_cases}
use Rattle.sc_papers.proofs.Counting.{contains-head}
use Rattle.sc_papers.specs.Market.{Market, schools_of}
use Rattle.sc_ledgers.specs.Marks.{flag_at, marked_in, CoverFlags, Marking, MarksMore}

pub more-then : (a b c : Marking) → MarksMore a b → MarksMore b c → MarksMore a c
more-then a b c first then = record {
  still = λ p is. then.still p (first.still p is);
  one_each = then.one_each ∙ first.one_each;
  always = then.always ∙ first.always;
}

pub marked-still : (m : Market) (a b : Marking) → MarksMore a b → (s : ℕ) → marked_in m a.flags s ≡ true → marked_in m b.flags s ≡ true
marked-still m a b more s = go (position (nat_eq s) (schools_of m))
  where
    go : (at : Option ℕ) → flag_at a.flags at ≡ true → flag_at b.flags at ≡ true
    go None is = absurd (false≢true is)
    go (Some place) is = more.still place is

-- the school that is marked throughout is marked still
pub if-some-still : (always : Option ℕ) (a b : Marking) → MarksMore a b → IfSome always (λ p. get_or a.flags p false ≡ true) → IfSome always (λ p. get_or b.flags p false ≡ true)
if-some-still None a b more is = tt
if-some-still (Some p) a b more is = more.still p is

-- what three facts of a success show
pub on-ok-three : {T E A B C D : Type 0} (result : Result T E) → (A → B → C → D) → OnOk result A → OnOk result B → OnOk result C → OnOk result D
on-ok-three (Ok x) shows a b c = shows a b c
on-ok-three (Err e) shows a b c = tt

-- the last of the places is flagged no longer
pub cover-pop : (always : Option ℕ) (places : List ℕ) (p : ℕ) (flags : List Bool) → CoverFlags always (places ++ p ∷ []) flags → CoverFlags always places (set flags p false)
cover-pop always places p flags cover =
    let same : length flags ≡ length (set flags p false) = sym (length-set flags p false) in
    let low : p < length flags = All-contains (λ q. q < length flags) (places ++ p ∷ []) p cover.within (Contains-append_right places (p ∷ []) p (contains-head p [])) in
    record {
      flagged = λ q is. elim (cases_eq q p) [
        | inl it ↦ absurd (false≢true (sym (ap (λ r. get_or (set flags p false) r false) it ∙ get_or-set_same flags p false false low) ∙ is))
        | inr other ↦ elim (Contains-push_cases places p q (cover.flagged q (sym (get_or-set_other flags p q false false other) ∙ is))) [
          | inl before ↦ before
          | inr it ↦ absurd (other (sym it))
        ]
      ];
      within = λ k d inside.
          subst (λ n. get_or places k d < n) same
          (All-contains (λ q. q < length flags) (places ++ p ∷ []) (get_or places k d) cover.within (Contains-append_left places (p ∷ []) (get_or places k d) (k, inside, get_or_default places k (get_or places k d) d inside)));
      one = subst (λ n. IfSome always (λ q. q < n)) same cover.one;
    }
