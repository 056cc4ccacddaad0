-- Keys gathered by school, student by student and choice by choice.
use Rattle.std.proofs.Common.{◌≡◌, refl, sym, ◌∙◌, ap, subst, inl, inr, ℕ, ◌+◌, ◌<◌, ◌≤◌, ◌==◌, ◌||◌, nat_eq, Bool, true, false, cond, not, List, [], ◌∷◌, ◌++◌, append-nil, length, filter, get_or, map, replicate, set, take, Option, Some, None, unwrap_or, position, slice_get, Vec, Global, arith}
use Rattle.std.specs.List.{list_any, position_or_len}
use Rattle.std.specs.Prelude.{nat_lt}
use Rattle.std.proofs.lemmas.Bool.{cases_Bool, cases_lt, cond-true, cond-false, eqb-true, eq-eqb, false≢true, lt-ltb, ne_eqb}
use Rattle.std.proofs.lemmas.Bool.Decides.{nat_tests}
use Rattle.std.proofs.lemmas.List.{get_or-replicate, get_or-set_other, get_or-set_same, get_or-take, get_or-map, length-map, length-replicate, length-set, length-take, map-append, map-set, replicate-append-replicate}
use Rattle.std.proofs.lemmas.List.Elements.{filter-append}
use Rattle.std.proofs.lemmas.List.Folds.{list_any_none}
use Rattle.std.proofs.lemmas.List.Sums.{prefix_len-le-length}
use Rattle.std.proofs.lemmas.Map.Entries.{length-keys_of}
use Rattle.std.proofs.lemmas.Option.{same_Some, slice_get-get_or}
use Rattle.sc_papers.specs.Key.{key_of}
use Rattle.sc_papers.specs.Market.{Market, choices_of, schools_of}
use Rattle.sc_papers.specs.WellFormed.{WellFormed}
use Rattle.sc_papers.specs.declared.key.Key.{Key}
use Rattle.sc_papers.proofs.Choices.{one-place}
use Rattle.sc_papers.proofs.Positions.{position-at, position-one}
use Rattle.sc_papers.proofs.Rejections.{any-push}
use Rattle.sc_papers.proofs.Students.{choices-differ}
use Rattle.sc_tallies.proofs.Tallying.{take-one}
use Rattle.sc_notices.specs.Admissions.{keys_passing}
use Rattle.sc_notices.specs.Explanation.{is_given}
use Rattle.sc_notices.specs.KeyLists.{AddsKeys, AreKeyLists, keys_in}

or-false : (b : Bool) → (b || false) ≡ b
or-false true = refl
or-false false = refl

-- the keys of the first students who pass, and that of one more
passing-more : (m : Market) (p : ℕ → Bool) (students : List ℕ) (k i s : ℕ) → slice_get students k ≡ Some i
    → keys_passing m p (take (k + 1) students) s ≡ keys_passing m p (take k students) s ++ cond (p i) (key_of m i s ∷ []) []
passing-more m p students k i s here =
    ap (λ xs. map key (filter p xs)) (take-one students k i here)
    ∙ ap (map key) (filter-append p (take k students) (i ∷ []))
    ∙ map-append key (filter p (take k students)) (filter p (i ∷ []))
    ∙ ap (λ more. map key (filter p (take k students)) ++ more) (one (p i))
  where
    key : ℕ → Key
    key j = key_of m j s

    one : (b : Bool) → map key (cond b (i ∷ []) []) ≡ cond b (key_of m i s ∷ []) []
    one true = refl
    one false = refl

-- the lists of the first students, and of one more
pub lists-more : (m : Market) (passes : ℕ → ℕ → Bool) (test : ℕ → Bool) (students : List ℕ) (k i : ℕ) (old new : List (List Key)) → slice_get students k ≡ Some i
    → ((s : ℕ) → test s ≡ passes s i) → AreKeyLists m passes (take k students) old → AddsKeys m i test old new → AreKeyLists m passes (take (k + 1) students) new
lists-more m passes test students k i old new here same before added = record {
  one_each = added.one_each ∙ before.one_each;
  keys = λ s at found.
      added.keys s at found
      ∙ (λ t. before.keys s at found t ++ cond (same s t) (key_of m i s ∷ []) [])
      ∙ sym (passing-more m (passes s) students k i s here);
}

-- at first every list is empty
pub lists-none : (m : Market) (passes : ℕ → ℕ → Bool) (lists : List (List Key)) → lists ≡ replicate (length m.schools) [] → AreKeyLists m passes [] lists
lists-none m passes lists are = record {
  one_each = ap length are ∙ length-replicate (length m.schools) [] ∙ sym (length-keys_of m.schools);
  keys = λ s at found.
      ap (λ (xs : List (List Key)). get_or xs at []) are
      ∙ get_or-replicate (length m.schools) at [] [] (omega (arith, (position-at (schools_of m) s at found).0, length-keys_of m.schools));
}

-- where no school passes nothing changes
pub adds-none : (m : Market) (i : ℕ) (test : ℕ → Bool) (lists : List (List Key)) → ((s at : ℕ) → position (nat_eq s) (schools_of m) ≡ Some at → test s ≡ false) → AddsKeys m i test lists lists
adds-none m i test lists none = record {
  one_each = refl;
  keys = λ s at found.
      sym (append-nil (get_or lists at []))
      ∙ ap (λ b. get_or lists at [] ++ cond b (key_of m i s ∷ []) []) (sym (none s at found));
}

-- one more school passes
pub adds-more : (m : Market) (i : ℕ) (first next : ℕ → Bool) (c p : ℕ) (key : Key) (old lists : List (List Key)) → AddsKeys m i first old lists
    → position (nat_eq c) (schools_of m) ≡ Some p → key ≡ key_of m i c → first c ≡ false → ((s : ℕ) → next s ≡ (first s || (c == s))) → p < length lists
    → AddsKeys m i next old (set lists p (get_or lists p [] ++ key ∷ []))
adds-more m i first next c p key old lists before placed key_is unseen next_is low = record {
  one_each = length-set lists p more ∙ before.one_each;
  keys = λ s at found. elim (cases_Bool (c == s)) [
    | inl same ↦
        let one : c ≡ s = eqb-true c s same in
        let here : p ≡ at = same_Some p at (sym placed ∙ ap (λ t. position (nat_eq t) (schools_of m)) one ∙ found) in
        let not_before : first s ≡ false = ap first (sym one) ∙ unseen in
        let passes : next s ≡ true = next_is s ∙ ap (λ b. b || (c == s)) not_before ∙ same in
        ap (λ n. get_or (set lists p more) n []) (sym here)
        ∙ get_or-set_same lists p more [] low
        ∙ (λ t. get_or lists (here t) [] ++ (key_is ∙ ap (key_of m i) one) t ∷ [])
        ∙ ap (λ xs. xs ++ key_of m i s ∷ [])
        (before.keys s at found ∙ ap (λ b. get_or old at [] ++ cond b (key_of m i s ∷ []) []) not_before ∙ append-nil (get_or old at []))
        ∙ ap (λ b. get_or old at [] ++ cond b (key_of m i s ∷ []) []) (sym passes)
    | inr other ↦
        let apart : at ≡ p → ⊥ = λ is.
        false≢true (sym other ∙ eq-eqb c s (sym (position-one (schools_of m) c s p placed (found ∙ ap Some is)))) in
        get_or-set_other lists p at more [] apart
        ∙ before.keys s at found
        ∙ ap (λ b. get_or old at [] ++ cond b (key_of m i s ∷ []) []) (sym (next_is s ∙ ap (λ b. first s || b) other ∙ or-false (first s)))
  ];
}
  where
    more : List Key
    more = get_or lists p [] ++ key ∷ []

-- a choice is none of those before it
choice-unseen : (m : Market) → WellFormed m → (i k c : ℕ) → slice_get (choices_of m i) k ≡ Some c → list_any (λ t. t == c) (take k (choices_of m i)) ≡ false
choice-unseen m well i k c here = list_any_none (λ t. t == c) (take k xs) (λ n d low.
    let before : n < k = omega (arith, low, length-take k xs) in
    let within : n < length xs = omega (arith, low, length-take k xs) in
    let x = get_or (take k xs) n d in
    let there : slice_get xs n ≡ Some x = slice_get-get_or xs n d within ∙ ap Some (sym (get_or-take k xs n d before)) in
    ne_eqb x c (λ same. let one : n ≡ k = one-place xs n k c (choices-differ m well i) (there ∙ ap Some same) here in omega (arith, before, one)))
  where
    xs : List ℕ
    xs = choices_of m i

-- a student's key was added for the first choices, and now for one more
pub adds-choice : (m : Market) → WellFormed m → (i k c p : ℕ) (key : Key) (old lists new : List (List Key)) → slice_get (choices_of m i) k ≡ Some c
    → AddsKeys m i (λ s. list_any (λ t. t == s) (take k (choices_of m i))) old lists → position (nat_eq c) (schools_of m) ≡ Some p → key ≡ key_of m i c → p < length lists
    → new ≡ set lists p (get_or lists p [] ++ key ∷ []) → AddsKeys m i (λ s. list_any (λ t. t == s) (take (k + 1) (choices_of m i))) old new
adds-choice m well i k c p key old lists new here before placed key_is low new_is =
    subst (AddsKeys m i (λ s. list_any (λ t. t == s) (take (k + 1) (choices_of m i))) old) (sym new_is)
    (adds-more m i (λ s. list_any (λ t. t == s) (take k (choices_of m i))) (λ s. list_any (λ t. t == s) (take (k + 1) (choices_of m i))) c p key old lists before placed key_is
    (choice-unseen m well i k c here)
    (λ s. ap (list_any (λ t. t == s)) (take-one (choices_of m i) k c here) ∙ any-push (λ t. t == s) (take k (choices_of m i)) c) low)

-- the first place that passes, or the length
pub place-or_length : (p : ℕ → Bool) (xs : List ℕ) → unwrap_or (position p xs) (length xs) ≡ position_or_len p xs
place-or_length p xs = elim (cases_lt (position_or_len p xs) (length xs)) [
  | inl low ↦ ap (λ o. unwrap_or o (length xs)) (cond-true (nat_lt (position_or_len p xs) (length xs)) (Some (position_or_len p xs)) None (lt-ltb (position_or_len p xs) (length xs) low))
  | inr past ↦ ap (λ o. unwrap_or o (length xs)) (cond-false (nat_lt (position_or_len p xs) (length xs)) (Some (position_or_len p xs)) None (ltb-false_from past)) ∙ omega (arith, past, prefix_len-le-length (λ x. not (p x)) xs)
]
  where
    ltb-false_from : length xs ≤ position_or_len p xs → nat_lt (position_or_len p xs) (length xs) ≡ false
    ltb-false_from over = grind (arith, nat_tests)

-- where nothing passes it is the length
pub none-first : (xs : List ℕ) → length xs ≡ position_or_len (is_given None) xs
none-first [] = refl
none-first (x ∷ xs) = omega (arith, none-first xs)

-- the keys of a list that changes
pub key-added : (lists : List (Vec Key Global)) (at : ℕ) (was new : Vec Key Global) (key : Key) (view : List (List Key)) → keys_in lists ≡ view → at < length view
    → was ≡ get_or lists at was → new.items ≡ was.items ++ key ∷ [] → keys_in (set lists at new) ≡ set view at (get_or view at [] ++ key ∷ [])
key-added lists at was new key view view_is low was_is new_is =
    let within : at < length lists = omega (arith, low, ap length (sym view_is), length-map lists items) in
    map-set items lists at new
    ∙ (λ t. set (view_is t) at (new_is t))
    ∙ ap (λ keys. set view at (keys ++ key ∷ [])) (ap items was_is ∙ sym (get_or-map items lists at was [] within) ∙ ap (λ (xs : List (List Key)). get_or xs at []) view_is)
  where
    items : Vec Key Global → List Key
    items list = list.items

-- one more empty list
pub list-added : (lists : List (Vec Key Global)) (n : ℕ) (new : Vec Key Global) → new.items ≡ [] → keys_in lists ≡ replicate n [] → keys_in (lists ++ new ∷ []) ≡ replicate (n + 1) []
list-added lists n new none before =
    map-append items lists (new ∷ [])
    ∙ (λ t. before t ++ none t ∷ [])
    ∙ replicate-append-replicate n 1 []
  where
    items : Vec Key Global → List Key
    items list = list.items

-- the school that a student has, alone
pub adds-one : (m : Market) (i c p : ℕ) (key : Key) (held : Option ℕ) (old new : List (List Key)) → held ≡ Some c → position (nat_eq c) (schools_of m) ≡ Some p → key ≡ key_of m i c
    → p < length old → new ≡ set old p (get_or old p [] ++ key ∷ []) → AddsKeys m i (is_given held) old new
adds-one m i c p key held old new held_is placed key_is low new_is =
    subst (λ o. AddsKeys m i (is_given o) old new) (sym held_is)
    (subst (AddsKeys m i (is_given (Some c)) old) (sym new_is)
    (adds-more m i (λ s. false) (is_given (Some c)) c p key old old (adds-none m i (λ s. false) old (λ s at found. refl)) placed key_is refl (λ s. refl) low))
