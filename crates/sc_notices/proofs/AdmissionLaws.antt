-- The lists of a school hold exactly those who have it and those who wait for it, in order.
use Rattle.std.proofs.Common.{◌≡◌, ◌↔◌, refl, sym, ◌∙◌, ap, subst, inl, inr, ℕ, ◌<◌, ◌==◌, ◌||◌, nat_eq, Bool, true, false, List, [], ◌∷◌, length, filter, get_or, map, take, Option, None, Some, Contains, slice_get, arith}
use Rattle.std.specs.List.{IsDistinct, list_any, position_or_len}
use Rattle.std.specs.Option.{option_map_or}
use Rattle.std.proofs.lemmas.Bool.{cases_Bool, cases_lt, cond-true, cond-false, eq-eqb, eqb-true, false≢true}
use Rattle.std.proofs.lemmas.List.{get_or-take, length-take}
use Rattle.std.proofs.lemmas.List.Elements.{All-contains, All-from_recursion}
use Rattle.std.proofs.lemmas.List.Folds.{list_any_at}
use Rattle.std.proofs.lemmas.List.Sorted.{Contains-permutation, IsPermutation-sym}
use Rattle.std.proofs.lemmas.List.Sums.{fails_before_first, passes_at_first}
use Rattle.std.proofs.lemmas.Map.Keys.{IsDistinct-head, IsDistinct-tail}
use Rattle.std.proofs.lemmas.Option.{get_or_from_slice_get, same_Some, slice_get-get_or, slice_get_within}
use Rattle.sc_papers.specs.Key.{key_of}
use Rattle.sc_papers.specs.Market.{Market, choices_of, students_of}
use Rattle.sc_papers.specs.Matching.{IsMatching, Matching, Prefers, has}
use Rattle.sc_papers.specs.WellFormed.{WellFormed}
use Rattle.sc_papers.specs.declared.key.Key.{Key}
use Rattle.sc_papers.proofs.Choices.{contains-at, one-place, place-of}
use Rattle.sc_papers.proofs.Counting.{contains-head, contains-tail}
use Rattle.sc_papers.proofs.Rejections.{has-some, has-true}
use Rattle.sc_papers.proofs.Students.{choices-differ, lister-among}
use Rattle.sc_seats.specs.Roll.{IsAscending, in_order}
use Rattle.sc_seats.proofs.Ordering.{Differ, Differ-cons, ascending-in_order, in_order-permutes}
use Rattle.sc_tallies.proofs.LastKeys.{key-among, keyed}
use Rattle.sc_notices.specs.Admissions.{class_list, keys_passing, waiting_list, waits}

-- a key tells its student
whose : (m : Market) (i j s : ℕ) → key_of m i s ≡ key_of m j s → i ≡ j
unfolding key_of
whose m i j s same = ap (λ (key : Key). key.student) same

-- the keys put in order are those of the students who pass
among-passing : (m : Market) (p : ℕ → Bool) (i s : ℕ) → Contains (in_order (keys_passing m p (students_of m) s)) (key_of m i s) → Contains (students_of m) i × (p i ≡ true)
among-passing m p i s among =
    let keys = keys_passing m p (students_of m) s in
    let (j, here, holds, is) = keyed p (λ k. key_of m k s) (students_of m) (key_of m i s)
    (Contains-permutation (in_order keys) keys (key_of m i s) (IsPermutation-sym keys (in_order keys) (in_order-permutes keys)) among) in
    let same : j ≡ i = whose m j i s is in
    (subst (Contains (students_of m)) same here, ap p (sym same) ∙ holds)

passing-among : (m : Market) (p : ℕ → Bool) (i s : ℕ) → Contains (students_of m) i → p i ≡ true → Contains (in_order (keys_passing m p (students_of m) s)) (key_of m i s)
passing-among m p i s here holds =
    let keys = keys_passing m p (students_of m) s in
    Contains-permutation keys (in_order keys) (key_of m i s) (in_order-permutes keys) (key-among p (λ k. key_of m k s) (students_of m) i here holds)

-- and nothing else is a key of theirs
own-key : (m : Market) (p : ℕ → Bool) (s : ℕ) (key : Key) → Contains (in_order (keys_passing m p (students_of m) s)) key → key ≡ key_of m key.student s
unfolding key_of
own-key m p s key among =
    let keys = keys_passing m p (students_of m) s in
    let (j, here, holds, is) = keyed p (λ k. key_of m k s) (students_of m) key
    (Contains-permutation (in_order keys) keys key (IsPermutation-sym keys (in_order keys) (in_order-permutes keys)) among) in
    sym is ∙ ap (λ k. key_of m k s) (ap (λ (one : Key). one.student) is)

-- students who differ have keys that differ
differ-passing : (m : Market) (p : ℕ → Bool) (s : ℕ) (students : List ℕ) → IsDistinct nat_eq students → Differ (keys_passing m p students s)
differ-passing m p s [] apart = record { once = λ key. omega arith }
differ-passing m p s (i ∷ rest) apart =
    let later : Differ (keys_passing m p rest s) = differ-passing m p s rest (IsDistinct-tail nat_eq i rest apart) in elim (cases_Bool (p i)) [
      | inl passes ↦ subst (λ xs. Differ (map (λ k. key_of m k s) xs)) (sym (cond-true (p i) (i ∷ filter p rest) (filter p rest) passes))
          (Differ-cons (key_of m i s) (keys_passing m p rest s) later (λ among.
          let (j, here, holds, is) = keyed p (λ k. key_of m k s) rest (key_of m i s) among in
          let same : j ≡ i = whose m j i s is in
          false≢true (sym (All-contains (λ k. nat_eq i k ≡ false) rest j (All-from_recursion (λ k. nat_eq i k ≡ false) rest (IsDistinct-head nat_eq i rest apart)) here) ∙ eq-eqb i j (sym same))))
      | inr fails ↦ subst (λ xs. Differ (map (λ k. key_of m k s) xs)) (sym (cond-false (p i) (i ∷ filter p rest) (filter p rest) fails)) later
    ]

ascends : (m : Market) → WellFormed m → (p : ℕ → Bool) (s : ℕ) → IsAscending (in_order (keys_passing m p (students_of m) s))
ascends m well p s = ascending-in_order (keys_passing m p (students_of m) s) (differ-passing m p s (students_of m) well.students_differ)

pub class_list-ascends : (m : Market) (a : Matching) → WellFormed m → (s : ℕ) → IsAscending (class_list m a s)
unfolding class_list
class_list-ascends m a well s = ascends m well (has a s) s

pub waiting_list-ascends : (m : Market) (a : Matching) → WellFormed m → (s : ℕ) → IsAscending (waiting_list m a s)
unfolding waiting_list
waiting_list-ascends m a well s = ascends m well (waits m a s) s

pub class_list-keys : (m : Market) (a : Matching) (s : ℕ) (key : Key) → Contains (class_list m a s) key → key ≡ key_of m key.student s
unfolding class_list
class_list-keys m a s key among = own-key m (has a s) s key among

pub waiting_list-keys : (m : Market) (a : Matching) (s : ℕ) (key : Key) → Contains (waiting_list m a s) key → key ≡ key_of m key.student s
unfolding waiting_list
waiting_list-keys m a s key among = own-key m (waits m a s) s key among

-- one that stands in front of the first that passes, and where it stands
record IsInFront (p : ℕ → Bool) (xs : List ℕ) (s : ℕ) : Type 0 where
  place : ℕ
  before : place < position_or_len p xs
  stands : slice_get xs place ≡ Some s

any-contains : (xs : List ℕ) (s : ℕ) → list_any (λ t. t == s) xs ≡ true → Contains xs s
any-contains [] s any = absurd (false≢true any)
any-contains (x ∷ xs) s any = elim (cases_Bool (x == s)) [
  | inl same ↦ subst (Contains (x ∷ xs)) (eqb-true x s same) (contains-head x xs)
  | inr other ↦ contains-tail x xs s (any-contains xs s (sym (ap (λ b. b || list_any (λ t. t == s) xs) other) ∙ any))
]

in-front : (p : ℕ → Bool) (xs : List ℕ) (s : ℕ) → list_any (λ t. t == s) (take (position_or_len p xs) xs) ≡ true → IsInFront p xs s
in-front p xs s any =
    let n = position_or_len p xs in
    let (k, low, here) = any-contains (take n xs) s any in
    let before : k < n = omega (arith, low, length-take n xs) in
    let within : k < length xs = omega (arith, low, length-take n xs) in
    record {
      place = k;
      before = before;
      stands = slice_get-get_or xs k s within ∙ ap Some (sym (get_or-take n xs k s before) ∙ here);
    }

front-any : (p : ℕ → Bool) (xs : List ℕ) (s k : ℕ) → slice_get xs k ≡ Some s → k < position_or_len p xs → list_any (λ t. t == s) (take (position_or_len p xs) xs) ≡ true
front-any p xs s k here before =
    let n = position_or_len p xs in
    list_any_at (λ t. t == s) (take n xs) k s
    (omega (arith, before, slice_get_within xs k s here, length-take n xs))
    (eq-eqb (get_or (take n xs) k s) s (get_or-take n xs k s before ∙ get_or_from_slice_get xs k s s here))

module _ (m : Market) (a : Matching) (well : WellFormed m) (listed : IsMatching m a) (i s : ℕ) where
  nothing : a i ≡ None → (t : ℕ) → has a t i ≡ false
  nothing is t = ap (λ o. option_map_or (λ u. u == t) o false) is

  -- whom a student waits for, they prefer
  waits-prefers : (o : Option ℕ) → a i ≡ o → waits m a s i ≡ true → Prefers m i s o
  waits-prefers None is waiting =
      let front = in-front (λ t. has a t i) (choices_of m i) s waiting in
      contains-at (choices_of m i) front.place s front.stands
  waits-prefers (Some u) is waiting =
      let front = in-front (λ t. has a t i) (choices_of m i) s waiting in
      let (k, there) = place-of (choices_of m i) u (listed i u is) in
      elim (cases_lt front.place k) [
        | inl below ↦ (front.place, k, below, front.stands, there)
        | inr over ↦
            absurd (false≢true (sym (fails_before_first (λ t. has a t i) (choices_of m i) k u (omega (arith, over, front.before)))
            ∙ ap (λ t. has a t i) (get_or_from_slice_get (choices_of m i) k u u there) ∙ has-some a u i is))
      ]

  -- and whom they prefer, they wait for
  prefers-waits : (o : Option ℕ) → a i ≡ o → Prefers m i s o → waits m a s i ≡ true
  prefers-waits None is prefers =
      let (k, here) = place-of (choices_of m i) s prefers in
      let n = position_or_len (λ t. has a t i) (choices_of m i) in
      elim (cases_lt k n) [
        | inl before ↦ front-any (λ t. has a t i) (choices_of m i) s k here before
        | inr over ↦
            let low : n < length (choices_of m i) = omega (arith, over, slice_get_within (choices_of m i) k s here) in
            absurd (false≢true (sym (nothing is (get_or (choices_of m i) n 0)) ∙ passes_at_first (λ t. has a t i) (choices_of m i) 0 low))
      ]
  prefers-waits (Some u) is (j, k, below, here, there) =
      let n = position_or_len (λ t. has a t i) (choices_of m i) in
      elim (cases_lt j n) [
        | inl before ↦ front-any (λ t. has a t i) (choices_of m i) s j here before
        | inr over ↦
            let low : n < length (choices_of m i) = omega (arith, over, slice_get_within (choices_of m i) j s here) in
            let found = get_or (choices_of m i) n 0 in
            let same : u ≡ found = same_Some u found (sym is ∙ has-true a found i (passes_at_first (λ t. has a t i) (choices_of m i) 0 low)) in
            let one : n ≡ k = one-place (choices_of m i) n k u (choices-differ m well i) (slice_get-get_or (choices_of m i) n 0 low ∙ ap Some (sym same)) there in
            absurd (omega (arith, over, below, one))
      ]

  pub class_list-exact : (Contains (class_list m a s) (key_of m i s)) ↔ (a i ≡ Some s)
  unfolding class_list
  class_list-exact = (
    λ among. has-true a s i (among-passing m (has a s) i s among).1,
    λ holds. passing-among m (has a s) i s (lister-among m i s (listed i s holds)) (has-some a s i holds),
  )

  pub waiting_list-exact : (Contains (waiting_list m a s) (key_of m i s)) ↔ Prefers m i s (a i)
  unfolding waiting_list
  waiting_list-exact = (
    λ among. waits-prefers (a i) refl (among-passing m (waits m a s) i s among).1,
    λ prefers. passing-among m (waits m a s) i s (lister-among m i s (prefers-lists (a i) prefers)) (prefers-waits (a i) refl prefers),
  )
    where
      prefers-lists : (o : Option ℕ) → Prefers m i s o → Contains (choices_of m i) s
      prefers-lists None among = among
      prefers-lists (Some u) (j, k, below, here, there) = contains-at (choices_of m i) j s here
