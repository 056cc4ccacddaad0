-- Positions of numbers in lists, and of the papers' students and schools.
use Rattle.std.proofs.Common.{◌≡◌, inl, inr, sym, ap, subst, ◌∙◌, ℕ, suc, ◌+◌, ◌<◌, nat_eq, Bool, true, not, ◌||◌, List, [], ◌∷◌, length, get_or, Some, None, cond, false, ◌++◌, refl, length-append, Contains, position, slice_get, arith}
use Rattle.std.specs.List.{list_any, position_or_len}
use Rattle.std.specs.Prelude.{nat_lt}
use Rattle.std.proofs.lemmas.Bool.Decides.{nat_tests}
use Rattle.std.proofs.lemmas.List.Folds.{position_or_len_push}
use Rattle.std.proofs.lemmas.Bool.{cases_Bool, cond-true, cond-false, eqb-true, eq-eqb, false≢true, lt-ltb, or_left, or_right}
use Rattle.std.proofs.lemmas.List.Quantifiers.{position-Some}
use Rattle.std.proofs.lemmas.Map.Made.{is_some-lookup}
use Rattle.std.proofs.lemmas.Option.{slice_get-get_or}
use Rattle.sc_papers.specs.Market.{Market, is_school, is_student, schools_of, students_of}
use Rattle.sc_papers.specs.WellFormed.{WellFormed}
use Rattle.sc_papers.proofs.Choices.{contains-at, one-place}
use Rattle.sc_papers.proofs.Counting.{contains-cons}

pub any-among : (xs : List ℕ) (i : ℕ) → Contains xs i → list_any (nat_eq i) xs ≡ true
any-among [] i (k, low, at) = absurd (omega (arith, low))
any-among (x ∷ xs) i among = elim (contains-cons x xs i among) [
  | inl same ↦ or_left (nat_eq i x) (list_any (nat_eq i) xs) (eq-eqb i x (sym same))
  | inr later ↦ or_right (nat_eq i x) (list_any (nat_eq i) xs) (any-among xs i later)
]

-- a number among the students is a student of the papers, and one among the schools a school
pub among-student : (m : Market) (i : ℕ) → Contains (students_of m) i → is_student m i ≡ true
among-student m i among = is_some-lookup (nat_eq i) m.students ∙ any-among (students_of m) i among

pub among-school : (m : Market) (s : ℕ) → Contains (schools_of m) s → is_school m s ≡ true
among-school m s among = is_some-lookup (nat_eq s) m.schools ∙ any-among (schools_of m) s among

-- a number stands at its position
pub position-at : (xs : List ℕ) (i at : ℕ) → position (nat_eq i) xs ≡ Some at → (at < length xs) × (get_or xs at i ≡ i)
position-at xs i at found =
    let parts = position-Some (nat_eq i) xs at i found in
    (parts.0, sym (eqb-true i (get_or xs at i) parts.1))

pub position-there : (xs : List ℕ) (i at : ℕ) → position (nat_eq i) xs ≡ Some at → slice_get xs at ≡ Some i
position-there xs i at found = let here = position-at xs i at found in slice_get-get_or xs at i here.0 ∙ ap Some here.1

pub position-among : (xs : List ℕ) (i at : ℕ) → position (nat_eq i) xs ≡ Some at → Contains xs i
position-among xs i at found = let here = position-at xs i at found in (at, here.0, here.1)

-- numbers at one position are one number
pub position-one : (xs : List ℕ) (i j at : ℕ) → position (nat_eq i) xs ≡ Some at → position (nat_eq j) xs ≡ Some at → j ≡ i
position-one xs i j at first second =
    let here = position-Some (nat_eq i) xs at i first in
    let there = position-Some (nat_eq j) xs at i second in
    eqb-true j (get_or xs at i) there.1 ∙ sym (eqb-true i (get_or xs at i) here.1)

-- a list with a member that passes has a first one
pub prefix-below : (p : ℕ → Bool) (xs : List ℕ) → list_any p xs ≡ true → position_or_len p xs < length xs
prefix-below p [] none = absurd (false≢true none)
prefix-below p (x ∷ xs) some = elim (cases_Bool (p x)) [
  | inl passes ↦ subst (λ n. n < suc (length xs)) (sym (cond-false (not (p x)) (1 + position_or_len p xs) 0 (ap not passes))) (omega arith)
  | inr fails ↦ subst (λ n. n < suc (length xs)) (sym (cond-true (not (p x)) (1 + position_or_len p xs) 0 (ap not fails)))
      (omega (arith, prefix-below p xs (sym (ap (λ b. b || list_any p xs) fails) ∙ some)))
]

pub position-found : (xs : List ℕ) (i : ℕ) → list_any (nat_eq i) xs ≡ true → position (nat_eq i) xs ≡ Some (position_or_len (nat_eq i) xs)
position-found xs i some = cond-true (nat_lt (position_or_len (nat_eq i) xs) (length xs)) (Some (position_or_len (nat_eq i) xs)) None (lt-ltb (position_or_len (nat_eq i) xs) (length xs) (prefix-below (nat_eq i) xs some))

-- students and schools of the papers have positions
pub student-position : (m : Market) (i : ℕ) → is_student m i ≡ true → (at : ℕ) × (position (nat_eq i) (students_of m) ≡ Some at)
student-position m i known = (position_or_len (nat_eq i) (students_of m), position-found (students_of m) i (sym (is_some-lookup (nat_eq i) m.students) ∙ known))

pub school-position : (m : Market) (s : ℕ) → is_school m s ≡ true → (at : ℕ) × (position (nat_eq s) (schools_of m) ≡ Some at)
school-position m s known = (position_or_len (nat_eq s) (schools_of m), position-found (schools_of m) s (sym (is_some-lookup (nat_eq s) m.schools) ∙ known))

pub student-among : (m : Market) (i : ℕ) → is_student m i ≡ true → Contains (students_of m) i
student-among m i known = let (at, found) = student-position m i known in position-among (students_of m) i at found

-- a student's position is the place in the order of entry
pub place-position : (m : Market) → WellFormed m → (k i : ℕ) → slice_get (students_of m) k ≡ Some i → position (nat_eq i) (students_of m) ≡ Some k
place-position m well k i here =
    let (at, found) = student-position m i (among-student m i (contains-at (students_of m) k i here)) in
    found ∙ ap Some (one-place (students_of m) at k i well.students_differ (position-there (students_of m) i at found) here)

pub school-place_position : (m : Market) → WellFormed m → (k s : ℕ) → slice_get (schools_of m) k ≡ Some s → position (nat_eq s) (schools_of m) ≡ Some k
school-place_position m well k s here =
    let (at, found) = school-position m s (among-school m s (contains-at (schools_of m) k s here)) in
    found ∙ ap Some (one-place (schools_of m) at k s well.schools_differ (position-there (schools_of m) s at found) here)

-- in a list without the number, no place passes
pub position-none : (xs : List ℕ) (s : ℕ) → list_any (nat_eq s) xs ≡ false → position_or_len (nat_eq s) xs ≡ length xs
position-none [] s none = refl
position-none (x ∷ xs) s none = elim (cases_Bool (nat_eq s x)) [
  | inl same ↦ absurd (false≢true (sym none ∙ or_left (nat_eq s x) (list_any (nat_eq s) xs) same))
  | inr other ↦ rw other (omega (arith, position-none xs s (sym (ap (λ b. b || list_any (nat_eq s) xs) other) ∙ none)))
]

-- positions in a list with one more number, which is new, at its end
pub position-push : (xs : List ℕ) (s k : ℕ) → list_any (nat_eq s) xs ≡ false
    → position (nat_eq k) (xs ++ s ∷ []) ≡ cond (nat_eq k s) (Some (length xs)) (position (nat_eq k) xs)
position-push xs s k none =
    let place = position_or_len_push (nat_eq k) xs s in
    let longer = length-append xs (s ∷ []) in
    elim (cases_Bool (nat_eq k s)) [
      | inl same ↦
          let one : k ≡ s = eqb-true k s same in
          let at : position_or_len (nat_eq k) xs ≡ length xs = rw one (position-none xs s none) in
          grind (arith, nat_tests)
      | inr other ↦ grind (arith, nat_tests)
    ]
