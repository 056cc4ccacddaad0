-- What the laws see of papers that are restricted to some of their students.
use Rattle.std.proofs.Common.{◌≡◌, refl, ap, sym, ◌∙◌, ℕ, ◌+◌, ◌==◌, nat_eq, Bool, true, false, cond, not, ◌&&◌, List, [], ◌∷◌, Option, None, Some, find, filter, count_by}
use Rattle.std.specs.List.{list_any}
use Rattle.std.specs.Map.{keys_of}
use Rattle.std.specs.Option.{option_and_then, option_eq, option_map_or}
use Rattle.std.proofs.lemmas.Bool.{cond-true, cond-false, eqb-true}
use Rattle.std.proofs.lemmas.Map.Entries.{lookup-filter-keys}
use Rattle.sc_papers.specs.Market.{Market, student_of, students_of, choices_of, seats_of, zone_at}
use Rattle.sc_papers.specs.Key.{is_before, is_ahead, key_of, class_by, same_zone}
use Rattle.sc_papers.specs.Matching.{how_many}
use Rattle.sc_papers.specs.Log.{is_rejected, next_choice}
use Rattle.sc_papers.specs.Restriction.{restricted}
use Rattle.sc_papers.specs.declared.key.Key.{Key}
use Rattle.sc_papers.specs.declared.records.Student.{Student}
use Rattle.sc_papers.specs.declared.rejection.Rejection.{Rejection}
use Rattle.sc_papers.proofs.Counting.{count-cons_passes, count-cons_fails}

-- to the laws, the papers n are the papers m with those students alone that pass
pub record Restricts (n m : Market) (test : ℕ → Bool) : Type 0 where
  pub choices : (i : ℕ) → choices_of n i ≡ cond (test i) (choices_of m i) []
  pub seats : (s : ℕ) → seats_of n s ≡ seats_of m s
  pub ahead : (s i j : ℕ) → test i ≡ true → test j ≡ true → is_ahead n s i j ≡ is_ahead m s i j
  pub counts : (p : ℕ → Bool) → how_many n p ≡ how_many m (λ i. test i && p i)

-- a count after a filter
pub count-filter : {X : Type 0} (p test : X → Bool) (xs : List X) → count_by p (filter test xs) ≡ count_by (λ x. test x && p x) xs
count-filter p test [] = refl
count-filter p test (x ∷ xs) = go p test x xs (count-filter p test xs) (test x) refl (p x) refl
  where
    go : {X : Type 0} (p test : X → Bool) (x : X) (xs : List X) → count_by p (filter test xs) ≡ count_by (λ y. test y && p y) xs → (t : Bool) → test x ≡ t → (b : Bool) → p x ≡ b → count_by p (filter test (x ∷ xs)) ≡ count_by (λ y. test y && p y) (x ∷ xs)
    go p test x xs rest true kept true passes =
        ap (count_by p) (cond-true (test x) (x ∷ filter test xs) (filter test xs) kept)
        ∙ count-cons_passes p x (filter test xs) passes ∙ ap (λ n. 1 + n) rest
        ∙ sym (count-cons_passes (λ y. test y && p y) x xs (ap (λ t. t && p x) kept ∙ passes))
    go p test x xs rest true kept false fails =
        ap (count_by p) (cond-true (test x) (x ∷ filter test xs) (filter test xs) kept)
        ∙ count-cons_fails p x (filter test xs) fails ∙ rest
        ∙ sym (count-cons_fails (λ y. test y && p y) x xs (ap (λ t. t && p x) kept ∙ fails))
    go p test x xs rest false dropped b is =
        ap (count_by p) (cond-false (test x) (x ∷ filter test xs) (filter test xs) dropped)
        ∙ rest
        ∙ sym (count-cons_fails (λ y. test y && p y) x xs (ap (λ t. t && p x) dropped))

-- the numbers of the students that pass
pub keys-filter : {X : Type 0} (test : ℕ → Bool) (es : List (ℕ × X)) → keys_of (filter (λ e. test e.0) es) ≡ filter test (keys_of es)
keys-filter test [] = refl
keys-filter test (e ∷ es) = keys-cond (test e.0) e (filter (λ f. test f.0) es) ∙ ap (λ ks. cond (test e.0) (e.0 ∷ ks) ks) (keys-filter test es)
  where
    keys-cond : {X : Type 0} (b : Bool) (e : ℕ × X) (es : List (ℕ × X)) → keys_of (cond b (e ∷ es) es) ≡ cond b (e.0 ∷ keys_of es) (keys_of es)
    keys-cond true e es = refl
    keys-cond false e es = refl

-- what the restricted papers hold of a student
pub student-restricted : (m : Market) (test : ℕ → Bool) (i : ℕ) → student_of (restricted m test) i ≡ cond (test i) (student_of m i) None
unfolding restricted
student-restricted m test i = lookup-filter-keys (nat_eq i) test (test i) (λ k same. ap test (sym (eqb-true i k same))) m.students

-- a student's key at a school, by what the papers hold of the student
key_by : Market → Option Student → ℕ → ℕ → Key
unfolding key_of
key_by m found i s = record (key_of m i s) {
  class = class_by
      (option_eq nat_eq (option_and_then (λ student. student.continuing) found) (Some s))
      (list_any (λ t. t == s) (option_map_or (λ student. student.siblings) found []))
      (same_zone (option_map_or (λ student. student.zone) found 0) (zone_at m s));
}

key-restricted : (m : Market) (test : ℕ → Bool) (i s : ℕ) → test i ≡ true → key_of (restricted m test) i s ≡ key_of m i s
unfolding key_by restricted key_of
key-restricted m test i s kept = ap (λ found. key_by m found i s) (student-restricted m test i ∙ cond-true (test i) (student_of m i) None kept)

choices-cond : (b : Bool) (found : Option Student) → option_map_or (λ student. student.choices) (cond b found None) [] ≡ cond b (option_map_or (λ student. student.choices) found []) []
choices-cond true found = refl
choices-cond false found = refl

pub choices-restricted : (m : Market) (test : ℕ → Bool) (i : ℕ) → choices_of (restricted m test) i ≡ cond (test i) (choices_of m i) []
unfolding choices_of
choices-restricted m test i = ap (λ found. option_map_or (λ student. student.choices) found []) (student-restricted m test i) ∙ choices-cond (test i) (student_of m i)

pub seats-restricted : (m : Market) (test : ℕ → Bool) (s : ℕ) → seats_of (restricted m test) s ≡ seats_of m s
unfolding seats_of restricted
seats-restricted m test s = refl

pub ahead-restricted : (m : Market) (test : ℕ → Bool) (s i j : ℕ) → test i ≡ true → test j ≡ true → is_ahead (restricted m test) s i j ≡ is_ahead m s i j
unfolding is_ahead
ahead-restricted m test s i j first second = λ t. is_before (key-restricted m test i s first t) (key-restricted m test j s second t)

pub counts-restricted : (m : Market) (test p : ℕ → Bool) → how_many (restricted m test) p ≡ how_many m (λ i. test i && p i)
unfolding how_many restricted
counts-restricted m test p = ap (count_by p) (keys-filter test m.students) ∙ count-filter p test (students_of m)

pub restricted-restricts : (m : Market) (test : ℕ → Bool) → Restricts (restricted m test) m test
restricted-restricts m test = record {
  choices = choices-restricted m test;
  seats = seats-restricted m test;
  ahead = ahead-restricted m test;
  counts = counts-restricted m test;
}

-- a student who passes has the same next choice, and another has none
pub next-kept : {n m : Market} {test : ℕ → Bool} → Restricts n m test → (log : List Rejection) (i : ℕ) → test i ≡ true → next_choice n log i ≡ next_choice m log i
unfolding next_choice
next-kept {n} {m} {test} part log i kept = ap (find (λ s. not (is_rejected log i s))) (part.choices i ∙ cond-true (test i) (choices_of m i) [] kept)

pub next-dropped : {n m : Market} {test : ℕ → Bool} → Restricts n m test → (log : List Rejection) (i : ℕ) → test i ≡ false → next_choice n log i ≡ None
unfolding next_choice
next-dropped {n} {m} {test} part log i dropped = ap (find (λ s. not (is_rejected log i s))) (part.choices i ∙ cond-false (test i) (choices_of m i) [] dropped)
