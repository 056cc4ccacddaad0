-- Counts of the students of the papers, and what the papers hold of one student.
use Rattle.std.proofs.Common.{◌≡◌, ◌⊎◌, inl, inr, refl, sym, ◌∙◌, ℕ, ◌<◌, ◌≤◌, nat_eq, Bool, true, false, List, [], ◌∷◌, length, Option, Some, None, Contains, IfSome, arith}
use Rattle.std.specs.List.{IsDistinct}
use Rattle.std.specs.Map.{lookup, keys_of}
use Rattle.std.specs.Option.{option_map_or}
use Rattle.std.proofs.lemmas.Bool.{cases_Bool, eqb-true, cond-false}
use Rattle.std.proofs.lemmas.List.Elements.{All-contains}
use Rattle.std.proofs.lemmas.Option.{none-some}
use Rattle.std.proofs.lemmas.Map.Entries.{All-lookup}
use Rattle.sc_papers.specs.Market.{Market, is_school, student_of, students_of, choices_of}
use Rattle.sc_papers.specs.Matching.{how_many}
use Rattle.sc_papers.specs.WellFormed.{WellFormed, WithinLimits, IsProper, IsShort}
use Rattle.sc_papers.specs.declared.limits.TheConstants.{LONGEST_LIST}
use Rattle.sc_papers.specs.declared.records.Student.{Student}
use Rattle.sc_papers.proofs.Counting.{contains-tail, count-le, count-lt, count-none, count-some, one_passes, pigeonhole, some-counted}

pub how_many-le : (m : Market) (p q : ℕ → Bool) → ((i : ℕ) → p i ≡ true → q i ≡ true) → how_many m p ≤ how_many m q
unfolding how_many
how_many-le m p q weaker = count-le p q (students_of m) (λ i among. weaker i)

pub how_many-lt : (m : Market) (p q : ℕ → Bool) → ((i : ℕ) → p i ≡ true → q i ≡ true) → (i : ℕ) → Contains (students_of m) i → p i ≡ false → q i ≡ true → how_many m p < how_many m q
unfolding how_many
how_many-lt m p q weaker i among refused passed = count-lt p q (students_of m) (λ j in_list. weaker j) i among refused passed

-- the pigeonhole among the students
pub one-without : (m : Market) (p q : ℕ → Bool) → how_many m q ≤ how_many m p → (i : ℕ) → Contains (students_of m) i → p i ≡ false → q i ≡ true → (j : ℕ) × (p j ≡ true) × (q j ≡ false)
unfolding how_many
one-without m p q many i among refused passed =
    let found = pigeonhole p q (students_of m) many i among refused passed in (found.0, found.2, found.3)

-- whom a look-up finds is among the keys
pub key-found : {X : Type 0} (es : List (ℕ × X)) (i : ℕ) (x : X) → lookup (nat_eq i) es ≡ Some x → Contains (keys_of es) i
key-found [] i x found = absurd (none-some x found)
key-found (e ∷ es) i x found =
    elim (cases_Bool (nat_eq i e.0)) [
      | inl same ↦ (0, omega arith, sym (eqb-true i e.0 same))
      | inr apart ↦ contains-tail e.0 (keys_of es) i (key-found es i x (sym (cond-false (nat_eq i e.0) (Some e.1) (lookup (nat_eq i) es) apart) ∙ found))
    ]

-- who lists a school is a student of the papers
pub lister-among : (m : Market) (i s : ℕ) → Contains (choices_of m i) s → Contains (students_of m) i
unfolding choices_of
lister-among m i s listed = go (student_of m i) refl listed
  where
    go : (found : Option Student) → student_of m i ≡ found → Contains (option_map_or (λ student. student.choices) found []) s → Contains (students_of m) i
    go None is (k, low, at) = absurd (omega (arith, low))
    go (Some student) is in_list = key-found m.students i student is

-- no student lists a school twice
pub choices-differ : (m : Market) → WellFormed m → (i : ℕ) → IsDistinct nat_eq (choices_of m i)
unfolding choices_of IsDistinct
choices-differ m well i = go (student_of m i) (All-lookup (IsProper m) (nat_eq i) m.students well.students_proper)
  where
    go : (found : Option Student) → IfSome found (IsProper m) → IsDistinct nat_eq (option_map_or (λ student. student.choices) found [])
    go None proper = tt
    go (Some student) proper = proper.choices_differ

-- tests that agree on each student of the papers count alike
pub how_many-agree : (m : Market) (p q : ℕ → Bool) → ((i : ℕ) → p i ≡ q i) → how_many m p ≡ how_many m q
how_many-agree m p q agree =
    let up : how_many m p ≤ how_many m q = how_many-le m p q (λ i passes. sym (agree i) ∙ passes) in
    let down : how_many m q ≤ how_many m p = how_many-le m q p (λ i passes. agree i ∙ passes) in
    omega (arith, up, down)

-- some student of the papers passes, or each is refused
pub some-student : (m : Market) (p : ℕ → Bool) → ((i : ℕ) × Contains (students_of m) i × (p i ≡ true)) ⊎ ((i : ℕ) → Contains (students_of m) i → p i ≡ false)
some-student m p = one_passes p (students_of m)

pub how_many-none : (m : Market) (p : ℕ → Bool) → ((i : ℕ) → Contains (students_of m) i → p i ≡ false) → how_many m p ≡ 0
unfolding how_many
how_many-none m p none = count-none p (students_of m) none

pub how_many-some : (m : Market) (p : ℕ → Bool) (i : ℕ) → Contains (students_of m) i → p i ≡ true → 0 < how_many m p
unfolding how_many
how_many-some m p i among passes = count-some p (students_of m) i among passes

pub some-of_many : (m : Market) (p : ℕ → Bool) → 0 < how_many m p → (i : ℕ) × Contains (students_of m) i × (p i ≡ true)
unfolding how_many
some-of_many m p some = some-counted p (students_of m) some

-- a school that a student lists is a school of the papers
pub choice-known : (m : Market) → WellFormed m → (i s : ℕ) → Contains (choices_of m i) s → is_school m s ≡ true
unfolding choices_of
choice-known m well i s listed = go (student_of m i) (All-lookup (IsProper m) (nat_eq i) m.students well.students_proper) listed
  where
    go : (found : Option Student) → IfSome found (IsProper m) → Contains (option_map_or (λ student. student.choices) found []) s → is_school m s ≡ true
    go None proper (k, low, at) = absurd (omega (arith, low))
    go (Some student) proper among = All-contains (λ t. is_school m t ≡ true) student.choices s proper.choices_known among

-- a student has no more choices than a list may name
pub choices-short : (m : Market) → WithinLimits m → (i : ℕ) → length (choices_of m i) ≤ LONGEST_LIST
unfolding choices_of
choices-short m within i = go (student_of m i) (All-lookup IsShort (nat_eq i) m.students within.lists)
  where
    go : (found : Option Student) → IfSome found IsShort → length (option_map_or (λ student. student.choices) found []) ≤ LONGEST_LIST
    go None short = omega arith
    go (Some student) short = short.choices
