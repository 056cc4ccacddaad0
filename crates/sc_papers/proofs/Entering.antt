-- A student who may enter leaves the papers well-formed and within their limits.
use Rattle.std.proofs.Common.{◌≡◌, ℕ, ◌<◌, ◌==◌, nat_eq, true, false, List, [], ◌∷◌, ◌++◌, length, Option, Some, None, refl, ap, arith, length-append, inl, inr}
use Rattle.std.specs.Prelude.{nat_le, is_some}
use Rattle.std.specs.Map.{keys_of, lookup}
use Rattle.std.specs.List.{list_any}
use Rattle.std.proofs.lemmas.Bool.{cases_Bool}
use Rattle.std.proofs.lemmas.Bool.Decides.{nat_tests}
use Rattle.std.proofs.lemmas.Cmp.{nat_eq_equiv}
use Rattle.std.proofs.lemmas.List.Elements.{All-push}
use Rattle.std.proofs.lemmas.Map.Keys.{IsDistinct-push}
use Rattle.std.proofs.lemmas.Option.{IfSome_then}
use Rattle.sc_papers.specs.Market.{Market, is_school, is_student}
use Rattle.sc_papers.specs.Verdict.{first_of, objections_to_enter, with_student}
use Rattle.sc_papers.specs.WellFormed.{WellFormed, WithinLimits, IsProper, IsShort}
use Rattle.sc_papers.specs.declared.records.Student.{Student}
use Rattle.sc_papers.specs.declared.amendment.Refusal.TheVariants.{StudentExists, EmptyList, RosterFull}
use Rattle.sc_papers.proofs.Objections.{first_of-none, refuse_if-none, too_long-none, twice_in-none, unknown_in-none, unknown_school-none}
use Rattle.sc_papers.specs.declared.limits.TheConstants.{MOST_STUDENTS}

-- what it takes to enter
pub record MayEnter (m : Market) (i : ℕ) (student : Student) : Type 0 where
  pub new : lookup (nat_eq i) m.students ≡ None
  pub room : length m.students < MOST_STUDENTS
  pub lists : IsProper m student
  pub short : IsShort student

pub is_some-false : {A : Type 0} (o : Option A) → is_some o ≡ false → o ≡ None
is_some-false None e = refl
is_some-false (Some x) e = cc

-- nothing said against it, the student may
pub MayEnter-allowed : (m : Market) (i : ℕ) (student : Student)
    → first_of (objections_to_enter m i student.siblings student.choices student.continuing) ≡ None → MayEnter m i student
MayEnter-allowed m i student allowed =
    let choices = student.choices in
    let siblings = student.siblings in
    let none = first_of-none (objections_to_enter m i siblings choices student.continuing) allowed in
    let rest = none.1.1 in
    let named = rest.1.1.1.1.1 in
    let some : (length choices == 0) ≡ false = refuse_if-none (length choices == 0) EmptyList none.1.0 in
    let room : nat_le MOST_STUDENTS (length m.students) ≡ false = refuse_if-none (nat_le MOST_STUDENTS (length m.students)) RosterFull named.1.1.0 in
    record {
      new = is_some-false (lookup (nat_eq i) m.students) (refuse_if-none (is_student m i) StudentExists none.0);
      room = grind (arith, nat_tests);
      lists = record {
        choices_some = grind (arith, nat_tests);
        choices_known = unknown_in-none m choices rest.1.1.0;
        choices_differ = twice_in-none choices named.0;
        siblings_known = unknown_in-none m siblings rest.1.1.1.0;
        siblings_differ = twice_in-none siblings named.1.0;
        continuing_known = unknown_school-none m student.continuing rest.1.1.1.1.0;
      };
      short = record { choices = too_long-none choices rest.0; siblings = too_long-none siblings rest.1.0 };
    }

-- no key is equal to one that a look-up does not find
pub list_any-keys : {X : Type 0} (i : ℕ) (es : List (ℕ × X)) → lookup (nat_eq i) es ≡ None → list_any (nat_eq i) (keys_of es) ≡ false
list_any-keys i [] none = refl
list_any-keys i (e ∷ es) none =
    elim (cases_Bool (nat_eq i e.0)) [
      | inl same ↦ let some : Some e.1 ≡ None = rw same at none in cc
      | inr other ↦ rw other (list_any-keys i es (rw other at none))
    ]

-- the keys of one entry more
pub keys_of-push : {X : Type 0} (es : List (ℕ × X)) (e : ℕ × X) → keys_of (es ++ e ∷ []) ≡ keys_of es ++ e.0 ∷ []
keys_of-push [] e = refl
keys_of-push (x ∷ es) e = ap (λ ks. x.0 ∷ ks) (keys_of-push es e)

-- lists that are proper stay so in papers that know the same schools
pub IsProper-known : (m n : Market) → ((s : ℕ) → is_school m s ≡ true → is_school n s ≡ true)
    → (student : Student) → IsProper m student → IsProper n student
IsProper-known m n known student proper = record {
  choices_some = proper.choices_some;
  choices_known = λ k d here. known _ (proper.choices_known k d here);
  choices_differ = proper.choices_differ;
  siblings_known = λ k d here. known _ (proper.siblings_known k d here);
  siblings_differ = proper.siblings_differ;
  continuing_known = IfSome_then student.continuing proper.continuing_known known;
}

-- the papers stay well-formed
pub WellFormed-with_student : (m : Market) (i : ℕ) (student : Student) → WellFormed m → MayEnter m i student → WellFormed (with_student m i student)
WellFormed-with_student m i student formed may = record {
  schools_differ = formed.schools_differ;
  students_differ = rw (keys_of-push m.students (i, student)) (IsDistinct-push nat_eq_equiv (keys_of m.students) i formed.students_differ (list_any-keys i m.students may.new));
  students_proper =
      let proper = IsProper-known m (with_student m i student) (λ s known. known) in
      All-push (λ (entry : ℕ × Student). IsProper (with_student m i student) entry.1) m.students (i, student)
      (λ k d here. proper _ (formed.students_proper k d here)) (proper student may.lists);
}

-- and within the limits
pub WithinLimits-with_student : (m : Market) (i : ℕ) (student : Student) → WithinLimits m → MayEnter m i student → WithinLimits (with_student m i student)
WithinLimits-with_student m i student within may = record {
  schools = within.schools;
  seats = within.seats;
  students = let room = may.room in omega (arith, length-append m.students ((i, student) ∷ []));
  lists = All-push (λ (entry : ℕ × Student). IsShort entry.1) m.students (i, student) within.lists may.short;
}
