-- What takes an amendment back.
use Rattle.std.proofs.Common.{◌≡◌, ℕ, ◌+◌, ◌-◌, ◌≤◌, nat_eq, true, false, List, [], ◌∷◌, ◌++◌, Option, Some, None, refl, sym, ap, ◌∙◌, eq-eqb, arith, inl, inr}
use Rattle.std.specs.Prelude.{is_some, nat_lt, not}
use Rattle.std.specs.Map.{lookup, remove_entry, set_value}
use Rattle.std.proofs.lemmas.Bool.{cases_Bool, le-ltb}
use Rattle.std.proofs.lemmas.Bool.Decides.{nat_tests}
use Rattle.std.proofs.lemmas.List.Elements.{All-cons, All-head, All-nil}
use Rattle.sc_papers.specs.Market.{Market, choices_of, is_school, is_student, continuing_of, school_of, seats_of, siblings_of, student_of, zone_of}
use Rattle.sc_papers.specs.TakingBack.{TakesBack}
use Rattle.sc_papers.specs.Verdict.{after, changed_school, changed_student, objections_to_add, objections_to_close, objections_to_correct, objections_to_rerank, unknown_in, unknown_student, verdict, with_student, with_seats}
use Rattle.sc_papers.specs.WellFormed.{IsProper, IsShort, WellFormed, WithinLimits}
use Rattle.sc_papers.specs.declared.amendment.Amendment.TheVariants.{Enter, Withdraw, Rerank, Add, Close, Correct}
use Rattle.sc_papers.specs.declared.amendment.Refusal.TheVariants.{TooFewSeats, TooManySeats, UnknownStudent}
use Rattle.sc_papers.specs.declared.records.School.{School}
use Rattle.sc_papers.specs.declared.records.Student.{Student}
use Rattle.sc_papers.specs.declared.seats.TheConstants.Seats.{GREATEST}
use Rattle.sc_papers.proofs.Changing.{All-found, put_school, put_student}
use Rattle.sc_papers.proofs.Entering.{MayEnter-allowed}
use Rattle.sc_papers.proofs.Objections.{refuse_if-none, unknown_in-none}
use Rattle.sc_papers.proofs.Unobjected.{none-first_of, none-no_choices, none-refuse_if, none-too_long, none-twice_in, none-unknown_in, none-unknown_school, none-unknown_student}

-- the choices that the papers hold
pub choices-found : (m : Market) (i : ℕ) (student : Student) → Some student ≡ student_of m i → student.choices ≡ choices_of m i
unfolding choices_of
choices-found m i student found = rw (← found) refl

-- the zone, the siblings and the continuing school
pub circumstances-found : (m : Market) (i : ℕ) (student : Student) → Some student ≡ student_of m i
    → (let old : ℕ × List ℕ × Option ℕ = (student.zone, student.siblings, student.continuing) in old) ≡ (zone_of m i, siblings_of m i, continuing_of m i)
circumstances-found m i student found = rw (← found) refl

-- a key that is put last is found
lookup-last : {X : Type 0} (i : ℕ) (x : X) (es : List (ℕ × X)) → lookup (nat_eq i) es ≡ None → lookup (nat_eq i) (es ++ (i, x) ∷ []) ≡ Some x
lookup-last i x [] none = rw (eq-eqb i i refl) refl
lookup-last i x (e ∷ es) none =
    elim (cases_Bool (nat_eq i e.0)) [
      | inl here ↦ let some : Some e.1 ≡ None = rw here at none in cc
      | inr other ↦ rw other (lookup-last i x es (rw other at none))
    ]

-- and removed again
pub remove-last : {X : Type 0} (i : ℕ) (x : X) (es : List (ℕ × X)) → lookup (nat_eq i) es ≡ None → remove_entry (nat_eq i) (es ++ (i, x) ∷ []) ≡ es
remove-last i x [] none = rw (eq-eqb i i refl) refl
remove-last i x (e ∷ es) none =
    elim (cases_Bool (nat_eq i e.0)) [
      | inl here ↦ let some : Some e.1 ≡ None = rw here at none in cc
      | inr other ↦ rw other (ap (λ rest. e ∷ rest) (remove-last i x es (rw other at none)))
    ]

-- a value that is put in is found
lookup-put : {X : Type 0} (i : ℕ) (x w : X) (es : List (ℕ × X)) → lookup (nat_eq i) es ≡ Some x → lookup (nat_eq i) (set_value (nat_eq i) es w) ≡ Some w
lookup-put i x w [] found = cc
lookup-put i x w (e ∷ es) found =
    elim (cases_Bool (nat_eq i e.0)) [
      | inl here ↦ rw (here, here) refl
      | inr other ↦ rw (other, other) (lookup-put i x w es (rw other at found))
    ]

-- with the old value put in again, the entries are as they were
put-again : {X : Type 0} (i : ℕ) (x w : X) (es : List (ℕ × X)) → lookup (nat_eq i) es ≡ Some x → set_value (nat_eq i) (set_value (nat_eq i) es w) x ≡ es
put-again i x w [] found = refl
put-again i x w (e ∷ es) found =
    elim (cases_Bool (nat_eq i e.0)) [
      | inl here ↦
          let some : Some e.1 ≡ Some x = rw here at found in
          let same : x ≡ e.1 = cc in
          rw (here, here, same) refl
      | inr other ↦ rw (other, other) (ap (λ rest. e ∷ rest) (put-again i x w es (rw other at found)))
    ]

-- a student who is in the papers, as they hold them
pub known-student : (m : Market) (i : ℕ) → unknown_student m i ≡ None → (student : Student) × (student_of m i ≡ Some student)
known-student m i allowed = by_case (student_of m i) (refuse_if-none (not (is_student m i)) UnknownStudent allowed)
  where
    by_case : (found : Option Student) → not (is_some found) ≡ false → (student : Student) × (found ≡ Some student)
    by_case None known = cc
    by_case (Some student) known = (student, refl)

-- a school that is in the papers, as they hold it
pub known-school : (m : Market) (s : ℕ) → unknown_in m (s ∷ []) ≡ None → (school : School) × (school_of m s ≡ Some school)
known-school m s allowed = by_case (school_of m s) (All-head (λ t. is_school m t ≡ true) s [] (unknown_in-none m (s ∷ []) allowed))
  where
    by_case : (found : Option School) → is_some found ≡ true → (school : School) × (found ≡ Some school)
    by_case None known = cc
    by_case (Some school) known = (school, refl)

-- what the papers hold of a student, changed there and back
changed-back : (m : Market) (i : ℕ) (student : Student) (change back : Student → Student) → student_of m i ≡ Some student → back (change student) ≡ student
    → changed_student (changed_student m i change) i back ≡ m
changed-back m i student change back found same =
    let there : student_of (put_student m i (change student)) i ≡ Some (change student) = lookup-put i student (change student) m.students found in
    let again = put-again i student (change student) m.students found in
    rw (found, there, same, again) refl

-- what the papers hold of a school
school-changed-back : (m : Market) (s : ℕ) (school : School) (change back : School → School) → school_of m s ≡ Some school → back (change school) ≡ school
    → changed_school (changed_school m s change) s back ≡ m
school-changed-back m s school change back found same =
    let there : school_of (put_school m s (change school)) s ≡ Some (change school) = lookup-put s school (change school) m.schools found in
    let again = put-again s school (change school) m.schools found in
    rw (found, there, same, again) refl

-- whoever entered withdraws
pub takes-back-enter : (m : Market) (i zone : ℕ) (siblings choices : List ℕ) (continuing : Option ℕ) → verdict m (Enter i zone siblings choices continuing) ≡ None
    → TakesBack m (after m (Enter i zone siblings choices continuing)) (Withdraw i)
takes-back-enter m i zone siblings choices continuing allowed =
    let student : Student = record { zone = zone; siblings = siblings; choices = choices; continuing = continuing } in
    let new = (MayEnter-allowed m i student allowed).new in
    let found : student_of (with_student m i student) i ≡ Some student = lookup-last i student m.students new in
    record {
      allowed = none-first_of (unknown_student (with_student m i student) i ∷ []) (none-unknown_student (with_student m i student) i (ap is_some found), tt);
      no_entry = refl;
      gives_back = rw (remove-last i student m.students new) refl;
    }

-- the old choices replace the new ones
pub reranked-back : (m : Market) (i : ℕ) (choices : List ℕ) (student : Student) → student_of m i ≡ Some student → WellFormed m → WithinLimits m
    → TakesBack m (after m (Rerank i choices)) (Rerank i (choices_of m i))
reranked-back m i choices student found well within =
    let reranked = record student { choices = choices } in
    let now = put_student m i reranked in
    let proper = All-found (IsProper m) i m.students student (sym found) well.students_proper in
    let short = All-found IsShort i m.students student (sym found) within.lists in
    let there : student_of now i ≡ Some reranked = lookup-put i student reranked m.students found in
    let after-is : after m (Rerank i choices) ≡ now = rw found refl in
    let old-is : choices_of m i ≡ student.choices = sym (choices-found m i student (sym found)) in
    record {
      allowed =
          rw (after-is, old-is)
          (none-first_of (objections_to_rerank now i student.choices) (
            none-unknown_student now i (ap is_some there),
            (
              none-no_choices student.choices proper.choices_some,
              (none-too_long student.choices short.choices, (none-unknown_in now student.choices proper.choices_known, (none-twice_in student.choices proper.choices_differ, tt))),
            ),
          ));
      no_entry = refl;
      gives_back =
          rw old-is
          (changed-back m i student (λ held. record held { choices = choices }) (λ held. record held { choices = student.choices }) found refl);
    }

-- the old zone, siblings and continuing school replace the new ones
pub corrected-back : (m : Market) (i zone : ℕ) (siblings : List ℕ) (continuing : Option ℕ) (student : Student) → student_of m i ≡ Some student → WellFormed m → WithinLimits m
    → TakesBack m (after m (Correct i zone siblings continuing)) (Correct i (zone_of m i) (siblings_of m i) (continuing_of m i))
corrected-back m i zone siblings continuing student found well within =
    let corrected = record student { zone = zone; siblings = siblings; continuing = continuing } in
    let now = put_student m i corrected in
    let proper = All-found (IsProper m) i m.students student (sym found) well.students_proper in
    let short = All-found IsShort i m.students student (sym found) within.lists in
    let there : student_of now i ≡ Some corrected = lookup-put i student corrected m.students found in
    let after-is : after m (Correct i zone siblings continuing) ≡ now = rw found refl in
    let zone-is : zone_of m i ≡ student.zone = rw found refl in
    let siblings-is : siblings_of m i ≡ student.siblings = rw found refl in
    let continuing-is : continuing_of m i ≡ student.continuing = rw found refl in
    record {
      allowed =
          rw (after-is, siblings-is, continuing-is)
          (none-first_of (objections_to_correct now i student.siblings student.continuing) (
            none-unknown_student now i (ap is_some there),
            (
              none-too_long student.siblings short.siblings,
              (none-unknown_in now student.siblings proper.siblings_known, (none-unknown_school now student.continuing proper.continuing_known, (none-twice_in student.siblings proper.siblings_differ, tt))),
            ),
          ));
      no_entry = refl;
      gives_back =
          rw (zone-is, siblings-is, continuing-is)
          (changed-back m i student (λ held. record held { zone = zone; siblings = siblings; continuing = continuing })
          (λ held. record held { zone = student.zone; siblings = student.siblings; continuing = student.continuing }) found refl);
    }

-- a school's seats, where it is in the papers
seats-found : (m : Market) (s : ℕ) (school : School) → school_of m s ≡ Some school → seats_of m s ≡ school.seats
unfolding seats_of
seats-found m s school found = rw found refl

known-there : (m : Market) (s : ℕ) (school : School) → school_of m s ≡ Some school → unknown_in m (s ∷ []) ≡ None
known-there m s school found = none-unknown_in m (s ∷ []) (All-cons (λ t. is_school m t ≡ true) s [] (ap is_some found) (All-nil (λ t. is_school m t ≡ true)))

-- as many seats are closed as were added
pub added-back : (m : Market) (s count : ℕ) (school : School) → school_of m s ≡ Some school → TakesBack m (after m (Add s count)) (Close s count)
added-back m s count school found =
    let before = seats-found m s school found in
    let larger = record school { seats = seats_of m s + count } in
    let now = put_school m s larger in
    let there : school_of now s ≡ Some larger = lookup-put s school larger m.schools found in
    let seats-is : seats_of now s ≡ seats_of m s + count = seats-found now s larger there in
    let after-is : after m (Add s count) ≡ now = rw found refl in
    let same : seats_of now s - count ≡ school.seats = omega arith in
    record {
      allowed =
          rw after-is
          (none-first_of (objections_to_close now s count)
          (known-there now s larger there, (none-refuse_if (nat_lt (seats_of now s) count) TooFewSeats (rw seats-is (grind (arith, nat_tests))), tt)));
      no_entry = refl;
      gives_back =
          ap (λ (n : Market). with_seats n s (seats_of n s - count)) after-is
          ∙ ap (λ (seats : ℕ). with_seats now s seats) same
          ∙ ap (λ (n : Market). with_seats n s school.seats) (sym after-is)
          ∙ school-changed-back m s school (λ held. record held { seats = seats_of m s + count }) (λ held. record held { seats = school.seats }) found refl;
    }

-- as many are added as were closed
pub closed-back : (m : Market) (s count : ℕ) (school : School) → school_of m s ≡ Some school → count ≤ seats_of m s → WithinLimits m
    → TakesBack m (after m (Close s count)) (Add s count)
closed-back m s count school found enough within =
    let before = seats-found m s school found in
    let most : school.seats ≤ GREATEST = All-found (λ (held : School). held.seats ≤ GREATEST) s m.schools school (sym found) within.seats in
    let smaller = record school { seats = seats_of m s - count } in
    let now = put_school m s smaller in
    let there : school_of now s ≡ Some smaller = lookup-put s school smaller m.schools found in
    let seats-is : seats_of now s ≡ seats_of m s - count = seats-found now s smaller there in
    let after-is : after m (Close s count) ≡ now = rw found refl in
    let same : seats_of now s + count ≡ school.seats = omega arith in
    record {
      allowed =
          rw after-is
          (none-first_of (objections_to_add now s count)
          (known-there now s smaller there, (none-refuse_if (nat_lt GREATEST (seats_of now s + count)) TooManySeats (rw same (le-ltb GREATEST school.seats most)), tt)));
      no_entry = refl;
      gives_back =
          ap (λ (n : Market). with_seats n s (seats_of n s + count)) after-is
          ∙ ap (λ (seats : ℕ). with_seats now s seats) same
          ∙ ap (λ (n : Market). with_seats n s school.seats) (sym after-is)
          ∙ school-changed-back m s school (λ held. record held { seats = seats_of m s - count }) (λ held. record held { seats = school.seats }) found refl;
    }
