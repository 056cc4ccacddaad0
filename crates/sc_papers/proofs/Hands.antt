-- Students by their positions in the order of entry.
use Rattle.std.proofs.Common.{◌≡◌, refl, ap, sym, subst, ◌∙◌, ℕ, ◌<◌, ◌≤◌, nat_eq, true, [], length, Option, Some, None, IfSome, is_some, position, slice_get, arith}
use Rattle.std.specs.Option.{option_and_then, option_map_or}
use Rattle.std.proofs.lemmas.Bool.{false≢true}
use Rattle.std.proofs.lemmas.Map.Entries.{All-lookup, length-keys_of}
use Rattle.std.proofs.lemmas.Option.{get_or_from_slice_get, slice_get-get_or, none-some}
use Rattle.sc_papers.specs.Key.{key_of, key_at}
use Rattle.sc_papers.specs.Market.{Market, is_school, is_student, choices_of, schools_of, student_at, student_of, students_of}
use Rattle.sc_papers.specs.WellFormed.{WellFormed, WithinLimits, IsShort}
use Rattle.sc_papers.specs.declared.limits.TheConstants.{LONGEST_LIST}
use Rattle.sc_papers.specs.declared.records.Student.{Student}
use Rattle.sc_papers.proofs.Choices.{contains-at}
use Rattle.sc_papers.proofs.Positions.{among-student, place-position, position-at, position-there, school-position, student-position}

-- the student at a position stands there
pub hand-there : (m : Market) (at : ℕ) → at < length m.students → slice_get (students_of m) at ≡ Some (student_at m at)
hand-there m at low = slice_get-get_or (students_of m) at 0 (omega (arith, low, length-keys_of m.students))

pub hand-student : (m : Market) (at : ℕ) → at < length m.students → is_student m (student_at m at) ≡ true
hand-student m at low = among-student m (student_at m at) (contains-at (students_of m) at (student_at m at) (hand-there m at low))

-- and the position is the student's
pub hand-position : (m : Market) → WellFormed m → (at : ℕ) → at < length m.students → position (nat_eq (student_at m at)) (students_of m) ≡ Some at
hand-position m well at low = place-position m well at (student_at m at) (hand-there m at low)

-- who stands at a position is the student at it, and so is who has it
pub hand-is : (m : Market) (at i : ℕ) → slice_get (students_of m) at ≡ Some i → student_at m at ≡ i
hand-is m at i here = get_or_from_slice_get (students_of m) at i 0 here

pub student-there : (m : Market) (i at : ℕ) → position (nat_eq i) (students_of m) ≡ Some at → student_at m at ≡ i
student-there m i at found = hand-is m at i (position-there (students_of m) i at found)

pub position-low : (m : Market) (i at : ℕ) → position (nat_eq i) (students_of m) ≡ Some at → at < length m.students
position-low m i at found = omega (arith, (position-at (students_of m) i at found).0, length-keys_of m.students)

-- a student of the papers has a position, and a school too
pub has-position : (m : Market) (i : ℕ) → is_student m i ≡ true → None ≡ position (nat_eq i) (students_of m) → ⊥
has-position m i known none = let (at, found) = student-position m i known in none-some at (none ∙ found)

pub school-has_position : (m : Market) (s : ℕ) → is_school m s ≡ true → None ≡ position (nat_eq s) (schools_of m) → ⊥
school-has_position m s known none = let (at, found) = school-position m s known in none-some at (none ∙ found)

-- the key of the student at a position
pub hand-key : (m : Market) (hand s at : ℕ) → hand < length m.students → position (nat_eq s) (schools_of m) ≡ Some at → key_at m hand at ≡ Some (key_of m (student_at m hand) s)
hand-key m hand s at low school = rw (hand-there m hand low, position-there (schools_of m) s at school) refl

-- the record at a position is the student's
pub hand-record : (m : Market) (at : ℕ) → at < length m.students → option_and_then (student_of m) (slice_get (students_of m) at) ≡ student_of m (student_at m at)
hand-record m at low = ap (option_and_then (student_of m)) (hand-there m at low)

-- there is one
pub hand-recorded : (m : Market) (at : ℕ) → at < length m.students → None ≡ option_and_then (student_of m) (slice_get (students_of m) at) → ⊥
hand-recorded m at low none = false≢true (ap is_some (none ∙ hand-record m at low) ∙ hand-student m at low)

-- and it has the student's choices
pub hand-choices : (m : Market) (at : ℕ) (held : Student) → at < length m.students → Some held ≡ option_and_then (student_of m) (slice_get (students_of m) at) → held.choices ≡ choices_of m (student_at m at)
unfolding choices_of
hand-choices m at held low is = ap (λ o. option_map_or (λ student. student.choices) o []) (is ∙ hand-record m at low)

-- no student lists more choices than a list may name
pub record-short : (m : Market) → WithinLimits m → (at : ℕ) (held : Student) → Some held ≡ option_and_then (student_of m) (slice_get (students_of m) at) → length held.choices ≤ LONGEST_LIST
record-short m limits at held is = go (slice_get (students_of m) at) is
  where
    go : (found : Option ℕ) → Some held ≡ option_and_then (student_of m) found → length held.choices ≤ LONGEST_LIST
    go None none = absurd (none-some held (sym none))
    go (Some i) known =
        let short : IsShort held = subst (λ found. IfSome found IsShort) (sym known) (All-lookup IsShort (nat_eq i) m.students limits.lists) in
        short.choices
