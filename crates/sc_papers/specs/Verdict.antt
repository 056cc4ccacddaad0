-- What the rules answer to an amendment: its refusal, or the papers after it.
use Rattle.std.specs.Prelude.{◌≡◌, ℕ, ◌+◌, ◌-◌, ◌==◌, Bool, not, nat_eq, nat_lt, nat_le, List, [], ◌∷◌, ◌++◌, length, Option, None, Some, Result, Ok, Err, find, if◌then◌else◌}
use Rattle.std.specs.Option.{option_and_then, option_map, option_map_or}
use Rattle.std.specs.List.{list_any}
use Rattle.std.specs.Map.{remove_entry, set_value}
use Rattle.sc_papers.specs.Market.{Market, is_school, is_student, school_of, student_of, seats_of}
use Rattle.sc_papers.specs.declared.limits.TheConstants.{LONGEST_LIST, MOST_SCHOOLS, MOST_STUDENTS}
use Rattle.sc_papers.specs.declared.seats.TheConstants.Seats.{GREATEST}
use Rattle.sc_papers.specs.declared.records.School.{School}
use Rattle.sc_papers.specs.declared.records.Student.{Student}
use Rattle.sc_papers.specs.declared.school_refusal.SchoolRefusal.{SchoolRefusal}
use Rattle.sc_papers.specs.declared.school_refusal.SchoolRefusal.TheVariants.{SchoolExists, TooManySchools, SchoolsClosed, OutOfMemory as no_memory}
use Rattle.sc_papers.specs.declared.amendment.Amendment.{Amendment}
use Rattle.sc_papers.specs.declared.amendment.Amendment.TheVariants.{Enter, Withdraw, Rerank, Add, Close, Correct}
use Rattle.sc_papers.specs.declared.amendment.Refusal.{Refusal}
use Rattle.sc_papers.specs.declared.amendment.Refusal.TheVariants.{UnknownStudent, StudentExists, EmptyList, ListTooLong, UnknownSchool, SchoolTwice, RosterFull, TooManySeats, TooFewSeats, OutOfMemory}

-- an objection: this refusal, where the test holds
abbrev pub refuse_if : {R : Type 0} → Bool → R → Option R
refuse_if test r = if test then Some r else None

-- a list of schools may not be longer than the longest
abbrev pub too_long : List ℕ → Option Refusal
too_long xs = refuse_if (nat_lt LONGEST_LIST (length xs)) ListTooLong

-- the first school of the list that is not in the papers
abbrev pub unknown_in : Market → List ℕ → Option Refusal
unknown_in m xs = option_map UnknownSchool (find (λ s. not (is_school m s)) xs)

-- a school that comes alone, if there is one, has to be in the papers
abbrev pub unknown_school : Market → Option ℕ → Option Refusal
unknown_school m school = option_and_then (λ s. unknown_in m (s ∷ [])) school

-- the first of xs that equals an earlier one, where `earlier` stands before xs
abbrev pub first_repeat : List ℕ → List ℕ → Option ℕ
first_repeat earlier [] = None
first_repeat earlier (x ∷ xs) = if list_any (λ t. t == x) earlier then Some x else first_repeat (earlier ++ x ∷ []) xs

-- the first school of the list that the list names twice
abbrev pub twice_in : List ℕ → Option Refusal
twice_in xs = option_map SchoolTwice (first_repeat [] xs)

-- there have to be choices
abbrev pub no_choices : List ℕ → Option Refusal
no_choices choices = refuse_if (length choices == 0) EmptyList

-- what can be said against entering a student, in the order of the refusals' codes; under one code
-- the choices come before the siblings, and these before the school at which the student continues
abbrev pub objections_to_enter : Market → ℕ → List ℕ → List ℕ → Option ℕ → List (Option Refusal)
objections_to_enter m i siblings choices continuing =
    refuse_if (is_student m i) StudentExists
    ∷ no_choices choices
    ∷ too_long choices ∷ too_long siblings
    ∷ unknown_in m choices ∷ unknown_in m siblings ∷ unknown_school m continuing
    ∷ twice_in choices ∷ twice_in siblings
    ∷ refuse_if (nat_le MOST_STUDENTS (length m.students)) RosterFull
    ∷ []

-- the student has to be in the papers
abbrev pub unknown_student : Market → ℕ → Option Refusal
unknown_student m i = refuse_if (not (is_student m i)) UnknownStudent

-- what can be said against withdrawing a student
abbrev pub objections_to_withdraw : Market → ℕ → List (Option Refusal)
objections_to_withdraw m i = unknown_student m i ∷ []

-- what can be said against a list that comes alone
abbrev pub objections_to_list : Market → List ℕ → List (Option Refusal)
objections_to_list m xs = too_long xs ∷ unknown_in m xs ∷ twice_in xs ∷ []

-- what can be said against new choices, in the order of the refusals' codes
abbrev pub objections_to_rerank : Market → ℕ → List ℕ → List (Option Refusal)
objections_to_rerank m i choices =
    unknown_student m i
    ∷ no_choices choices
    ∷ objections_to_list m choices

-- what can be said against more seats, in the order of the refusals' codes
abbrev pub objections_to_add : Market → ℕ → ℕ → List (Option Refusal)
objections_to_add m s count =
    unknown_in m (s ∷ [])
    ∷ refuse_if (nat_lt GREATEST (seats_of m s + count)) TooManySeats
    ∷ []

-- what can be said against fewer seats, in the order of the refusals' codes
abbrev pub objections_to_close : Market → ℕ → ℕ → List (Option Refusal)
objections_to_close m s count =
    unknown_in m (s ∷ [])
    ∷ refuse_if (nat_lt (seats_of m s) count) TooFewSeats
    ∷ []

-- what can be said against other circumstances, in the order of the refusals' codes; no zone is refused
abbrev pub objections_to_correct : Market → ℕ → List ℕ → Option ℕ → List (Option Refusal)
objections_to_correct m i siblings continuing =
    unknown_student m i
    ∷ too_long siblings
    ∷ unknown_in m siblings ∷ unknown_school m continuing
    ∷ twice_in siblings
    ∷ []

-- what can be said against an amendment
abbrev pub objections : Market → Amendment → List (Option Refusal)
objections m (Enter i zone siblings choices continuing) = objections_to_enter m i siblings choices continuing
objections m (Withdraw i) = objections_to_withdraw m i
objections m (Rerank i choices) = objections_to_rerank m i choices
objections m (Add s count) = objections_to_add m s count
objections m (Close s count) = objections_to_close m s count
objections m (Correct i zone siblings continuing) = objections_to_correct m i siblings continuing

-- the first objection of the list that applies
abbrev pub first_of : {R : Type 0} → List (Option R) → Option R
first_of [] = None
first_of (None ∷ rest) = first_of rest
first_of (Some r ∷ rest) = Some r

-- the refusal of an amendment, if there is one
abbrev pub verdict : Market → Amendment → Option Refusal
verdict m a = first_of (objections m a)

-- the papers with one more student, put last in the order of entry
abbrev pub with_student : Market → ℕ → Student → Market
with_student m i student = record m { students = m.students ++ (i, student) ∷ [] }

-- the papers without the student; the others keep their order
abbrev pub without_student : Market → ℕ → Market
without_student m i = record m { students = remove_entry (nat_eq i) m.students }

-- the papers with what they hold of the student changed, in its place in the order of entry
abbrev pub changed_student : Market → ℕ → (Student → Student) → Market
changed_student m i change =
    option_map_or (λ student. record m { students = set_value (nat_eq i) m.students (change student) }) (student_of m i) m

-- the papers with what they hold of the school changed, in its place in the order of entry
abbrev pub changed_school : Market → ℕ → (School → School) → Market
changed_school m s change =
    option_map_or (λ school. record m { schools = set_value (nat_eq s) m.schools (change school) }) (school_of m s) m

-- the papers with these choices for the student
abbrev pub with_choices : Market → ℕ → List ℕ → Market
with_choices m i choices = changed_student m i (λ student. record student { choices = choices })

-- the papers with these circumstances of the student: the zone, the siblings, and the school at which
-- the student continues
abbrev pub with_circumstances : Market → ℕ → ℕ → List ℕ → Option ℕ → Market
with_circumstances m i zone siblings continuing =
    changed_student m i (λ student. record student { zone = zone; siblings = siblings; continuing = continuing })

-- the papers with so many seats for the school
abbrev pub with_seats : Market → ℕ → ℕ → Market
with_seats m s seats = changed_school m s (λ school. record school { seats = seats })

-- the papers after an amendment that is not refused
abbrev pub after : Market → Amendment → Market
after m (Enter i zone siblings choices continuing) =
    with_student m i (record { zone = zone; siblings = siblings; choices = choices; continuing = continuing })
after m (Withdraw i) = without_student m i
after m (Rerank i choices) = with_choices m i choices
after m (Add s count) = with_seats m s (seats_of m s + count)
after m (Close s count) = with_seats m s (seats_of m s - count)
after m (Correct i zone siblings continuing) = with_circumstances m i zone siblings continuing

-- what can be said against adding a school, in the order of the tests
abbrev pub school_verdict : Market → ℕ → Option SchoolRefusal
school_verdict m s =
    first_of
    (refuse_if (is_school m s) SchoolExists
    ∷ refuse_if (nat_le MOST_SCHOOLS (length m.schools)) TooManySchools
    ∷ refuse_if (nat_lt 0 (length m.students)) SchoolsClosed
    ∷ [])

-- the papers with one more school, put last in the order of entry
abbrev pub with_school : Market → ℕ → School → Market
with_school m s school = record m { schools = m.schools ++ (s, school) ∷ [] }

-- `add_school`'s error: the refusal, and want of memory only where there is none
abbrev pub IsSchoolRefusal : Option SchoolRefusal → SchoolRefusal → Type 0
IsSchoolRefusal None r = r ≡ no_memory
IsSchoolRefusal (Some refusal) r = r ≡ refusal

-- `check`'s answer: the refusal, or nothing
abbrev pub unless_refused : Option Refusal → Result (Unit {0}) Refusal
unless_refused None = Ok tt
unless_refused (Some r) = Err r

-- `apply`'s error: the refusal, and want of memory only where there is none
abbrev pub IsRefusal : Option Refusal → Refusal → Type 0
IsRefusal None r = r ≡ OutOfMemory
IsRefusal (Some refusal) r = r ≡ refusal
