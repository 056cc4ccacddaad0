-- How a student enters whose choices go by where their schools stand.
use Rattle.std.specs.Prelude.{◌≡◌, ℕ, nat_le, List, [], ◌∷◌, length, Option, None}
use Rattle.sc_papers.specs.Market.{Market, is_student, schools_of}
use Rattle.sc_papers.specs.Placed.{schools_at, AreOfSchools}
use Rattle.sc_papers.specs.Verdict.{first_of, no_choices, objections_to_enter, refuse_if, too_long, twice_in, unknown_in, unknown_school}
use Rattle.sc_papers.specs.declared.amendment.Refusal.{Refusal}
use Rattle.sc_papers.specs.declared.amendment.Refusal.TheVariants.{RosterFull, StudentExists}
use Rattle.sc_papers.specs.declared.limits.TheConstants.{MOST_STUDENTS}
use Rattle.sc_papers.specs.declared.records.Student.{Student}

-- nothing can be said against entering the student, if the schools of their choices stand at these positions
pub record MayEnterAt (m : Market) (i : ℕ) (student : Student) (positions : List ℕ) : Type 0 where
  pub within : AreOfSchools m positions
  pub allowed : first_of (objections_to_enter m i student.siblings (schools_at (schools_of m) positions) student.continuing) ≡ None

-- the student with the choices whose schools stand at these positions
abbrev pub with_choices_at : Market → List ℕ → Student → Student
with_choices_at m positions student = record student { choices = schools_at (schools_of m) positions }

-- what can be said against entering a student, where the schools of their choices stand at positions that differ and are few
abbrev pub objections_to_enter_at : Market → ℕ → List ℕ → List ℕ → Option ℕ → List (Option Refusal)
objections_to_enter_at m i siblings positions continuing =
    refuse_if (is_student m i) StudentExists
    ∷ no_choices positions
    ∷ too_long siblings
    ∷ unknown_in m siblings ∷ unknown_school m continuing
    ∷ twice_in siblings
    ∷ refuse_if (nat_le MOST_STUDENTS (length m.students)) RosterFull
    ∷ []
