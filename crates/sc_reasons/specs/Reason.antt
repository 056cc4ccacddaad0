-- Reasons: why a student does not have a choice that they prefer to what they have.
use Rattle.std.specs.Prelude.{ℕ, ◌<◌, ◌≡◌, ◌==◌, ◌&&◌, true, nat_eq, nat_lt, List, map, flat_map, count_by, position, slice_get, Some, if◌then◌else◌}
use Rattle.std.specs.List.{before_first}
use Rattle.sc_papers.specs.Classed.{Classed}
use Rattle.sc_papers.specs.Key.{class_at, is_before, key_of}
use Rattle.sc_papers.specs.Market.{Market, choices_of, schools_of, students_of}
use Rattle.sc_papers.specs.Matching.{Matching, has}
use Rattle.sc_papers.specs.declared.key.Key.{Key}
use Rattle.sc_reasons.specs.Cutoff.{cutoff}
use Rattle.sc_reasons.specs.Rising.{rising}
use Rattle.sc_reasons.specs.declared.cutoff.Cutoff.{Cutoff}
use Rattle.sc_reasons.specs.declared.cutoff.Cutoff.TheVariants.{Closed, Free, Full}
use Rattle.sc_reasons.specs.declared.reason.Reason.{Reason}
use Rattle.sc_reasons.specs.declared.reason.Reason.TheVariants.{Seats, Class, Lottery}
use Rattle.sc_reasons.specs.declared.reason.ReasonRow.{ReasonRow}

-- the choices that i prefers to what it has: those before it, or all where it has none
abbrev pub preferred : Market → Matching → ℕ → List ℕ
preferred m a i = before_first (λ s. has a s i) (choices_of m i)

-- why a key does not get past a cutoff: there are no seats, the class decided, or the lottery
abbrev pub reason_by : Cutoff → Key → Reason
reason_by Closed key = Seats
reason_by Free key = Lottery
reason_by (Full last) key = if nat_lt last.class key.class then Class else Lottery

-- why i does not have s. In a stable matching one reason applies to each choice that i prefers
abbrev pub reason : Market → Matching → ℕ → ℕ → Reason
reason m a i s = reason_by (cutoff m a s) (key_of m i s)

-- the row of a student and a school
abbrev pub reason_row : Market → Matching → ℕ → ℕ → ReasonRow
reason_row m a i s = record { student = i; school = s; reason = reason m a i s }

-- a student's rows, in order of choice
unfoldable pub reasons_of : Market → Matching → ℕ → List ReasonRow
reasons_of m a i = map (reason_row m a i) (preferred m a i)

-- these are the choices that i prefers to what it has, as the papers keep them
pub record AreMissed (m : Market) (a : Matching) (i : ℕ) (choices : List Classed) : Type 0 where
  pub positions : map Some (map (λ c. c.position) choices) ≡ map (λ s. position (nat_eq s) (schools_of m)) (preferred m a i)
  pub classes : map (λ c. c.class) choices ≡ map (class_at m i) (preferred m a i)

-- the student's row at a rank is of this choice
pub record IsMissed (m : Market) (a : Matching) (i rank : ℕ) (choice : Classed) : Type 0 where
  pub school : ℕ
  pub place : position (nat_eq school) (schools_of m) ≡ Some choice.position
  pub class : (key_of m i school).class ≡ choice.class
  pub row : slice_get (reasons_of m a i) rank ≡ Some (reason_row m a i school)

-- the rows of all students by rising number, and of each in order of choice
abbrev pub reason_rows : Market → Matching → List ReasonRow
reason_rows m a = flat_map (reasons_of m a) (rising (students_of m))

-- how many rows stand for a student and a school
unfoldable pub rows_for : Market → Matching → ℕ → ℕ → ℕ
rows_for m a i s = count_by (λ row. row.student == i && row.school == s) (reason_rows m a)

-- what each reason says of a student's key and a school's cutoff: the school is closed, the last
-- class admitted is smaller, or the class is the same and the key is after the last one admitted
abbrev pub Applies : Cutoff → Key → Reason → Type 0
Applies cutoff key Seats = cutoff ≡ Closed
Applies cutoff key Class = (last : Key) × (cutoff ≡ Full last) × (last.class < key.class)
Applies cutoff key Lottery = (last : Key) × (cutoff ≡ Full last) × (last.class ≡ key.class) × (is_before last key ≡ true)
