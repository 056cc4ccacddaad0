-- Rejection logs: the induction of Gale and Shapley's proof, written as a list. A log certifies a
-- matching, whoever made it.
use Rattle.std.specs.Prelude.{◌≡◌, ℕ, ◌≤◌, ◌==◌, Bool, ◌&&◌, not, List, [], ◌∷◌, ◌++◌, Option, Some}
use Rattle.std.specs.Bool.{⊤}
use Rattle.std.specs.List.{find, list_any}
use Rattle.sc_papers.specs.Market.{Market, choices_of, seats_of}
use Rattle.sc_papers.specs.Key.{is_ahead}
use Rattle.sc_papers.specs.Matching.{Matching, how_many, has, WithinSeats}
use Rattle.sc_papers.specs.declared.rejection.Rejection.{Rejection}

-- whether the log says that school s rejected student i
abbrev pub is_rejected : List Rejection → ℕ → ℕ → Bool
is_rejected log i s = list_any (λ entry. entry.student == i && entry.school == s) log

-- the first of student i's choices that has not rejected i, if there is one
unfoldable pub next_choice : Market → List Rejection → ℕ → Option ℕ
next_choice m log i = find (λ s. not (is_rejected log i s)) (choices_of m i)

-- what a log gives each student: the next choice
abbrev pub matching_of : Market → List Rejection → Matching
matching_of m log = λ i. next_choice m log i

-- how many students, whose next choice is s, are ahead there of student i
abbrev pub rivals : Market → List Rejection → ℕ → ℕ → ℕ
rivals m log i s = how_many m (λ j. has (matching_of m log) s j && is_ahead m s j i)

-- an entry is valid after a log: the school is the student's next choice, and at least as many
-- others as it has seats, whose next choice it is, are ahead of the student there
pub record IsValidEntry (m : Market) (log : List Rejection) (entry : Rejection) : Type 0 where
  pub next : next_choice m log entry.student ≡ Some entry.school
  pub full : seats_of m entry.school ≤ rivals m log entry.student entry.school

-- each entry of the rest is valid after the log and the entries before it
abbrev pub IsValidAfter : Market → List Rejection → List Rejection → Type 0
IsValidAfter m log [] = ⊤
IsValidAfter m log (entry ∷ rest) = IsValidEntry m log entry × IsValidAfter m (log ++ entry ∷ []) rest

-- every entry is valid after those before it
abbrev pub IsValidLog : Market → List Rejection → Type 0
IsValidLog m log = IsValidAfter m [] log

-- a valid log at whose end no school is the next choice of more students than it has seats
pub record IsSettled (m : Market) (log : List Rejection) : Type 0 where
  pub valid : IsValidLog m log
  pub within_seats : WithinSeats m (matching_of m log)
