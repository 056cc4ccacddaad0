-- Groups of schools: the number of each school's group, by the school's position in the order of entry.
use Rattle.std.specs.Prelude.{◌≡◌, ℕ, Bool, ◌==◌, nat_eq, None, List, [], ◌∷◌, ◌++◌, filter, length, map, min, max, slice_index, if◌then◌else◌}
use Rattle.std.specs.List.{fold, position_or_len, range_with_len}
use Rattle.sc_papers.specs.Market.{Market, schools_of, student_at, students_of, choices_of}
use Rattle.sc_papers.specs.Verdict.{verdict}
use Rattle.sc_papers.specs.declared.amendment.Amendment.{Amendment}
use Rattle.sc_papers.specs.declared.amendment.Amendment.TheVariants.{Enter, Withdraw, Rerank, Add, Close, Correct}

-- the number of a group, where another one becomes part of the kept one
abbrev pub moved : ℕ → ℕ → ℕ → ℕ
moved kept lost group = if group == lost then kept else group

-- the groups at two positions made one, under the lesser of their numbers
unfoldable pub joined : List ℕ → ℕ → ℕ → List ℕ
joined groups a b =
    map (moved (min (slice_index groups a) (slice_index groups b)) (max (slice_index groups a) (slice_index groups b))) groups

-- a school's position in the order of entry
abbrev pub position_of : Market → ℕ → ℕ
position_of m s = position_or_len (nat_eq s) (schools_of m)

-- the number of a school's group
abbrev pub group_of : Market → List ℕ → ℕ → ℕ
group_of m groups s = slice_index groups (position_of m s)

-- the groups with each school of a list joined to one school
unfoldable pub joined_list : Market → ℕ → List ℕ → List ℕ → List ℕ
joined_list m first groups list = fold (λ g s. joined g (position_of m first) (position_of m s)) groups list

-- a student's first choice
abbrev pub first_choice : Market → ℕ → ℕ
first_choice m i = slice_index (choices_of m i) 0

-- the groups with a student's choices joined
abbrev pub joined_choices : Market → List ℕ → ℕ → List ℕ
joined_choices m groups i = joined_list m (first_choice m i) groups (choices_of m i)

-- the schools, at first each in a group of its own, with the choices of each of these students joined
unfoldable pub joined_students : Market → List ℕ → List ℕ
joined_students m students = fold (joined_choices m) (range_with_len 0 (length (schools_of m))) students

-- a school that the amendment concerns: the amended one, or a choice of the amended student, by the
-- choices in the papers before or, where a student enters, by those that come with them
abbrev pub start_of : Market → Amendment → ℕ
start_of m (Enter i zone siblings choices continuing) = slice_index choices 0
start_of m (Withdraw i) = first_choice m i
start_of m (Rerank i choices) = first_choice m i
start_of m (Add s count) = s
start_of m (Close s count) = s
start_of m (Correct i zone siblings continuing) = first_choice m i

-- the choices that come with the amendment
abbrev pub new_choices : Amendment → List ℕ
new_choices (Enter i zone siblings choices continuing) = choices
new_choices (Rerank i choices) = choices
new_choices _ = []

-- the student who enters, if one does
abbrev pub entrants : Amendment → List ℕ
entrants (Enter i zone siblings choices continuing) = i ∷ []
entrants _ = []

-- the positions of the schools of a group, rising
unfoldable pub schools_of_group : List ℕ → ℕ → List ℕ
schools_of_group groups group = filter (λ at. slice_index groups at == group) (range_with_len 0 (length groups))

-- an amendment that is not refused, beside a list with one entry for each school of the papers
pub record IsAllowedBeside {X : Type 0} (m : Market) (a : Amendment) (entries : List X) : Type 0 where
  pub allowed : verdict m a ≡ None
  pub one_each : length entries ≡ length (schools_of m)

-- the groups with the new choices joined to the school to begin with
unfoldable pub widened : Market → Amendment → List ℕ → List ℕ
widened m a groups = joined_list m (start_of m a) groups (new_choices a)

-- whether a student's first choice is in the group
unfoldable pub is_member : Market → List ℕ → ℕ → ℕ → Bool
is_member m groups group i = group_of m groups (first_choice m i) == group

-- of these positions in the order of entry, those of the students whose first choice is in the group
unfoldable pub positions_in : Market → List ℕ → ℕ → List ℕ → List ℕ
positions_in m groups group positions = filter (λ p. is_member m groups group (student_at m p)) positions

-- the students at these positions
abbrev pub students_at : Market → List ℕ → List ℕ
students_at m positions = map (student_at m) positions

-- the students of the papers whose first choice is in the group
unfoldable pub members_of : Market → List ℕ → ℕ → List ℕ
members_of m groups group = filter (is_member m groups group) (students_of m)

-- whose first choice is in the group of the school to begin with, and then whoever enters
abbrev pub members_beside : Market → Amendment → List ℕ → List ℕ
members_beside m a groups = members_of m groups (group_of m groups (start_of m a)) ++ entrants a
