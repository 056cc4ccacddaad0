-- From which position in the order of entry on an amendment may change anything.
use Rattle.std.specs.Prelude.{ℕ, ◌==◌, Bool, nat_eq, length}
use Rattle.std.specs.List.{list_any, position_or_len}
use Rattle.sc_papers.specs.Market.{Market, students_of, choices_of}
use Rattle.sc_papers.specs.declared.amendment.Amendment.{Amendment}
use Rattle.sc_papers.specs.declared.amendment.Amendment.TheVariants.{Enter, Withdraw, Rerank, Add, Close, Correct}

-- whether student i lists school s
abbrev pub lists : Market → ℕ → ℕ → Bool
lists m s i = list_any (λ t. t == s) (choices_of m i)

-- the position of a student in the order of entry; an unknown student's is the number of students
abbrev pub position_of : Market → ℕ → ℕ
position_of m i = position_or_len (nat_eq i) (students_of m)

-- the position of the first student who lists a school, or the number of students where none does
abbrev pub first_to_list : Market → ℕ → ℕ
first_to_list m s = position_or_len (lists m s) (students_of m)

-- the position from which on an amendment may change anything: the students before it are there
-- afterwards as they were, in their order, and no school that one of them lists has other seats
abbrev pub rewind_point : Market → Amendment → ℕ
rewind_point m (Enter i zone siblings choices continuing) = length m.students
rewind_point m (Withdraw i) = position_of m i
rewind_point m (Rerank i choices) = position_of m i
rewind_point m (Add s count) = first_to_list m s
rewind_point m (Close s count) = first_to_list m s
rewind_point m (Correct i zone siblings continuing) = position_of m i
