-- The same papers with a student, or two, at another position of the order of entry.
use Rattle.std.specs.Prelude.{ℕ, swap}
use Rattle.indexmap.specs.IndexMap.{move_index}
use Rattle.sc_papers.specs.Market.{Market}

-- the student at one position of the order of entry moves to another one, and those between by one position
abbrev pub with_moved_student : Market → ℕ → ℕ → Market
with_moved_student m from to = record m { students = move_index m.students from to }

-- the students at two positions of the order of entry, each in the other's place
abbrev pub with_swapped_students : Market → ℕ → ℕ → Market
with_swapped_students m a b = record m { students = swap m.students a b }
