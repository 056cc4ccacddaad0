-- How long a log can be.
use Rattle.std.specs.Prelude.{ℕ, length, sum_by, is_some}
use Rattle.sc_papers.specs.Market.{Market, students_of, choices_of}
use Rattle.sc_papers.specs.Matching.{Matching, how_many}

-- how many choices the students list, all together
unfoldable pub all_choices : Market → ℕ
all_choices m = sum_by (λ i. length (choices_of m i)) (students_of m)

-- how many students have a school
abbrev pub placed : Market → Matching → ℕ
placed m a = how_many m (λ i. is_some (a i))
