-- Whose place differs between two times: of papers and a matching, and of others after amendments.
use Rattle.std.specs.Prelude.{ℕ, Bool, nat_eq, not, List, ◌++◌, Option, None, Some, filter, if◌then◌else◌}
use Rattle.std.specs.Option.{option_eq}
use Rattle.sc_papers.specs.Market.{Market, is_student, students_of}
use Rattle.sc_papers.specs.Matching.{Matching}
use Rattle.sc_reasons.specs.Rising.{rising}

-- i's place: the school that i has, or none; and no place at all for one who is not in the papers
abbrev pub place_in : Market → Matching → ℕ → Option (Option ℕ)
place_in m a i = if is_student m i then Some (a i) else None

-- whether two places differ
abbrev pub differ : Option (Option ℕ) → Option (Option ℕ) → Bool
differ before after = not (option_eq (option_eq nat_eq) before after)

-- the students of either papers: those of the first, and who is in the second alone
abbrev pub students_of_either : Market → Market → List ℕ
students_of_either m n = students_of m ++ filter (λ i. not (is_student m i)) (students_of n)

-- the students whose place differs, by rising number
unfoldable pub changed : Market → Matching → Market → Matching → List ℕ
changed m a n b = filter (λ i. differ (place_in m a i) (place_in n b i)) (rising (students_of_either m n))
