-- The summary as text.
use Rattle.std.specs.Prelude.{ℕ, ◌+◌, ◌-◌, ◌==◌, List, [], ◌++◌, codes, flat_map, if◌then◌else◌}
use Rattle.std.specs.Fmt.{decimal}
use Rattle.std.specs.List.{range_with_len}
use Rattle.sc_papers.specs.Market.{Market, schools_of, seats_of}
use Rattle.sc_papers.specs.Matching.{Matching, held}
use Rattle.sc_papers.specs.declared.limits.TheConstants.{LONGEST_LIST}
use Rattle.sc_reasons.specs.Rising.{rising}
use Rattle.sc_notices.specs.Summary.{listed, unplaced, with_rank}

-- the ranks that a choice may have, from 0
unfoldable pub ranks : List ℕ
ranks = range_with_len 0 LONGEST_LIST

-- the line of a rank, which is told from 1, and so many students; a rank that nobody has is left out
abbrev pub rank_line : ℕ → ℕ → List ℕ
rank_line rank count = if count == 0 then [] else decimal (rank + 1) ++ codes "," ++ decimal count ++ codes "\n"

-- the line of the students without a school, who are so many
abbrev pub unplaced_line : ℕ → List ℕ
unplaced_line count = codes "-," ++ decimal count ++ codes "\n"

-- the header, the line of each rank that somebody has, and the line of those without a school
abbrev pub rank_lines : Market → Matching → List ℕ
rank_lines m a = codes "rank,students\n" ++ (flat_map (λ rank. rank_line rank (with_rank m a rank)) ranks ++ unplaced_line (unplaced m a))

-- a school's line: its number, its seats, how many have it, how many of the seats are free, and how many list it
abbrev pub row_line : ℕ → ℕ → ℕ → ℕ → List ℕ
row_line school seats count listings =
    decimal school ++ codes "," ++ decimal seats ++ codes "," ++ decimal count ++ codes "," ++ decimal (seats - count) ++ codes "," ++ decimal listings ++ codes "\n"

-- the line of a school of the papers
abbrev pub school_line : Market → Matching → ℕ → List ℕ
school_line m a s = row_line s (seats_of m s) (held m a s) (listed m s)

-- the header, and the line of each school by rising number
abbrev pub school_lines : Market → Matching → List ℕ
school_lines m a = codes "school,seats,held,free,listed\n" ++ flat_map (school_line m a) (rising (schools_of m))

-- the summary of papers and a matching: the ranks, and then the schools
unfoldable pub summary_text : Market → Matching → List ℕ
summary_text m a = rank_lines m a ++ school_lines m a
