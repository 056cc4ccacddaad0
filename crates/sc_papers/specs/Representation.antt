-- How the type `FlatPapers` keeps its papers. Contracts see the market alone.
use Rattle.std.specs.Prelude.{◌≡◌, ◌≤◌, ◌+◌, ℕ, nat_eq, nat_lt, true, All, List, [], Option, None, Some, is_some, length, map, option_to_list, position, slice_index_or, unwrap_or, if◌then◌else◌}
use Rattle.std.specs.Map.{keys_of, lookup}
use Rattle.indexmap.specs.IndexMap.{index_map_len, spare}
use Rattle.sc_lottery.specs.Draw.{draw}
use Rattle.sc_papers.specs.Market.{Market, is_student, schools_of, students_of, zone_at}
use Rattle.sc_papers.specs.Placed.{schools_at}
use Rattle.sc_papers.specs.StudentRow.{Row, positions_in, row_of}
use Rattle.sc_papers.specs.declared.records.Student.{Student}
use Rattle.sc_papers.specs.WellFormed.{WellFormed, WithinLimits}
use Rattle.sc_papers.specs.declared.flat_papers.FlatPapers.TheInside.{Inside}

-- the schools of a student's siblings: the one of the row, or where it tells of more those that are kept under the number
abbrev pub siblings_told : List ℕ → List (ℕ × List ℕ) → Row → List ℕ
siblings_told schools kept row =
    if row.more_siblings then schools_at schools (unwrap_or (lookup (nat_eq row.number) kept) []) else option_to_list row.sibling

-- the student whom a row tells of, beside the positions of siblings' schools that are kept under students' numbers
abbrev pub entry_in : List ℕ → List (ℕ × List ℕ) → Row → ℕ × Student
entry_in schools kept row = (
  row.number,
  record {
    zone = row.zone;
    continuing = row.continuing;
    siblings = siblings_told schools kept row;
    choices = schools_at schools (map (λ c. c.position) row.choices);
  },
)

-- the market that the fields hold
abbrev pub market_of : Inside → Market
market_of p = record {
  seed = p.lottery;
  schools = p.schools.entries;
  students = map (entry_in (keys_of p.schools.entries) p.siblings.entries) p.rows.items;
}

-- the rows of students with the draws under a seed
abbrev pub rows_of : List ℕ → (ℕ → ℕ) → List (Option ℕ) → List (ℕ × Student) → List Row
rows_of seed zones table entries = map (λ entry. row_of zones table entry.0 (draw seed entry.0) entry.1) entries

-- where a student has more than one sibling, the positions of the siblings' schools are kept under the number
abbrev pub AreKept : List (Option ℕ) → List (ℕ × List ℕ) → List (ℕ × Student) → Type 0
AreKept table kept entries =
    All (λ entry. nat_lt 1 (length entry.1.siblings) ≡ true → lookup (nat_eq entry.0) kept ≡ Some (positions_in table entry.1.siblings)) entries

-- nothing is kept of who is not in the papers
abbrev pub AreOfStudents : Market → List (ℕ × List ℕ) → Type 0
AreOfStudents m kept = (i : ℕ) → is_some (lookup (nat_eq i) kept) ≡ true → is_student m i ≡ true

-- what is true of the fields: the papers are well-formed and within the limits, the table of positions
-- says where each school stands in the order of entry, the numbers and the rows are the students', the rows with their
-- draws and the classes of their choices, the siblings' schools are kept of students alone, and there is room to keep those of every student
pub record IsSound (p : Inside) : Type 0 where
  pub well_formed : WellFormed (market_of p)
  pub within_limits : WithinLimits (market_of p)
  pub positions : (s : ℕ) → slice_index_or p.positions s None ≡ position (nat_eq s) (schools_of (market_of p))
  pub numbers : p.numbers ≡ students_of (market_of p)
  pub rows : p.rows.items ≡ rows_of p.lottery (zone_at (market_of p)) p.positions (market_of p).students
  pub siblings : AreKept p.positions p.siblings.entries (market_of p).students
  pub of_students : AreOfStudents (market_of p) p.siblings.entries
  pub room : length p.rows.items ≤ index_map_len p.siblings + spare p.siblings
