-- Counts over the first students: of the ranks that they have, and of the schools that they list.
use Rattle.std.specs.Prelude.{◌≡◌, ℕ, ◌<◌, nat_eq, List, Some, length, position, slice_index, count_by}
use Rattle.sc_papers.specs.Market.{Market, schools_of}
use Rattle.sc_papers.specs.Matching.{Matching}
use Rattle.sc_papers.specs.declared.limits.TheConstants.{LONGEST_LIST}
use Rattle.sc_notices.specs.Summary.{has_rank, is_unplaced, lists}
use Rattle.sc_notices.specs.declared.ranks.RankCounts.{RankCounts}

-- how many of the students have their choice of each rank, and how many have no school
pub record AreRankCounts (m : Market) (a : Matching) (students : List ℕ) (counts : RankCounts) : Type 0 where
  pub by_rank : (rank : ℕ) → rank < LONGEST_LIST → slice_index counts.by_rank rank ≡ count_by (has_rank m a rank) students
  pub unplaced : counts.unplaced ≡ count_by (is_unplaced a) students

-- how many of the students list each school, by the school's position
pub record AreListings (m : Market) (students : List ℕ) (counts : List ℕ) : Type 0 where
  pub one_each : length counts ≡ length (schools_of m)
  pub counted : (s at : ℕ) → position (nat_eq s) (schools_of m) ≡ Some at → slice_index counts at ≡ count_by (lists m s) students
