-- Sets of ranks in a list of choices, and which ranks the schools that rejected a student have.
use Rattle.std.specs.Prelude.{◌≡◌, ℕ, ◌<◌, ◌==◌, Bool, false, true, List, ◌++◌, Some, slice_get}
use Rattle.std.specs.Int.{bit_at}
use Rattle.sc_papers.specs.Market.{Market, choices_of}
use Rattle.sc_papers.specs.Log.{is_rejected}
use Rattle.sc_papers.specs.declared.rejection.Rejection.{Rejection}
use Rattle.sc_checkpoint.specs.declared.rank_set.RankSet.{RankSet}

-- whether a rank is in the set
unfoldable pub has_rank : RankSet → ℕ → Bool
has_rank set rank = bit_at set.bits rank == 1

-- the ranks of the student's choices that are in the set are those of the schools that rejected them
abbrev pub AreRejectedRanks : Market → List Rejection → ℕ → RankSet → Type 0
AreRejectedRanks m log i ranks =
    (rank s : ℕ) → slice_get (choices_of m i) rank ≡ Some s → has_rank ranks rank ≡ is_rejected log i s

-- the first rank that is not in the set, of those below 32
pub record IsFirstOutside (set : RankSet) (first : ℕ) : Type 0 where
  pub below : (rank : ℕ) → rank < first → has_rank set rank ≡ true
  pub outside : first < 32 → has_rank set first ≡ false

-- a table of such sets, one for each of the first of these students
pub record AreTabled (m : Market) (students : List ℕ) (log : List Rejection) (table : List RankSet) : Type 0 where
  pub at : (position i : ℕ) (ranks : RankSet) → slice_get students position ≡ Some i → slice_get table position ≡ Some ranks → AreRejectedRanks m log i ranks

-- where the old table is that of a log, the new one is that of the log with these entries after it
abbrev pub MarksEntries : Market → List ℕ → List Rejection → List RankSet → List RankSet → Type 0
MarksEntries m students entries old new =
    (log : List Rejection) → AreTabled m students log old → AreTabled m students (log ++ entries) new
