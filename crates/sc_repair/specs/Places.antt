-- How many students have each school by an assignment, kept beside it.
use Rattle.std.specs.Prelude.{◌≡◌, ℕ, ◌<◌, ◌≤◌, List, length, get_or}
use Rattle.sc_papers.specs.Assignment.{holders}
use Rattle.sc_papers.specs.declared.school_no.TheConstants.SchoolNo.{GREATEST}

-- at each number that a school may have stands its count
pub record AreCountsBy (count : ℕ → ℕ) (counts : List ℕ) : Type 0 where
  pub long : GREATEST < length counts
  pub each : (s : ℕ) → s ≤ GREATEST → get_or counts s 0 ≡ count s

-- at each number that a school may have stands how many of the pairs have that school
abbrev pub AreCounts : List (ℕ × ℕ) → List ℕ → Type 0
AreCounts pairs counts = AreCountsBy (holders pairs) counts
