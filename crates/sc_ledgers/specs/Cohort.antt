-- Papers, of whose students some have a turn.
use Rattle.std.specs.Prelude.{◌≡◌, ◌&&◌, ℕ, ◌≤◌, Bool, List, length}
use Rattle.sc_papers.specs.Market.{Market}
use Rattle.sc_papers.specs.Log.{IsSettled}
use Rattle.sc_papers.specs.Restriction.{is_among_first, joined, restricted}
use Rattle.sc_papers.specs.declared.rejection.Rejection.{Rejection}
use Rattle.std.specs.Prelude.{take}

-- papers, and whether a student enters in their turn
pub record Cohort : Type 0 where
  pub papers : Market
  pub enters : ℕ → Bool

-- these papers, with those who enter
abbrev pub cohort : Market → (ℕ → Bool) → Cohort
cohort m enters = record { papers = m; enters = enters }

-- whether a student is among the first k, and enters
abbrev pub has_entered : Cohort → ℕ → ℕ → Bool
has_entered c k j = is_among_first c.papers k j && c.enters j

-- the papers of those who have entered in the first k turns
unfoldable pub cut : Cohort → ℕ → Market
cut c k = restricted c.papers (has_entered c k)

-- the segments of the first k turns: the log is settled after each of them
pub record IsRunTo (c : Cohort) (k : ℕ) (segments : List (List Rejection)) : Type 0 where
  pub one_each : length segments ≡ k
  pub settled : (t : ℕ) → t ≤ k → IsSettled (cut c t) (joined (take t segments))
