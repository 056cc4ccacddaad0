-- Schools that are given to more students than they have seats.
use Rattle.std.specs.Prelude.{ℕ, ◌<◌, ◌≤◌}
use Rattle.sc_papers.specs.Market.{Market, seats_of}
use Rattle.sc_papers.specs.Matching.{Matching, held}

-- more students have s than it has seats, and s has the least number of such schools
pub record IsFirstOver (m : Market) (a : Matching) (s : ℕ) : Type 0 where
  pub over : seats_of m s < held m a s
  pub least : (t : ℕ) → t < s → held m a t ≤ seats_of m t
