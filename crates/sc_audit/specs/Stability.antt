-- What a check of an assignment says of its matching.
use Rattle.std.specs.Prelude.{ℕ, ◌<◌}
use Rattle.sc_papers.specs.Market.{Market, choices_of}
use Rattle.sc_papers.specs.Matching.{Matching, IsMatching, WithinSeats, StandsBefore, Blocks, IsStable}
use Rattle.sc_audit.specs.Over.{IsFirstOver}
use Rattle.sc_audit.specs.declared.stability.Stability.{Stability}
use Rattle.sc_audit.specs.declared.stability.Stability.TheVariants.{NotAMatching, OverSeats, Blocked, Stable}

-- i and s block, and i with no choice before s
pub record IsEarliestBlock (m : Market) (a : Matching) (i s : ℕ) : Type 0 where
  pub blocks : Blocks m a i s
  pub earliest : (t : ℕ) → StandsBefore (choices_of m i) t s → Blocks m a i t → ⊥

-- and no student of a lesser number blocks with any school
pub record IsFirstBlock (m : Market) (a : Matching) (i s : ℕ) : Type 0 where
  pub block : IsEarliestBlock m a i s
  pub least : (j t : ℕ) → j < i → Blocks m a j t → ⊥

-- what a stability verdict says of a matching
abbrev pub IsStability : Market → Matching → Stability → Type 0
IsStability m a NotAMatching = IsMatching m a → ⊥
IsStability m a (OverSeats s) = IsMatching m a × IsFirstOver m a s
IsStability m a (Blocked i s) = IsMatching m a × WithinSeats m a × IsFirstBlock m a i s
IsStability m a Stable = IsStable m a
