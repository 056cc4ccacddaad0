-- What a contract sees of a `Clearing`.
use Rattle.sc_stamps.specs.Stamps.{Stamps}
use Rattle.sc_stamps.specs.Verdict.{StampedPapers}
use Rattle.sc_repair.specs.Standing.{Standing}

-- the papers settled, and the stamps of their records
pub record StampedStanding : Type 0 where
  pub standing : Standing
  pub stamps : Stamps

-- the papers and the stamps of their records
abbrev pub stamped_papers : StampedStanding → StampedPapers
stamped_papers clearing = record { papers = clearing.standing.papers; stamps = clearing.stamps }
