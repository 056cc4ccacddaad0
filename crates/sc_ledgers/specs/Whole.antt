-- The labels of a whole run.
use Rattle.std.specs.Prelude.{ℕ, ◌<◌, List, Contains, length}
use Rattle.sc_papers.specs.Market.{students_of}
use Rattle.sc_papers.specs.declared.rejection.Rejection.{Rejection}
use Rattle.sc_ledgers.specs.Cohort.{Cohort, IsRunTo}
use Rattle.sc_ledgers.specs.Ledger.{AreLabelsBefore, AreOwn}
use Rattle.sc_ledgers.specs.declared.ledger.Label.{Label}

-- a run of all turns, and its labels: each is of one of the turns, and has its student's key
pub record AreWhole (c : Cohort) (segments : List (List Rejection)) (labels : ℕ → List Label) : Type 0 where
  pub run : IsRunTo c (length (students_of c.papers)) segments
  pub before : AreLabelsBefore c segments (length segments) labels
  pub turns : (s : ℕ) (label : Label) → Contains (labels s) label → label.turn < length segments
  pub own : AreOwn c.papers labels
