-- What settling papers comes to, where nobody asks for the log.
use Rattle.std.specs.Prelude.{ℕ, List, Option}
use Rattle.sc_papers.specs.Log.{next_choice, IsSettled}
use Rattle.sc_papers.specs.Market.{Market}
use Rattle.sc_papers.specs.Matching.{IsStudentOptimal}
use Rattle.sc_papers.specs.declared.rejection.Rejection.{Rejection}
use Rattle.sc_tallies.specs.Places.{ArePlaces}
use Rattle.sc_tallies.specs.Tally.{AreTallies}
use Rattle.sc_tallies.specs.declared.tally.Tally.{Tally}

-- the places and the tallies, in order of entry, are those of the student-optimal stable matching, to which a settled log
-- leads
pub record AreSettledPlaces (m : Market) (made : List (Option ℕ)) (counts : List Tally) : Type 0 where
  pub log : List Rejection
  pub settled : IsSettled m log
  pub optimal : IsStudentOptimal m (next_choice m log)
  pub places : ArePlaces m (next_choice m log) made
  pub tallies : AreTallies m (next_choice m log) counts
