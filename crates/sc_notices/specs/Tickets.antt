-- The tickets by which ranks in the lottery are found, and the ranks that are found once.
use Rattle.std.specs.Prelude.{◌≡◌, List, length, map}
use Rattle.std.specs.List.{All}
use Rattle.sc_papers.specs.Market.{Market, students_of}
use Rattle.sc_papers.specs.Matching.{Matching}
use Rattle.sc_seats.specs.Roll.{in_order}
use Rattle.sc_reasons.specs.Cutoff.{rows_in_order}
use Rattle.sc_reasons.specs.Entrants.{StandsAt}
use Rattle.sc_reasons.specs.declared.cutoff.CutoffRow.{CutoffRow}
use Rattle.sc_reasons.specs.declared.entrants.Entrant.{Entrant}
use Rattle.sc_notices.specs.Lottery.{cutoff_rank, ticket_of}
use Rattle.sc_notices.specs.declared.lottery.Lottery.{Lottery}

-- the tickets are those of the students of these papers, best first, and the ranks those of the rows' cutoffs, by whichever
-- matching the rows were made
pub record IsLotteryOf (m : Market) (rows : List CutoffRow) (lottery : Lottery) : Type 0 where
  pub tickets : lottery.tickets.items ≡ in_order (map (ticket_of m) (students_of m))
  pub count : length lottery.of_cutoffs.items ≡ length rows
  pub ranks : (a : Matching) → rows ≡ rows_in_order m a → lottery.of_cutoffs.items ≡ map (λ row. cutoff_rank m row.cutoff) rows

-- the students stand in the papers, there is a row for each school, and the lottery is that of these
pub record CanExplain (m : Market) (entrants : List Entrant) (rows : List CutoffRow) (lottery : Lottery) : Type 0 where
  pub stand : All (StandsAt m) entrants
  pub one_each : length rows ≡ length m.schools
  pub tickets : IsLotteryOf m rows lottery
