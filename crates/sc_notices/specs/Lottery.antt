-- Ranks in the lottery.
use Rattle.std.specs.Prelude.{ℕ, ◌+◌, Option, None, Some}
use Rattle.sc_papers.specs.Draw.{draw}
use Rattle.sc_papers.specs.Key.{is_before}
use Rattle.sc_papers.specs.Market.{Market}
use Rattle.sc_papers.specs.Matching.{how_many}
use Rattle.sc_papers.specs.declared.key.Key.{Key}
use Rattle.sc_reasons.specs.declared.cutoff.Cutoff.{Cutoff}
use Rattle.sc_reasons.specs.declared.cutoff.Cutoff.TheVariants.{Closed, Free, Full}

-- i's ticket in the lottery: their key where all are of one class
abbrev pub ticket_of : Market → ℕ → Key
ticket_of m i = record { class = 0; draw = draw m.seed i; student = i }

-- i's rank in the lottery, from 1: how many of the students have a ticket ahead of i's, and one
unfoldable pub lottery_rank : Market → ℕ → ℕ
lottery_rank m i = how_many m (λ j. is_before (ticket_of m j) (ticket_of m i)) + 1

-- the rank in the lottery of a cutoff's student, if it has one
abbrev pub cutoff_rank : Market → Cutoff → Option ℕ
cutoff_rank m Closed = None
cutoff_rank m Free = None
cutoff_rank m (Full last) = Some (lottery_rank m last.student)
