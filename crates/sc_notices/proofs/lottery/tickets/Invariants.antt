-- The tickets of the first students were collected.
use Rattle.std.proofs.Common.{◌≡◌, map, take}
use Rattle.sc_papers.specs.Market.{students_of}
use Rattle.sc_notices.specs.Lottery.{ticket_of}
use Rattle.sc_notices.proofs.lottery.tickets.Given as goal

abbrev pub invariant-loop-position : goal.invariant-loop-position
invariant-loop-position l = l.tickets.items ≡ map (ticket_of l.papers) (take l.position (students_of l.papers))
