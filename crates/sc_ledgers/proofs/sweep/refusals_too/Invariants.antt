use Rattle.std.proofs.Common.{All, take}
use Rattle.sc_papers.specs.Market.{student_at}
use Rattle.sc_ledgers.specs.Course.{labels_of}
use Rattle.sc_ledgers.specs.Ledger.{IsRefusedToo}
use Rattle.sc_ledgers.specs.Marks.{marked_in}
use Rattle.sc_ledgers.proofs.sweep.refusals_too.Given as goal

abbrev pub invariant-loop-rank : goal.invariant-loop-rank
invariant-loop-rank l = All (IsRefusedToo l.rows.papers.now (marked_in l.rows.papers.now l.marks.flags) (labels_of l.rows.papers.now l.ledgers) l.turn (student_at l.rows.papers.now l.turn)) (take l.rank l.segment)
