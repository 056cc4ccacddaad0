use Rattle.std.proofs.Common.{◌≡◌, length, take}
use Rattle.sc_papers.specs.Market.{student_at}
use Rattle.sc_ledgers.specs.Course.{labels_of}
use Rattle.sc_ledgers.specs.Opening.{AreNoted}
use Rattle.sc_ledgers.proofs.noting.note_turn.Given as goal

abbrev pub invariant-loop-at : goal.invariant-loop-at
invariant-loop-at l =
    (length l.lists.items ≡ length l.papers.schools)
    × AreNoted l.papers l.turn (student_at l.papers l.position) (take l.at l.segment) l.segment (labels_of l.papers l.fn.lists.items) (labels_of l.papers l.lists.items)
