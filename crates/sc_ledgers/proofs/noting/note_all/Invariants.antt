use Rattle.std.proofs.Common.{◌≡◌, length, take}
use Rattle.sc_checkpoint.specs.Chains.{logs_in}
use Rattle.sc_ledgers.specs.Cohort.{cohort}
use Rattle.sc_ledgers.specs.Course.{labels_of}
use Rattle.sc_ledgers.specs.Ends.{AreEnds}
use Rattle.sc_ledgers.specs.Opening.{everybody, AreNotedTo}
use Rattle.sc_ledgers.proofs.noting.note_all.Given as goal

abbrev pub invariant-loop-position : goal.invariant-loop-position
invariant-loop-position l =
    (length l.lists.items ≡ length l.papers.schools)
    × AreNotedTo (cohort l.papers everybody) (logs_in l.segments) l.position (labels_of l.papers l.lists.items)
    × AreEnds l.papers (take l.position (logs_in l.segments)) l.ends
