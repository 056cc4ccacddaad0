use Rattle.std.proofs.Common.{◌≡◌, ◌-◌, drop, length}
use Rattle.sc_papers.specs.declared.limits.TheConstants.{MOST_STUDENTS}
use Rattle.sc_intake.proofs.Entering.{AreEntered}
use Rattle.sc_intake.proofs.together.enter_together.Given as goal

abbrev pub invariant-rows : goal.invariant-rows
invariant-rows l =
    AreEntered l.roster.width l.lists.width l.initial.roster.records.left l.initial.lists.records.left l.initial.papers l.roster.records.left l.papers
    × (l.roster.width ≡ l.initial.roster.width) × (l.lists.width ≡ l.initial.lists.width)
    × (l.lists.records.left ≡ drop (length l.papers.students) l.initial.lists.records.left)

abbrev pub decreases-rows : goal.decreases-rows
decreases-rows l = MOST_STUDENTS - length l.papers.students
