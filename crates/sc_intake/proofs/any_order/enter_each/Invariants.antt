use Rattle.std.proofs.Common.{◌≡◌, ◌-◌, length}
use Rattle.sc_papers.specs.declared.limits.TheConstants.{MOST_STUDENTS}
use Rattle.sc_intake.proofs.Entering.{AreEntered}
use Rattle.sc_intake.proofs.any_order.enter_each.Given as goal

abbrev pub invariant-rows : goal.invariant-rows
invariant-rows l =
    AreEntered l.roster.width l.width l.initial.roster.records.left l.lists l.initial.papers l.roster.records.left l.papers
    × (l.roster.width ≡ l.initial.roster.width) × (l.list.width ≡ l.width)

abbrev pub decreases-rows : goal.decreases-rows
decreases-rows l = MOST_STUDENTS - length l.papers.students
