-- Those of the first students who are unknown were added, of whichever papers the known ones are.
use Rattle.std.proofs.Common.{◌≡◌, ◌++◌, not, filter, take}
use Rattle.sc_papers.specs.Market.{Market, is_student, students_of}
use Rattle.sc_reasons.specs.Rising.{rising}
use Rattle.sc_notices.proofs.changes.push_newcomers.Given as goal

abbrev pub invariant-loop-position : goal.invariant-loop-position
invariant-loop-position l = (m : Market) → l.numbers ≡ rising (students_of m)
    → l.students.items ≡ l.initial.students.items ++ filter (λ i. not (is_student m i)) (take l.position (students_of l.papers))
