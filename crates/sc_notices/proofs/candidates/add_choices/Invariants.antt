-- The student's key was added for each choice so far.
use Rattle.std.proofs.Common.{◌==◌, take}
use Rattle.std.specs.List.{list_any}
use Rattle.sc_papers.specs.Market.{choices_of, student_at}
use Rattle.sc_notices.specs.KeyLists.{AddsKeys}
use Rattle.sc_notices.proofs.candidates.add_choices.Given as goal

abbrev pub invariant-loop-rank : goal.invariant-loop-rank
invariant-loop-rank l =
    AddsKeys l.papers (student_at l.papers l.student) (λ s. list_any (λ t. t == s) (take l.rank (choices_of l.papers (student_at l.papers l.student)))) l.initial.waiting l.waiting
