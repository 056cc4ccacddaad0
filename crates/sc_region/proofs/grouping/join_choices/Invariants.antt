use Rattle.std.proofs.Common.{◌≡◌, length, take}
use Rattle.sc_papers.specs.Market.{choices_of, schools_of, student_at}
use Rattle.sc_region.specs.Groups.{first_choice, joined_list}
use Rattle.sc_region.proofs.grouping.join_choices.Given as goal

abbrev pub invariant-loop-choice : goal.invariant-loop-choice
invariant-loop-choice l =
    let i = student_at l.papers l.fn.position in
    (l.groups ≡ joined_list l.papers (first_choice l.papers i) l.initial.groups (take l.choice-index (choices_of l.papers i))) × (length l.groups ≡ length (schools_of l.papers))
