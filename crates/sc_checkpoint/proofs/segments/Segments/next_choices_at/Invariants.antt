-- The first students' next choices have been told.
use Rattle.std.proofs.Common.{◌≡◌, take}
use Rattle.sc_papers.specs.Market.{students_of}
use Rattle.sc_papers.specs.Restriction.{joined}
use Rattle.sc_checkpoint.specs.Chains.{logs_in}
use Rattle.sc_checkpoint.specs.NextChoices.{next_choices_after}
use Rattle.sc_checkpoint.proofs.segments.Segments.next_choices_at.Given as goal

abbrev pub invariant-loop-position : goal.invariant-loop-position
invariant-loop-position l = l.next_choices.items ≡ next_choices_after l.papers (joined (take l.k (logs_in l.self))) (take l.position (students_of l.papers))
