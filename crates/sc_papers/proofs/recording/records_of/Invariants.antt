-- The records of the first students were made.
use Rattle.std.proofs.Common.{◌≡◌, map, take}
use Rattle.sc_papers.proofs.recording.records_of.Given as goal

abbrev pub invariant-loop-position : goal.invariant-loop-position
invariant-loop-position l = l.records.items ≡ take l.position (map (λ e. e.1) l.papers.students)
