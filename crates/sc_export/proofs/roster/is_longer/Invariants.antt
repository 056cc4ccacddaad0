use Rattle.std.proofs.Common.{◌≡◌, false, take}
use Rattle.std.specs.List.{list_any}
use Rattle.sc_export.specs.Files.{continues}
use Rattle.sc_export.proofs.roster.is_longer.Given as goal

abbrev pub invariant-loop-position : goal.invariant-loop-position
invariant-loop-position l = list_any continues (take l.position l.papers.students) ≡ false
