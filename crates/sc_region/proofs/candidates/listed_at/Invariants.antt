use Rattle.std.proofs.Common.{take}
use Rattle.sc_region.specs.Districts.{lists_in}
use Rattle.sc_region.proofs.Listed.{HasListed}
use Rattle.sc_region.proofs.candidates.listed_at.Given as goal

abbrev pub invariant-loop-school : goal.invariant-loop-school
invariant-loop-school l = HasListed l.papers (lists_in l.firsts.items) (take l.school-index l.schools) l.positions.items
