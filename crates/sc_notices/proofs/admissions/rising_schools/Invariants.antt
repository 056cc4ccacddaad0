-- The first schools were collected.
use Rattle.std.proofs.Common.{◌≡◌, take}
use Rattle.sc_papers.specs.Market.{schools_of}
use Rattle.sc_notices.proofs.admissions.rising_schools.Given as goal

abbrev pub invariant-loop-position : goal.invariant-loop-position
invariant-loop-position l = l.schools.items ≡ take l.position (schools_of l.papers)
