use Rattle.sc_papers.specs.Market.{schools_of}
use Rattle.sc_papers.specs.Placed.{schools_at, AreOfSchools}
use Rattle.sc_intake.proofs.TidyFields.{SchoolsBefore}
use Rattle.sc_intake.proofs.tidy_rows.place_schools.Given as goal

abbrev pub invariant-loop : goal.invariant-loop
invariant-loop l = SchoolsBefore l.text l.rest (schools_at (schools_of l.papers) l.placed) × AreOfSchools l.papers l.placed
