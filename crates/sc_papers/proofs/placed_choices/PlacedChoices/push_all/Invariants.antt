-- The schools so far were added.
use Rattle.std.proofs.Common.{◌≡◌, ◌++◌, take}
use Rattle.sc_papers.specs.Market.{schools_of}
use Rattle.sc_papers.specs.Placed.{schools_at, AreOfSchools}
use Rattle.sc_papers.proofs.placed_choices.PlacedChoices.push_all.Given as goal

abbrev pub invariant-loop-school : goal.invariant-loop-school
invariant-loop-school l = record {
  added : schools_at (schools_of l.papers) l.self ≡ schools_at (schools_of l.papers) l.fn.self ++ take l.school-index l.list;
  within : AreOfSchools l.papers l.fn.self → AreOfSchools l.papers l.self;
}
