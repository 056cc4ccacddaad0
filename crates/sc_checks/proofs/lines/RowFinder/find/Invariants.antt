use Rattle.std.proofs.Common.{◌≡◌, ◌-◌, ◌≤◌}
use Rattle.sc_checks.specs.Representation.{Finds}
use Rattle.sc_checks.proofs.lines.RowFinder.find.Given as goal

abbrev pub invariant-rows : goal.invariant-rows
invariant-rows l = record {
  finds : Finds l.text l.self;
  first : l.number ≤ l.self.passed → l.number ≡ 0;
}

abbrev pub decreases-rows : goal.decreases-rows
decreases-rows l = l.number - l.self.passed
