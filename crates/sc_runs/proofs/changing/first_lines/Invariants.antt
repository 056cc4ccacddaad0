-- Some lines are left to find, and the others were passed.
use Rattle.std.proofs.Common.{◌≡◌, ◌+◌, ◌<◌, take}
use Rattle.sc_runs.specs.Changing.{whole_lines}
use Rattle.sc_runs.proofs.changing.first_lines.Given as goal

abbrev pub invariant-loop-index : goal.invariant-loop-index
invariant-loop-index l = record {
  some : 0 < l.left;
  counted : l.left + whole_lines (take l.index l.text) ≡ l.count;
}
