use Rattle.std.proofs.Common.{◌≡◌, ◌+◌, ◌≤◌, ◌^◌, length}
use Rattle.sc_checks.specs.Representation.{rows_left}
use Rattle.sc_checks.proofs.lines.next_row.Given as goal

abbrev pub invariant-lines : goal.invariant-lines
invariant-lines l = record {
  rows : rows_left l.from ≡ rows_left l.rest;
  lines : l.rest.line + length l.rest.text.now ≤ 2 ^ 63;
}

abbrev pub decreases-lines : goal.decreases-lines
decreases-lines l = length l.rest.text.now
