use Rattle.std.proofs.Common.{◌≡◌, ◌+◌, length}
use Rattle.sc_papers.specs.declared.limits.TheConstants.{MOST_SCHOOLS}
use Rattle.sc_intake.specs.Checking.{known_from}
use Rattle.sc_intake.specs.Rows.{AreRows}
use Rattle.sc_intake.specs.Seen.{AreNumbers}
use Rattle.sc_intake.specs.Schools.{school_number}
use Rattle.sc_intake.proofs.known.add_named.Given as goal

abbrev pub invariant-records : goal.invariant-records
invariant-records l = record {
  known : known_from 2 l.initial.known.items l.initial.records.left ≡ known_from (l.row + 1) l.known.items l.records.left;
  rows : AreRows school_number MOST_SCHOOLS l.known.items;
  seen : AreNumbers school_number l.known.items l.seen;
  count : l.row + length l.records.left ≡ 1 + length l.initial.records.left;
}

abbrev pub decreases-records : goal.decreases-records
decreases-records l = length l.records.left
