use Rattle.std.proofs.Common.{◌-◌, length}
use Rattle.sc_journal.proofs.Replays.{IsAtLine}
use Rattle.sc_journal.proofs.journal.apply_before_last.Given as goal

abbrev pub invariant-lines : goal.invariant-lines
invariant-lines l = IsAtLine l.fn.amended l.amended l.bytes l.start l.number l.line

abbrev pub decreases-lines : goal.decreases-lines
decreases-lines l = length l.bytes - l.start
