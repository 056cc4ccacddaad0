use Rattle.std.proofs.Common.{arith}
use Rattle.sc_journal.proofs.Replays.{tail-torn, tail-whole}
use Rattle.sc_journal.proofs.journal.tail_after.Goals as goal

pub returns-then-end-bytes : goal.returns-then-end-bytes
returns-then-end-bytes c = tail-torn c.args.bytes.now c.args.end (omega arith)

pub returns-else-end-bytes : goal.returns-else-end-bytes
returns-else-end-bytes c = tail-whole c.args.bytes.now c.args.end (omega arith)
