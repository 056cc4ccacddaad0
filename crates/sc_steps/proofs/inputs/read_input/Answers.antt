use Rattle.std.proofs.Common.{refl, arith}
use Rattle.sc_report.specs.Watched.{has_failed}
use Rattle.sc_steps.proofs.Reading.{failed, unfailed, GivesAtMost-first, IsRead-short, IsTooLong-long}
use Rattle.sc_steps.proofs.inputs.read_input.Goals as goal

pub returns-then-len-gt-MOST_BYTES-clause-ended : goal.returns-then-len-gt-MOST_BYTES-clause-ended
returns-then-len-gt-MOST_BYTES-clause-ended g c =
    (refl, IsTooLong-long _ c.in-Ok.bytes.items c.in-Ok.ensures.bytes (omega arith) c.in-Ok.ensures.failed)

pub returns-then-len-gt-MOST_BYTES-clause-limit : goal.returns-then-len-gt-MOST_BYTES-clause-limit
returns-then-len-gt-MOST_BYTES-clause-limit g c = GivesAtMost-first 67108865 _ _ c.in-Ok.bytes.items c.in-Ok.ensures.bytes

pub returns-else-len-gt-MOST_BYTES-clause-read : goal.returns-else-len-gt-MOST_BYTES-clause-read
returns-else-len-gt-MOST_BYTES-clause-read g c =
    IsRead-short _ c.in-Ok.bytes.items c.in-Ok.ensures.bytes (omega arith) c.in-Ok.ensures.failed

pub returns-else-len-gt-MOST_BYTES-clause-limit : goal.returns-else-len-gt-MOST_BYTES-clause-limit
returns-else-len-gt-MOST_BYTES-clause-limit g c = GivesAtMost-first 67108865 _ _ c.in-Ok.bytes.items c.in-Ok.ensures.bytes

pub returns-in-Err-Device-clause-ended : goal.returns-in-Err-Device-clause-ended
returns-in-Err-Device-clause-ended g c = (refl, failed _ _ (rw c.in-Err-Device.field-0-is at c.in-Err-Device.ensures.failed))

pub returns-in-Err-OutOfMemory-clause-ended : goal.returns-in-Err-OutOfMemory-clause-ended
returns-in-Err-OutOfMemory-clause-ended g c =
    unfailed (has_failed c.args.from.now) (has_failed c.read_whole.new.from) (rw c.in-Err-OutOfMemory.field-0-is at c.in-Err-OutOfMemory.ensures.failed)
