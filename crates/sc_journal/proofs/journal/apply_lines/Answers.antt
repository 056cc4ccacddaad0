use Rattle.sc_journal.proofs.Replays.{before-last, last-end, last-fault}
use Rattle.sc_journal.proofs.journal.apply_lines.Goals as goal

pub returns-in-Ok : goal.returns-in-Ok
returns-in-Ok c =
    last-end c.args.amended.now c.apply_before_last.new.amended c.apply_line.new.amended c.args.bytes.now c.in-Some.last
    (before-last _ _ _ c.in_ok-last.field-0 c.in-Some.last c.in_ok-last.ensures c.in-Some.is) c.in-Ok.ensures

pub returns-in-Err : goal.returns-in-Err
returns-in-Err c =
    rw c.at.ensures
    (last-fault c.args.amended.now c.apply_before_last.new.amended c.args.bytes.now c.in-Some.last c.in-Err.cause
    (before-last _ _ _ c.in_ok-last.field-0 c.in-Some.last c.in_ok-last.ensures c.in-Some.is) c.in-Err.ensures)
