use Rattle.std.proofs.Common.{◌≡◌, ap, sym, subst, ◌∙◌}
use Rattle.sc_journal.proofs.Replays.{before-last, before-none, last-fault, leaves-last, leaves-none}
use Rattle.sc_journal.proofs.journal.replay.Goals as goal

pub returns-in-Ok-settle_and_amend-clause-replay : goal.returns-in-Ok-settle_and_amend-clause-replay
returns-in-Ok-settle_and_amend-clause-replay c =
    let at = before-last c.in-Ok.amended c.apply_before_last.new.amended c.args.bytes.now c.in_ok-last.field-0 c.in-Some.last c.in_ok-last.ensures c.in-Some.is in
    rw (← c.in-Ok.ensures.unamended, c.tail_after-in-Ok-settle_and_amend.ensures) (leaves-last c.in-Ok.amended c.apply_before_last.new.amended c.in-Ok-settle_and_amend.clearing c.args.bytes.now c.in-Some.last at c.in-Ok-settle_and_amend.ensures)

pub returns-in-Err-settle_and_amend-clause-replay : goal.returns-in-Err-settle_and_amend-clause-replay
returns-in-Err-settle_and_amend-clause-replay c =
    let at = before-last c.in-Ok.amended c.apply_before_last.new.amended c.args.bytes.now c.in_ok-last.field-0 c.in-Some.last c.in_ok-last.ensures c.in-Some.is in
    rw (← c.in-Ok.ensures.unamended, c.at.ensures) (last-fault c.in-Ok.amended c.apply_before_last.new.amended c.args.bytes.now c.in-Some.last c.in-Err-settle_and_amend.cause at c.in-Err-settle_and_amend.ensures)

pub returns-in_default-clause-replay : goal.returns-in_default-clause-replay
returns-in_default-clause-replay c =
    let none = before-none c.in-Ok.amended c.apply_before_last.new.amended c.args.bytes.now c.in_ok-last.field-0 c.in_ok-last.ensures c.in_default.not-Some in
    let same = c.in-Ok-settle.ensures.papers in
    rw (← c.in-Ok.ensures.unamended, c.tail_after.ensures)
    (leaves-none c.in-Ok.amended c.in-Ok-settle.clearing c.args.bytes.now none.1 (sym (same ∙ none.0)) c.in-Ok-settle.ensures.proposals)
