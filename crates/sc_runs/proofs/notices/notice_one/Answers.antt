use Rattle.std.proofs.Common.{sym, Some}
use Rattle.sc_repair.specs.Standing.{matching_of}
use Rattle.sc_runs.proofs.notices.notice_one.Goals as goal

pub returns-in-Ok-Some : goal.returns-in-Ok-Some
returns-in-Ok-Some g c = record {
  bytes = c.write_notice.ensures.bytes (Some c.args.subject) c.args.clearing.now.standing.papers (matching_of c.args.clearing.now.standing)
      (sym (rw c.in-Ok-Some.field-0-is at c.in-Ok-Some.ensures.known)) (rw c.in-Ok-Some.field-0-is at c.in-Ok-Some.ensures.text);
  failed = c.write_notice.ensures.failed;
}
