use Rattle.std.proofs.Common.{refl, None}
use Rattle.sc_repair.specs.Standing.{matching_of}
use Rattle.sc_runs.proofs.notices.notice_all.Goals as goal

pub returns-in-Ok : goal.returns-in-Ok
returns-in-Ok g c = record {
  bytes = c.write_notice.ensures.bytes None c.args.clearing.now.standing.papers (matching_of c.args.clearing.now.standing) refl c.in-Ok.ensures;
  failed = c.write_notice.ensures.failed;
}
