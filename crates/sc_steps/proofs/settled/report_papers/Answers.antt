use Rattle.std.proofs.Common.{rules}
use Rattle.sc_papers.specs.Log.{next_choice}
use Rattle.sc_steps.specs.Opening.{IsReport}
use Rattle.sc_steps.proofs.Openings.{WritesExactly-flushed, WritesText-of}
use Rattle.sc_steps.proofs.settled.report_papers.Goals as goal

pub returns-in-Ok-write_report_of : goal.returns-in-Ok-write_report_of
returns-in-Ok-write_report_of g c = record {
  bytes =
      let m = c.args.papers.now in
      let made = c.in-Ok.ensures in
      let (text, is, written) = c.in-Ok-write_report_of.ensures.bytes (next_choice m made.log) made.places made.tallies in
      WritesText-of (IsReport m) text _ _ c.flush_output.result (next_choice m made.log, made.optimal, is)
      (WritesExactly-flushed text _ _ _ c.flush_output.result written c.flush_output.ensures.bytes c.flush_output.ensures.kinds);
  failed = search rules;
}
