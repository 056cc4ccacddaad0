use Rattle.std.proofs.Common.{rules}
use Rattle.sc_steps.proofs.Openings.{WritesExactly-flushed}
use Rattle.sc_steps.proofs.writing.write_text.Goals as goal

pub returns : goal.returns
returns g c = record {
  bytes = WritesExactly-flushed c.args.text.now _ _ _ c.flush_output.result c.in_default.ensures.bytes c.flush_output.ensures.bytes c.flush_output.ensures.kinds;
  failed = search rules;
}
