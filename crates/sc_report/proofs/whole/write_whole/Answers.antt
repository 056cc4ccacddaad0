use Rattle.std.proofs.Common.{arith, ◌∙◌}
use Rattle.std.proofs.Math.Bool.{or-false}
use Rattle.std.proofs.lemmas.Grind.{common_steps}
use Rattle.sc_report.proofs.KnownLemmas.{Appends-more}
use Rattle.sc_report.proofs.whole.write_whole.Goals as goal

pub calls-preserved : goal.calls-preserved
calls-preserved g c = record {
  within = grind (arith, common_steps, c.in_ok-at.ensures.bound);
  appended = Appends-more _ _ _ c.args.text.now c.calls.at c.in_ok-at.field-0 c.calls.invariant.appended c.in_ok-at.ensures.bytes;
  failed = c.in_ok-at.ensures.failed ∙ or-false _ ∙ c.calls.invariant.failed;
}
