use Rattle.std.proofs.Common.{◌∙◌}
use Rattle.std.proofs.Math.Bool.{or-false}
use Rattle.sc_report.proofs.KnownLemmas.{WritesWhole-err}
use Rattle.sc_report.proofs.PageLemmas.{Appends-page, AppendsPrefix-page}
use Rattle.sc_report.proofs.pages.write_pages.Goals as goal

pub loop-page-preserved : goal.loop-page-preserved
loop-page-preserved g c = record {
  appended = Appends-page _ _ _ c.args.pages.now c.loop-page.page-index c.page-item.result c.as_slice.result.now c.as_slice.ensures.value
      c.loop-page.invariant.appended c.in_ok-write_whole.ensures.bytes c.loop-page-test.true c.page-item.is;
  failed = c.in_ok-write_whole.ensures.failed ∙ or-false _ ∙ c.loop-page.invariant.failed;
}

pub returns-in_err-write_whole-clause-bytes : goal.returns-in_err-write_whole-clause-bytes
returns-in_err-write_whole-clause-bytes g c =
    WritesWhole-err _ _ _ _ c.from_residual.ensures.0
    (AppendsPrefix-page _ _ _ c.args.pages.now c.loop-page.page-index c.page-item.result c.as_slice.result.now c.as_slice.ensures.value
    c.loop-page.invariant.appended c.in_err-write_whole.ensures.bytes c.loop-page-test.true c.page-item.is)
