-- The pages so far are with the writer, and no call failed.
use Rattle.std.proofs.Common.{◌≡◌, take}
use Rattle.std.specs.Io.KnownBytes.{Appends}
use Rattle.sc_report.specs.Pages.{pages_text}
use Rattle.sc_report.specs.Watched.{device_of, has_failed}
use Rattle.sc_report.proofs.pages.write_pages.Given as goal

abbrev pub invariant-loop-page : goal.invariant-loop-page
invariant-loop-page g l = record {
  appended : Appends (g.W.Write.contents (device_of l.initial.to)) (g.W.Write.contents (device_of l.to)) (pages_text (take l.page-index l.pages));
  failed : has_failed l.to ≡ has_failed l.initial.to;
}
