-- The pages so far are in the text.
use Rattle.std.proofs.Common.{◌≡◌}
use Rattle.sc_report.specs.Pages.{pages_text}
use Rattle.sc_report.proofs.pages.join.Given as goal

abbrev pub invariant-loop-page : goal.invariant-loop-page
invariant-loop-page l = l.text.items ≡ pages_text l.yielded
