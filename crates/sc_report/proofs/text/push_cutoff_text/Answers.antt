use Rattle.std.proofs.Common.{ap, ◌∙◌, ◌++◌}
use Rattle.sc_reasons.specs.Cutoff.{cutoff_rows}
use Rattle.sc_report.specs.CutoffText.{cutoff_lines}
use Rattle.sc_report.proofs.PageLemmas.{page-grew}
use Rattle.sc_report.proofs.text.push_cutoff_text.Goals as goal

pub returns : goal.returns
returns c m a made =
    let pages = c.args.pages.now in
    page-grew pages.full.items pages.last.items c.push_cutoffs.new.text.items (cutoff_lines (cutoff_rows m a))
    (c.in_ok-push_cutoffs.ensures ∙ ap (λ rows. pages.last.items ++ cutoff_lines rows) (c.as_slice.ensures.value ∙ c.in_ok-cutoffs.ensures m a made))
