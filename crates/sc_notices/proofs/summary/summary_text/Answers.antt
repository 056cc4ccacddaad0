use Rattle.sc_repair.specs.Standing.{matching_of}
use Rattle.std.proofs.Common.{◌∙◌, ◌++◌}
use Rattle.sc_papers.specs.Assignment.{assigned}
use Rattle.sc_notices.specs.SummaryText.{rank_lines}
use Rattle.sc_notices.proofs.SummaryLemmas.{summary-joined}
use Rattle.sc_notices.proofs.summary.summary_text.Goals as goal

pub returns : goal.returns
returns c =
    let standing = c.args.clearing.now.standing in
    summary-joined standing.papers (matching_of standing) c.in_ok-text.text.items c.push_ranks.new.text.items c.push_schools.new.text.items
    c.in_ok-text.ensures.items
    (c.in_ok-push_ranks.ensures ∙ (λ t. c.in_ok-text.text.items ++ rank_lines (c.papers-papers.ensures.papers t) (assigned (c.places.ensures t))))
    c.in_ok-push_schools.ensures
