use Rattle.std.proofs.Common.{ap, ◌∙◌}
use Rattle.sc_papers.specs.Assignment.{assigned}
use Rattle.sc_repair.specs.Standing.{matching_of}
use Rattle.sc_reasons.specs.Entrants.{numbers_of}
use Rattle.sc_notices.specs.ExplanationText.{explanation_text}
use Rattle.sc_notices.proofs.ExplanationLemmas.{all-explained, explained}
use Rattle.sc_notices.proofs.explanation.explanation_parts.Goals as goal

pub returns : goal.returns
returns c =
    let standing = c.args.clearing.now.standing in
    let m = standing.papers in
    let a = matching_of standing in
    let b = assigned c.places.result.now in
    let n = c.deref-papers.result.now in
    let entrants = c.in_ok-entrants.entrants.items in
    let same = c.deref-papers.ensures ∙ c.papers.ensures.papers in
    explained m a b n entrants c.in_ok-rows.rows.items (explanation_text m a) same (ap assigned c.places.ensures)
    (c.in_ok-rows.ensures.rows b (c.as_slice-2.ensures.value ∙ c.in_ok-places.ensures))
    (c.in_ok-entrants.ensures.hold b (c.as_slice.ensures.value ∙ c.in_ok-places.ensures))
    (all-explained m a n (numbers_of entrants) same c.in_ok-entrants.ensures.rising.numbers)
