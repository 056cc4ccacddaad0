use Rattle.std.proofs.Common.{ap, rules, sym, ◌∙◌, ◌++◌}
use Rattle.std.specs.Prelude.{vec_items}
use Rattle.std.proofs.lemmas.Iterator.Adapters.{YieldsList-from_vec}
use Rattle.std.proofs.lemmas.Iterator.Consumers.{YieldsList-end}
use Rattle.std.proofs.lemmas.List.{map-id}
use Rattle.sc_report.specs.Pages.{pages_text}
use Rattle.sc_report.proofs.LineLemmas.{flat_map-one_more}
use Rattle.sc_report.proofs.pages.join.Goals as goal

pub loop-page-preserved : goal.loop-page-preserved
loop-page-preserved c =
    let pages = c.loop-page.yielded in
    c.in_ok-extend_from_slice.ensures.items ∙ (λ i. c.loop-page.invariant i ++ c.as_slice-in-loop-page.ensures.value i)
    ∙ sym (flat_map-one_more vec_items pages c.in-Some.page)

pub returns : goal.returns
returns c =
    let pages = c.into_iter-page-iterator in
    let all = YieldsList-end (YieldsList-from_vec c.args.pages.items pages.ensures.into_iter_gives.0 (search rules)) c.loop-page.yielded c.loop-page.page-iterator c.loop-page.yielded_by c.next.result c.next.new.self c.in-None.is c.next.ensures.steps in
    c.loop-page.invariant ∙ ap pages_text (sym (map-id c.loop-page.yielded) ∙ all.0)
