use Rattle.std.proofs.Common.{◌≡◌, ◌∙◌, ◌++◌, ◌<◌, ap, get_or, length, sym}
use Rattle.std.proofs.lemmas.Bool.{ltb-true}
use Rattle.std.proofs.lemmas.Result.{on_ok_weaker}
use Rattle.sc_notices.proofs.ExplanationLemmas.{told-part}
use Rattle.sc_notices.proofs.explanation.Explanations.push_part.Goals as goal

pub returns : goal.returns
returns c = rw (← c.self.view_is) (λ parts are.
    let entrants = c.self.inside.entrants.items in
    let one = c.in-Some.entrant.now in
    let low : c.args.at < length entrants = rw c.deref.ensures.value at (ltb-true c.args.at (length c.deref.result.now) (sym c.in-Some.ensures.lookup.0)) in
    let is = c.in-Some.ensures.lookup.1 ∙ ap (λ xs. get_or xs c.args.at one) c.deref.ensures.value in
    let (holds, lines) = told-part _ parts c.args.at one are low is in
    on_ok_weaker c.push_choices.result
    (λ told. told are.matching (c.as_slice-2.ensures.value ∙ are.rows) holds ∙ ap (λ t. c.args.text.now.items ++ t) lines)
    c.push_choices.ensures)
