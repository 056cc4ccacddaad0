use Rattle.std.proofs.Common.{ap, map, subst, sym, ◌≡◌, ◌∙◌, All}
use Rattle.std.proofs.lemmas.Result.{IfOk-weaker}
use Rattle.sc_papers.specs.Assignment.{assigned}
use Rattle.sc_papers.specs.Market.{students_of}
use Rattle.sc_reasons.specs.Entrants.{numbers_of, Holds}
use Rattle.sc_reasons.specs.Rising.{rising}
use Rattle.sc_repair.specs.Standing.{matching_of}
use Rattle.sc_report.specs.Pages.{text_so_far}
use Rattle.sc_report.specs.Text.{assignment_lines, assignment_text}
use Rattle.sc_report.proofs.text.assignment_text.Goals as goal

pub returns : goal.returns
returns c =
    let m = c.deref-papers.result.now in
    let a = matching_of c.args.clearing.now.standing in
    let given = c.in_ok-places.ensures ∙ ap (λ places. map (assigned places) (students_of m)) c.places.ensures in
    let hold = subst (All (Holds a)) (sym c.as_slice-3.ensures.value) (c.in_ok-entrants.ensures.hold a (c.as_slice.ensures.value ∙ given)) in
    let made = c.as_slice-4.ensures.value ∙ c.in_ok-rows.ensures.rows a (c.as_slice-2.ensures.value ∙ given) in
    let whole =
    c.in_ok-texts.ensures.assignment a made hold
    ∙ ap (assignment_lines a) (ap numbers_of c.as_slice-3.ensures.value ∙ c.in_ok-entrants.ensures.rising.numbers ∙ ap (λ papers. rising (students_of papers)) (c.deref-papers.ensures ∙ c.papers.ensures.papers))
    in
    IfOk-weaker c.into_text.result (λ text. text.items ≡ text_so_far c.in_ok-texts.texts.assignment) (λ text. text.items ≡ assignment_text c.args.clearing.now.standing.papers a) (λ text joined. joined ∙ whole) c.into_text.ensures
