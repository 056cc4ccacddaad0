use Rattle.std.proofs.Common.{refl, ap, subst, sym, ◌∙◌, ◌++◌, All}
use Rattle.std.specs.Prelude.{flat_map}
use Rattle.sc_tallies.specs.Places.{ArePlaces}
use Rattle.sc_tallies.specs.Tally.{AreTallies}
use Rattle.sc_reasons.specs.Cutoff.{cutoff_rows}
use Rattle.sc_reasons.specs.Entrants.{numbers_of, Holds}
use Rattle.sc_report.specs.Pages.{text_so_far}
use Rattle.sc_reasons.specs.Reason.{reasons_of}
use Rattle.sc_report.proofs.LineLemmas.{report-joined}
use Rattle.sc_report.proofs.text.report_pages.Goals as goal

pub returns : goal.returns
returns c a are counted =
    let m = c.args.matched.papers.now in
    let students = numbers_of c.as_slice-3.result.now in
    let numbers = ap numbers_of c.as_slice-3.ensures.value ∙ c.in_ok-entrants.ensures.rising.numbers in
    let rows = c.in_ok-rows.ensures.rows a (subst (AreTallies m a) (sym c.as_slice.ensures.value) counted) in
    let hold = subst (All (Holds a)) (sym c.as_slice-3.ensures.value) (c.in_ok-entrants.ensures.hold a (subst (ArePlaces m a) (sym c.as_slice-2.ensures.value) are)) in
    let made = c.as_slice-4.ensures.value ∙ rows in
    let first = text_so_far c.in_ok-texts.texts.assignment in
    let second = text_so_far c.push_cutoff_text.new.pages in
    report-joined m a students (cutoff_rows m a) (flat_map (reasons_of m a) students) first second (text_so_far c.append.new.self)
    numbers refl (ap (flat_map (reasons_of m a)) numbers)
    (c.in_ok-texts.ensures.assignment a made hold) (c.in_ok-push_cutoff_text.ensures m a (c.as_slice-5.ensures.value ∙ rows))
    (c.in_ok-append.ensures ∙ ap (λ more. second ++ more) (c.in_ok-texts.ensures.reasons refl a made hold))
