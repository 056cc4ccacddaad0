use Rattle.std.proofs.Common.{ap, sym, ◌∙◌, ◌++◌, ℕ, List}
use Rattle.std.specs.Prelude.{codes, flat_map}
use Rattle.sc_papers.specs.Market.{schools_of}
use Rattle.sc_repair.specs.Standing.{matching_of}
use Rattle.sc_reasons.specs.Cutoff.{cutoff_row}
use Rattle.sc_reasons.specs.Rising.{rising}
use Rattle.sc_reasons.specs.declared.cutoff.CutoffRow.{CutoffRow}
use Rattle.sc_report.proofs.LineLemmas.{lines-all, lines-map, lines-more}
use Rattle.sc_notices.specs.Summary.{listed}
use Rattle.sc_notices.specs.SummaryText.{row_line}
use Rattle.sc_notices.proofs.summary.push_schools.Goals as goal

pub loop-row-preserved : goal.loop-row-preserved
loop-row-preserved c =
    let m = c.args.clearing.now.standing.papers in
    let row = c.row-item.result in
    lines-more (λ (r : CutoffRow). row_line r.school r.seats r.held (listed m r.school)) c.as_slice-row-items.result.now c.loop-row.row-index row
    c.extend_from_slice.new.self.items c.loop-row.text.items c.push_school.new.text.items c.loop-row.invariant
    (c.in_ok-push_school.ensures
    ∙ ap (λ n. c.loop-row.text.items ++ row_line row.school row.seats row.held n) (c.listings_of.ensures ∙ ap (λ p. listed p row.school) (c.deref-papers.ensures ∙ c.papers.ensures.papers)))
    c.loop-row-test.true c.row-item.is

pub returns : goal.returns
returns c =
    let m = c.args.clearing.now.standing.papers in
    let a = matching_of c.args.clearing.now.standing in
    let line : CutoffRow → List ℕ = λ row. row_line row.school row.seats row.held (listed m row.school) in
    let header = codes "school,seats,held,free,listed\n" in
    lines-all line c.as_slice-row-items.result.now c.loop-row.row-index c.args.text.now.items header
    c.extend_from_slice.new.self.items c.loop-row.text.items c.in_ok-extend_from_slice.ensures.items c.loop-row.invariant c.loop-row-test.false
    ∙ ap (λ more. c.args.text.now.items ++ (header ++ more))
    (ap (flat_map line) (c.as_slice-row-items.ensures.value ∙ c.in_ok-rows.ensures) ∙ sym (lines-map line (cutoff_row m a) (rising (schools_of m))))
