use Rattle.std.proofs.Common.{ap, map, subst, sym, ◌∙◌}
use Rattle.sc_papers.specs.Assignment.{assigned}
use Rattle.sc_papers.specs.Market.{students_of}
use Rattle.sc_repair.specs.Standing.{matching_of}
use Rattle.sc_report.specs.Report.{WritesReport}
use Rattle.sc_report.specs.Watched.{device_of}
use Rattle.sc_tallies.specs.Tally.{AreTallies}
use Rattle.sc_report.proofs.report.write_report.Goals as goal

pub returns-clause-bytes : goal.returns-clause-bytes
returns-clause-bytes g c =
    let a = matching_of c.args.clearing.now.standing in
    let papers = c.in_ok-matched.ensures.papers ∙ c.deref-papers.ensures ∙ c.papers.ensures.papers in
    let are = c.in_ok-places.ensures ∙ ap (λ places. map (assigned places) (students_of c.deref-papers.result.now)) c.places.ensures in
    subst (λ m. WritesReport m a (g.W.Write.contents (device_of c.args.to.now)) (g.W.Write.contents (device_of c.write_report_of.new.to)) c.write_report_of.result)
    papers
    (c.write_report_of.ensures.bytes a (c.in_ok-matched.ensures.places ∙ are ∙ ap (λ m. map a (students_of m)) (sym c.in_ok-matched.ensures.papers))
    (subst (λ m. AreTallies m a c.in_ok-matched.matched.tallies.items) (sym c.in_ok-matched.ensures.papers) (c.in_ok-matched.ensures.tallies a are)))
