use Rattle.std.specs.Prelude.{codes}
use Rattle.sc_report.specs.CutoffText.{cutoff_line}
use Rattle.sc_report.proofs.LineLemmas.{lines-all, lines-more}
use Rattle.sc_report.proofs.cutoff_lines.push_cutoffs.Goals as goal

pub loop-row-preserved : goal.loop-row-preserved
loop-row-preserved c =
    lines-more cutoff_line c.args.rows.now c.loop-row.row-index c.row-item.result _ c.loop-row.text.items c.push_line.new.text.items
    c.loop-row.invariant c.in_ok-push_line.ensures c.loop-row-test.true c.row-item.is

pub returns : goal.returns
returns c =
    lines-all cutoff_line c.args.rows.now c.loop-row.row-index c.args.text.now.items (codes "school,seats,held,class,draw,student\n") c.extend_from_slice.new.self.items c.loop-row.text.items
    c.in_ok-extend_from_slice.ensures.items c.loop-row.invariant c.loop-row-test.false
