use Rattle.std.proofs.Common.{◌≡◌, ◌==◌, true, false, length, ◌∙◌, rules, arith}
use Rattle.sc_checks.proofs.RowLemmas.{row-none, row-some, rows-cut, rows-none}
use Rattle.sc_checks.proofs.lines.next_row.Goals as goal

pub returns-then-not-is_empty-clause-row : goal.returns-then-not-is_empty-clause-row
returns-then-not-is_empty-clause-row c =
    let row = c.cut_line.result.0 in
    let some : (length row.bytes.now == 0) ≡ false = search rules in
    c.lines.invariant.rows
    ∙ rows-cut c.lines.rest.line c.lines.rest.text.now row.bytes.now c.cut_line.result.1.line c.cut_line.result.1.text.now c.cut_line.ensures.bytes c.cut_line.ensures.line c.cut_line.ensures.text
    ∙ rw (row-some c.lines.rest.line row.bytes.now some, ← c.cut_line.ensures.number) (search rules)

pub lines-preserved : goal.lines-preserved
lines-preserved c =
    let row = c.cut_line.result.0 in
    let none : (length row.bytes.now == 0) ≡ true = search rules in
    record {
      rows = c.lines.invariant.rows
          ∙ rows-cut c.lines.rest.line c.lines.rest.text.now row.bytes.now c.cut_line.result.1.line c.cut_line.result.1.text.now c.cut_line.ensures.bytes c.cut_line.ensures.line c.cut_line.ensures.text
          ∙ rw (row-none c.lines.rest.line row.bytes.now none) (search rules);
      lines = omega (arith, c.lines.invariant.lines, c.cut_line.ensures.less);
    }

pub returns-clause-row : goal.returns-clause-row
returns-clause-row c =
    let none : (length c.lines.rest.text.now == 0) ≡ true = search rules in
    c.lines.invariant.rows ∙ rows-none c.lines.rest.line c.lines.rest.text.now none
