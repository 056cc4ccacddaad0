use Rattle.std.proofs.Common.{◌≡◌, ◌∙◌, ℕ, sym, ap, Some, None, arith, Bor}
use Rattle.std.specs.Prelude.{option_map, slice_get}
use Rattle.sc_papers.specs.declared.records.Student.{Student}
use Rattle.sc_export.specs.Files.{roster_fields, row_text}
use Rattle.sc_export.specs.Ranges.{IsStudentInRange}
use Rattle.sc_export.proofs.Growing.{all-more, all-of, not-past, row-more, rows-all}
use Rattle.sc_export.proofs.roster.push_students.Goals as goal

pub unreachable-requires : goal.unreachable-requires
unreachable-requires c =
    let past : slice_get c.args.papers.now.students c.loop-position.position ≡ None =
    sym c.student_entry.ensures ∙ ap (option_map (λ (entry : ℕ × Bor Student). (entry.0, entry.1.now))) c.in-None.is in
    let within = c.loop-position-test.true in
    let size = rw c.deref.ensures at c.students_len-position-end.ensures.count in
    not-past c.args.papers.now.students c.loop-position.position past (omega arith)

pub loop-position-preserved : goal.loop-position-preserved
loop-position-preserved c =
    let at : slice_get c.args.papers.now.students c.loop-position.position ≡ Some (c.in-Some.entry.0, c.in-Some.entry.1.now) =
    sym c.student_entry.ensures ∙ ap (option_map (λ (entry : ℕ × Bor Student). (entry.0, entry.1.now))) c.in-Some.is in (
      row-more row_text (roster_fields c.args.longer) c.args.papers.now.students c.loop-position.position (c.in-Some.entry.0, c.in-Some.entry.1.now) _ c.loop-position.text.items c.push_student.new.text.items
          c.loop-position.invariant.0 at c.in_ok-push_student-in-Some.ensures.row,
      all-more IsStudentInRange c.args.papers.now.students c.loop-position.position (c.in-Some.entry.0, c.in-Some.entry.1.now) c.loop-position.invariant.1 at c.in_ok-push_student-in-Some.ensures.in_range,
    )

pub returns-clause-rows : goal.returns-clause-rows
returns-clause-rows c =
    let past = c.loop-position-test.false in
    let size = rw c.deref.ensures at c.students_len-position-end.ensures.count in
    rows-all row_text (roster_fields c.args.longer) c.args.papers.now.students c.loop-position.position _ c.loop-position.text.items c.loop-position.invariant.0 (omega arith)

pub returns-clause-in_range : goal.returns-clause-in_range
returns-clause-in_range c =
    let past = c.loop-position-test.false in
    let size = rw c.deref.ensures at c.students_len-position-end.ensures.count in
    all-of IsStudentInRange c.args.papers.now.students c.loop-position.position c.loop-position.invariant.1 (omega arith)
