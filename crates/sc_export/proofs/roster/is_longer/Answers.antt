use Rattle.std.proofs.Common.{◌≡◌, ◌∙◌, ℕ, sym, ap, Some, None, rules, arith, Bor}
use Rattle.std.specs.Prelude.{option_map, slice_get}
use Rattle.sc_papers.specs.declared.records.Student.{Student}
use Rattle.sc_export.specs.Files.{continues}
use Rattle.sc_export.proofs.Growing.{none-more, not-past, some-passes}
use Rattle.sc_export.proofs.roster.is_longer.Goals as goal

pub unreachable-requires : goal.unreachable-requires
unreachable-requires c =
    let past : slice_get c.args.papers.now.students c.loop-position.position ≡ None =
    sym c.student_entry.ensures ∙ ap (option_map (λ (entry : ℕ × Bor Student). (entry.0, entry.1.now))) c.in-None.is in
    let within = c.loop-position-test.true in
    let size = rw c.deref.ensures at c.students_len-position-end.ensures.count in
    not-past c.args.papers.now.students c.loop-position.position past (omega arith)

pub returns-then-is_some : goal.returns-then-is_some
returns-then-is_some c =
    let there : c.student_entry.result ≡ Some (c.in-Some.field-0-0, c.in-Some.student) = search rules in
    let at : slice_get c.args.papers.now.students c.loop-position.position ≡ Some (c.in-Some.field-0-0, c.in-Some.student.now) =
    sym c.student_entry.ensures ∙ ap (option_map (λ (entry : ℕ × Bor Student). (entry.0, entry.1.now))) there in
    sym (some-passes continues c.args.papers.now.students c.loop-position.position (c.in-Some.field-0-0, c.in-Some.student.now) at (sym c.is_some.ensures ∙ c.if-is_some.true))

pub loop-position-preserved : goal.loop-position-preserved
loop-position-preserved c =
    let there : c.student_entry.result ≡ Some (c.in-Some.field-0-0, c.in-Some.student) = search rules in
    let at : slice_get c.args.papers.now.students c.loop-position.position ≡ Some (c.in-Some.field-0-0, c.in-Some.student.now) =
    sym c.student_entry.ensures ∙ ap (option_map (λ (entry : ℕ × Bor Student). (entry.0, entry.1.now))) there in
    none-more continues c.args.papers.now.students c.loop-position.position (c.in-Some.field-0-0, c.in-Some.student.now) c.loop-position.invariant at (sym c.is_some.ensures ∙ c.if-is_some.false)
