use Rattle.std.proofs.Common.{◌≡◌, ◌∙◌, ◌++◌, ℕ, List, sym, ap, Some, None, arith, append_assoc, map, Bor}
use Rattle.std.specs.Prelude.{option_map, flat_map, slice_get, codes}
use Rattle.sc_papers.specs.declared.records.Student.{Student}
use Rattle.sc_export.specs.Files.{list_fields, row_text}
use Rattle.sc_export.proofs.Growing.{not-past, row-more, rows-all}
use Rattle.sc_export.proofs.lists.push_lists.Goals as goal

pub unreachable-requires : goal.unreachable-requires
unreachable-requires c =
    let past : slice_get c.args.papers.now.students c.loop-position.position ≡ None =
    sym c.student_entry.ensures ∙ ap (option_map (λ (entry : ℕ × Bor Student). (entry.0, entry.1.now))) c.in-None.is in
    let within = c.loop-position-test.true in
    let size = rw c.deref.ensures at c.students_len-position-end.ensures.count in
    not-past c.args.papers.now.students c.loop-position.position past (omega arith)

pub loop-position-preserved : goal.loop-position-preserved
loop-position-preserved c =
    let at : slice_get c.args.papers.now.students c.loop-position.position ≡ Some (c.in-Some.entry.0, c.in-Some.entry.1.now) =
    sym c.student_entry.ensures ∙ ap (option_map (λ (entry : ℕ × Bor Student). (entry.0, entry.1.now))) c.in-Some.is in
    row-more row_text list_fields c.args.papers.now.students c.loop-position.position (c.in-Some.entry.0, c.in-Some.entry.1.now) _ c.loop-position.text.items c.push_choices.new.text.items
    c.loop-position.invariant at c.in_ok-push_choices-in-Some.ensures

pub returns : goal.returns
returns c =
    let past = c.loop-position-test.false in
    let size = rw c.deref.ensures at c.students_len-position-end.ensures.count in
    rows-all row_text list_fields c.args.papers.now.students c.loop-position.position _ c.loop-position.text.items c.loop-position.invariant (omega arith)
    ∙ ap (λ (text : List ℕ). text ++ flat_map row_text (map list_fields c.args.papers.now.students)) c.in_ok-extend_from_slice.ensures.items
    ∙ append_assoc c.args.text.now.items (codes "student,choices\n") (flat_map row_text (map list_fields c.args.papers.now.students))
