use Rattle.std.proofs.Common.{◌≡◌, ◌==◌, ap, sym, refl, ◌∙◌, length, Some, None, position, arith}
use Rattle.std.proofs.lemmas.Option.{slice_get_read}
use Rattle.sc_papers.specs.Market.{choices_of, student_at, students_of}
use Rattle.sc_papers.proofs.Choices.{one-place}
use Rattle.sc_papers.proofs.Hands.{hand-is}
use Rattle.sc_checkpoint.proofs.Marking.{rank-low, student-here, table-kept, table-marked, table-unlisted, unknown-nowhere}
use Rattle.sc_checkpoint.proofs.next_choices.mark.Goals as goal

pub returns-in_default-clause-tabled : goal.returns-in_default-clause-tabled
returns-in_default-clause-tabled c = λ log.
    let m = c.args.papers.now in
    let e = c.args.entry in
    table-kept m (students_of m) log e c.args.table.now.items (λ at rank low here listed. unknown-nowhere m e.student (sym c.student_position.ensures ∙ c.in_default.is) at here)

pub returns-then-position-len-clause-tabled : goal.returns-then-position-len-clause-tabled
returns-then-position-len-clause-tabled c = λ log.
    let m = c.args.papers.now in
    let e = c.args.entry in
    let there = student-here m e.student c.in-Some.position (sym c.student_position.ensures ∙ c.in-Some.is) in
    table-kept m (students_of m) log e c.args.table.now.items (λ at rank low here listed.
    let same = one-place (students_of m) at c.in-Some.position e.student c.students_len.ensures.well_formed.students_differ here there in
    absurd (omega (arith, same, low, c.len.ensures, c.if-position-len.true)))

pub returns-in_default-choice_rank_at-clause-tabled : goal.returns-in_default-choice_rank_at-clause-tabled
returns-in_default-choice_rank_at-clause-tabled c = λ log.
    let m = c.args.papers.now in
    let e = c.args.entry in
    let own : student_at m c.in-Some.position ≡ e.student = hand-is m c.in-Some.position e.student (student-here m e.student c.in-Some.position (sym c.student_position.ensures ∙ c.in-Some.is)) in
    let none : position (λ s. s == e.school) (choices_of m e.student) ≡ None =
    ap (λ i. position (λ s. s == e.school) (choices_of m i)) (sym own) ∙ sym c.choice_rank_at.ensures ∙ c.in_default-choice_rank_at.is in
    table-unlisted m (students_of m) log e c.args.table.now.items none

pub with-requires : goal.with-requires
with-requires c =
    let m = c.args.papers.now in
    rank-low m (student_at m c.in-Some.position) c.args.entry.school c.in-Some-choice_rank_at.rank c.students_len.ensures.within_limits (sym c.choice_rank_at.ensures ∙ c.in-Some-choice_rank_at.is)

pub returns-clause-tabled : goal.returns-clause-tabled
returns-clause-tabled c = λ log.
    let m = c.args.papers.now in
    let e = c.args.entry in
    let at = c.in-Some.position in
    let there = student-here m e.student at (sym c.student_position.ensures ∙ c.in-Some.is) in
    let own : student_at m at ≡ e.student = hand-is m at e.student there in
    let rank : position (λ s. s == e.school) (choices_of m e.student) ≡ Some c.in-Some-choice_rank_at.rank =
    ap (λ i. position (λ s. s == e.school) (choices_of m i)) (sym own) ∙ sym c.choice_rank_at.ensures ∙ c.in-Some-choice_rank_at.is in
    table-marked m (students_of m) log e c.args.table.now.items at c.in-Some-choice_rank_at.rank c.index.result.now c.with.result c.students_len.ensures.well_formed
    (λ j k t here other. one-place (students_of m) j k t c.students_len.ensures.well_formed.students_differ here other) there rank
    (slice_get_read c.args.table.now.items (length c.args.table.now.items) at c.index.result.now refl (omega (arith, c.len.ensures, c.if-position-len.false)) c.index.ensures) c.with.ensures
