use Rattle.std.proofs.Common.{◌≡◌, ◌≤◌, ◌+◌, [], length, drop, refl, ◌∙◌, arith}
use Rattle.std.proofs.lemmas.Bool.{OnTrue_from, eqb-true}
use Rattle.sc_intake.specs.Roster.{student_of}
use Rattle.sc_intake.specs.Tidy.{TakesRow}
use Rattle.sc_intake.specs.Together.{EntersNext}
use Rattle.sc_intake.proofs.Entering.{AreEntered-all, AreEntered-more, AreEntered-none, room-left}
use Rattle.sc_intake.proofs.any_order.enter_each.Goals as goal

pub rows-init : goal.rows-init
rows-init c = (AreEntered-none c.args.roster.now.width c.args.width c.args.roster.now.records.left c.args.lists.now c.args.papers.now c.requires, refl, refl)

pub rows-smaller : goal.rows-smaller
rows-smaller c = let next = c.if-not-enter_next.ensures.entered in room-left c.rows.papers c.enter_next.new.papers c.in-Some-next.row next.list next.entered

pub rows-preserved : goal.rows-preserved
rows-preserved c =
    let (so_far, width, list_width) = c.rows.invariant in
    let same = c.next_student.ensures.width in
    let line = c.in-Some-get.line.now in
    let number = c.students_len-entered.ensures.count in
    let next = c.if-not-enter_next.ensures.entered in
    let takes : TakesRow student_of c.next_student.new.below.width (length c.rows.papers.students + 2) c.rows.roster.records.left c.next_student.new.below.records.left c.in-Some-next.row =
    rw same (rw (c.in-Some-next.is, number) at c.in-Some.ensures.row) in
    let enters : EntersNext c.args.width (line + 2) (drop line c.args.lists.now) c.enter_next.new.lists.records.left c.rows.papers c.in-Some-next.row c.enter_next.new.papers =
    rw (← list_width) (rw (c.go_on_by_lines.ensures ∙ c.in-Some-from.ensures) at next) in (
      AreEntered-more c.next_student.new.below.width c.args.width c.args.roster.now.records.left c.args.lists.now c.args.papers.now c.rows.roster.records.left c.next_student.new.below.records.left
          c.rows.papers c.enter_next.new.papers c.in-Some-next.row line c.enter_next.new.lists.records.left (rw same so_far) takes enters,
      same ∙ width,
      c.enter_next.ensures.width ∙ list_width,
    )

pub returns-in_default-next : goal.returns-in_default-next
returns-in_default-next c = OnTrue_from _ _ (λ same.
    let (so_far, width, list_width) = c.rows.invariant in
    let end : c.rows.roster.records.left ≡ [] = rw c.in_default-next.is at c.in-Some.ensures.row in
    let entered : c.students_len-entered.result ≡ c.len.result = eqb-true _ _ same in
    let many : length c.args.lists.now ≤ length c.rows.papers.students = omega (arith, c.students_len-entered.ensures.count, entered, c.len.ensures) in
    rw (← width) (AreEntered-all c.rows.roster.width c.args.width c.args.roster.now.records.left c.args.lists.now c.args.papers.now c.rows.roster.records.left c.rows.papers so_far end many))
