use Rattle.std.proofs.Common.{◌≡◌, ◌≤◌, ◌+◌, [], length, drop, ap, sym, refl, ◌∙◌, arith}
use Rattle.std.proofs.lemmas.Bool.{OnTrue_at, OnTrue_from}
use Rattle.std.proofs.lemmas.List.{length-drop}
use Rattle.sc_intake.specs.Roster.{student_of}
use Rattle.sc_intake.specs.Tidy.{TakesRow}
use Rattle.sc_intake.specs.Together.{EntersNext, Fill}
use Rattle.sc_intake.proofs.Entering.{AreEntered-all, AreEntered-more, AreEntered-none, left-after_next, room-left}
use Rattle.sc_intake.proofs.together.enter_together.Goals as goal

pub rows-init : goal.rows-init
rows-init c =
    let first : c.args.lists.now.records.left ≡ drop (length c.args.papers.now.students) c.args.lists.now.records.left = rw c.requires refl in
    (AreEntered-none c.args.roster.now.width c.args.lists.now.width c.args.roster.now.records.left c.args.lists.now.records.left c.args.papers.now c.requires, refl, refl, first)

pub rows-smaller : goal.rows-smaller
rows-smaller c = let next = c.if-not-enter_next.ensures.entered in room-left c.rows.papers c.enter_next.new.papers c.in-Some-next.row next.list next.entered

pub rows-preserved : goal.rows-preserved
rows-preserved c =
    let (so_far, width, list_width, left) = c.rows.invariant in
    let same = c.next_student.ensures.width in
    let list_same = c.enter_next.ensures.width in
    let lists = c.args.lists.now.records.left in
    let number = c.students_len.ensures.count in
    let next = c.if-not-enter_next.ensures.entered in
    let takes : TakesRow student_of c.next_student.new.below.width (length c.rows.papers.students + 2) c.rows.roster.records.left c.next_student.new.below.records.left c.in-Some-next.row =
    rw same (rw (c.in-Some-next.is, number) at c.in-Some.ensures.row) in
    let enters : EntersNext c.enter_next.new.lists.width (length c.rows.papers.students + 2) (drop (length c.rows.papers.students) lists) c.enter_next.new.lists.records.left c.rows.papers c.in-Some-next.row c.enter_next.new.papers =
    rw list_same (rw (left, number) at next) in (
      AreEntered-more c.next_student.new.below.width c.enter_next.new.lists.width c.args.roster.now.records.left lists c.args.papers.now c.rows.roster.records.left c.next_student.new.below.records.left
          c.rows.papers c.enter_next.new.papers c.in-Some-next.row (length c.rows.papers.students) c.enter_next.new.lists.records.left (rw (same, list_same) so_far) takes enters,
      same ∙ width,
      list_same ∙ list_width,
      left-after_next c.enter_next.new.lists.width lists c.enter_next.new.lists.records.left c.rows.papers c.enter_next.new.papers c.in-Some-next.row enters,
    )

pub returns-in_default-next : goal.returns-in_default-next
returns-in_default-next c = OnTrue_from c.is_at_end.result
    (Fill c.args.roster.now.width c.args.lists.now.width c.args.roster.now.records.left c.args.lists.now.records.left c.args.papers.now c.rows.papers) (λ at_end.
    let (so_far, width, list_width, left) = c.rows.invariant in
    let lists = c.args.lists.now.records.left in
    let end : c.rows.roster.records.left ≡ [] = rw c.in_default-next.is at c.in-Some.ensures.row in
    let none : drop (length c.rows.papers.students) lists ≡ [] = sym left ∙ OnTrue_at at_end c.is_at_end.ensures in
    let many : length lists ≤ length c.rows.papers.students = omega (arith, ap length none, length-drop (length c.rows.papers.students) lists) in
    rw (← width, ← list_width) (AreEntered-all c.rows.roster.width c.rows.lists.width c.args.roster.now.records.left lists c.args.papers.now c.rows.roster.records.left c.rows.papers so_far end many))
