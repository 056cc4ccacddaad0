use Rattle.std.proofs.Common.{◌≡◌, sym, subst, ◌∙◌, true, IfSome, length}
use Rattle.std.proofs.lemmas.Option.{get_or_from_slice_get}
use Rattle.sc_papers.specs.Market.{choices_of, is_student, students_of}
use Rattle.sc_papers.proofs.Positions.{position-there, student-position}
use Rattle.sc_ledgers.specs.Course.{labels_of, AreGone}
use Rattle.sc_repair.specs.Anew.{IsStruck}
use Rattle.sc_repair.proofs.ledgers.strike.Goals as goal

pub unreachable-requires : goal.unreachable-requires
unreachable-requires c =
    let known = subst (λ o. IfSome o (λ i. is_student c.args.papers.now i ≡ true)) c.in-Some.is c.requires.known in
    let (at, found) = student-position c.args.papers.now c.in-Some.student known in
    c.in_default-student_position.not-Some at (c.student_position.ensures ∙ found)

pub returns-clause-struck : goal.returns-clause-struck
returns-clause-struck c =
    let m = c.args.papers.now in
    let at = c.in-Some-student_position.position in
    let here = position-there (students_of m) c.in-Some.student at (sym c.student_position.ensures ∙ c.in-Some-student_position.is) in
    let same = get_or_from_slice_get (students_of m) at c.in-Some.student 0 here in
    subst (λ o. IsStruck m o c.args.ledgers.now.items c.strike_student.new.ledgers.items) (sym c.in-Some.is)
    (subst (λ i. AreGone m i (length (choices_of m i)) (labels_of m c.args.ledgers.now.items) (labels_of m c.strike_student.new.ledgers.items)) same c.strike_student.ensures.gone)
