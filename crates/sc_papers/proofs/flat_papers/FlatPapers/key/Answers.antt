use Rattle.std.proofs.Common.{sym, ◌∙◌}
use Rattle.sc_papers.proofs.Keys.{key-by_positions, no-key_of_student, no-key_at_school}
use Rattle.sc_papers.proofs.flat_papers.FlatPapers.key.Goals as goal

pub returns-in_err-student_position : goal.returns-in_err-student_position
returns-in_err-student_position c =
    c.from_residual.ensures ∙ no-key_of_student c.args.self.now c.args.student c.args.school (sym c.in_err-student_position.ensures)

pub returns-in_err-school_position : goal.returns-in_err-school_position
returns-in_err-school_position c =
    c.from_residual-in_err-school_position.ensures ∙ no-key_at_school c.args.self.now c.args.student c.args.school (sym c.in_err-school_position.ensures)

pub returns : goal.returns
returns c =
    c.key_at.ensures
    ∙ key-by_positions c.args.self.now c.args.student c.args.school c.in_ok-student_position.field-0 c.in_ok-school_position.field-0
    (sym c.in_ok-student_position.ensures) (sym c.in_ok-school_position.ensures)
