use Rattle.std.proofs.Common.{◌∙◌, ap, is_some, nat_eq}
use Rattle.indexmap.proofs.MapLemmas.{some_index}
use Rattle.sc_papers.proofs.check.is_student.Goals as goal

pub returns : goal.returns
returns c = c.is_some.ensures ∙ ap is_some c.student_position.ensures ∙ some_index (nat_eq c.args.student) c.args.papers.now.students
