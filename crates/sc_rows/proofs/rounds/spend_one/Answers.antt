use Rattle.std.proofs.Common.{sym, arith}
use Rattle.std.proofs.lemmas.Grind.{common_steps}
use Rattle.sc_papers.proofs.Keys.{found-by_position}
use Rattle.sc_rows.proofs.rounds.spend_one.Goals as goal

pub spend-requires-clause-student : goal.spend-requires-clause-student
spend-requires-clause-student g c =
    let found = found-by_position c.args.papers.now.students c.student-one.result c.student_position.result (sym c.student_position.ensures) in
    grind (arith, found, common_steps)
