use Rattle.std.proofs.Common.{◌∙◌, ap, cond, nat_eq, sym}
use Rattle.sc_papers.specs.Assignment.{assigned}
use Rattle.sc_papers.proofs.Assigning.{assigned-with_place}
use Rattle.sc_papers.proofs.assignment.Assignment.give.Goals as goal

pub returns-in_ok-put-clause-given : goal.returns-in_ok-put-clause-given
returns-in_ok-put-clause-given c j =
    ap (λ pairs. assigned pairs j) c.in_ok-put.ensures.put ∙ assigned-with_place c.args.self.now c.args.student c.in-Some.school j
    ∙ ap (λ o. cond (nat_eq j c.args.student) o (assigned c.args.self.now j)) (sym c.in-Some.is)
