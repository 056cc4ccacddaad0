use Rattle.std.proofs.Common.{◌∙◌, ap, ◌++◌, not, filter}
use Rattle.sc_papers.specs.Market.{is_student, students_of}
use Rattle.sc_notices.proofs.ChangeLemmas.{either-rising}
use Rattle.sc_notices.proofs.changes.rising_of_either.Goals as goal

pub returns : goal.returns
returns c m are =
    either-rising m c.args.papers.now c.args.numbers.now c.push_newcomers.new.students.items c.sort_unstable.new.self.items are
    (c.in_ok-push_newcomers.ensures m are
    ∙ ap (λ xs. xs ++ filter (λ i. not (is_student m i)) (students_of c.args.papers.now)) c.in_ok-students.ensures.items)
    c.sort_unstable.ensures.permutation c.sort_unstable.ensures.sorted
