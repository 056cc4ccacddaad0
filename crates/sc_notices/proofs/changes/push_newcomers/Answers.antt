use Rattle.std.proofs.Common.{sym, ◌∙◌, ◌++◌, ap, not, filter, arith}
use Rattle.std.proofs.lemmas.List.{take_all}
use Rattle.std.proofs.lemmas.Map.Entries.{length-keys_of}
use Rattle.sc_papers.specs.Market.{is_student, students_of}
use Rattle.sc_notices.proofs.ChangeLemmas.{newcomers-more}
use Rattle.sc_notices.proofs.changes.push_newcomers.Goals as goal

pub loop-position-preserved : goal.loop-position-preserved
loop-position-preserved c m are =
    newcomers-more m (students_of c.args.papers.now) c.loop-position.position c.in-Some.student c.is_among.result
    c.args.students.now.items c.loop-position.students.items c.push_unknown.new.students.items
    (sym c.in-Some.ensures) (c.is_among.ensures m are) (c.loop-position.invariant m are) c.in_ok-push_unknown.ensures

pub returns : goal.returns
returns c m are =
    c.loop-position.invariant m are
    ∙ ap (λ xs. c.args.students.now.items ++ filter (λ i. not (is_student m i)) xs)
    (take_all c.loop-position.position (students_of c.args.papers.now) (omega (arith, c.loop-position-test.false, c.students_len-position-end.ensures.count, length-keys_of c.args.papers.now.students)))
