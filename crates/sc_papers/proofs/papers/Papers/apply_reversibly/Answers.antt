use Rattle.std.proofs.Common.{subst}
use Rattle.sc_papers.specs.WellFormed.{WellFormed, WithinLimits}
use Rattle.sc_papers.proofs.Inverses.{reversed-add, reversed-close, reversed-correct, reversed-enter, reversed-rerank}
use Rattle.sc_papers.proofs.papers.Papers.apply_reversibly.Goals as goal

pub returns-in_ok-enter-in-Enter-clause-back : goal.returns-in_ok-enter-in-Enter-clause-back
returns-in_ok-enter-in-Enter-clause-back c =
    reversed-enter c.args.self.now c.enter.new.self c.args.amendment c.requires.allowed c.in-Enter.student c.in-Enter.zone c.in-Enter.siblings c.in-Enter.choices c.in-Enter.continuing
    c.in-Enter.is c.in_ok-enter-in-Enter.ensures

pub returns-in-Rerank-clause-back : goal.returns-in-Rerank-clause-back
returns-in-Rerank-clause-back c =
    reversed-rerank c.args.self.now c.rerank-choices.new.self c.args.amendment c.requires.allowed c.in-Rerank.student c.in-Rerank.choices c.rerank-choices.result
    (subst WellFormed c.deref.ensures c.students_len.ensures.well_formed) (subst WithinLimits c.deref.ensures c.students_len.ensures.within_limits) c.in-Rerank.is c.rerank-choices.ensures.new c.rerank-choices.ensures.old

pub returns-in-Add-clause-back : goal.returns-in-Add-clause-back
returns-in-Add-clause-back c =
    reversed-add c.args.self.now c.add_seats.new.self c.args.amendment c.requires.allowed c.in-Add.school c.in-Add.count c.in-Add.is c.add_seats.ensures

pub returns-in-Close-clause-back : goal.returns-in-Close-clause-back
returns-in-Close-clause-back c =
    reversed-close c.args.self.now c.close_seats.new.self c.args.amendment c.requires.allowed c.in-Close.school c.in-Close.count
    (subst WithinLimits c.deref.ensures c.students_len.ensures.within_limits) c.in-Close.is c.close_seats.ensures

pub returns-in-Correct-clause-back : goal.returns-in-Correct-clause-back
returns-in-Correct-clause-back c =
    reversed-correct c.args.self.now c.correct-zone.new.self c.args.amendment c.requires.allowed c.in-Correct.student c.in-Correct.zone c.in-Correct.siblings c.in-Correct.continuing
    c.correct-zone.result (subst WellFormed c.deref.ensures c.students_len.ensures.well_formed) (subst WithinLimits c.deref.ensures c.students_len.ensures.within_limits) c.in-Correct.is c.correct-zone.ensures.new c.correct-zone.ensures.old
