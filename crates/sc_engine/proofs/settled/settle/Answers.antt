use Rattle.std.proofs.Common.{sym, ap, subst, ◌∙◌}
use Rattle.sc_papers.specs.Log.{next_choice, IsSettled}
use Rattle.sc_papers.specs.Matching.{IsStudentOptimal}
use Rattle.sc_papers.proofs.Optimality.{settled-optimal}
use Rattle.sc_engine.specs.InOrder.{IsInOrder}
use Rattle.sc_engine.proofs.Settling.{settled-entered, settled-all, next-all}
use Rattle.sc_engine.proofs.settled.settle.Goals as goal

pub returns-clause-settled : goal.returns-clause-settled
returns-clause-settled c =
    subst (IsSettled c.args.papers.now) (sym c.in_ok-settled.ensures.log) (settled-all c.args.papers.now _ (settled-entered _ _ _ c.in_ok-enter_all.ensures.settles))

pub returns-clause-in_order : goal.returns-clause-in_order
returns-clause-in_order c = subst (IsInOrder c.args.papers.now) (sym c.in_ok-settled.ensures.log) c.in_ok-enter_all.ensures.in_order

pub returns-clause-matching : goal.returns-clause-matching
returns-clause-matching c i =
    c.in_ok-settled.ensures.given i ∙ ap (λ next. next i) (next-all c.args.papers.now _ (settled-entered _ _ _ c.in_ok-enter_all.ensures.settles))
    ∙ ap (λ log. next_choice c.args.papers.now log i) (sym c.in_ok-settled.ensures.log)

pub returns-clause-optimal : goal.returns-clause-optimal
returns-clause-optimal c =
    subst (IsStudentOptimal c.args.papers.now) (λ t i. (sym (returns-clause-matching c i)) t)
    (settled-optimal c.args.papers.now c.in_ok-enter_all.ensures.settles.fits.well_formed c.in_ok-settled.settled.log.items (returns-clause-settled c))
