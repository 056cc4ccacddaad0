use Rattle.std.proofs.Common.{sym, subst, ◌∙◌, arith}
use Rattle.std.proofs.lemmas.Bool.{cond-false, cond-true}
use Rattle.sc_stamps.specs.History.{IsNumberOfLast, accepted_among, after_list}
use Rattle.sc_stamps.specs.Record.{is_record}
use Rattle.sc_stamps.specs.Verdict.{unamended}
use Rattle.sc_stamps.proofs.Turns.{counted-list, in-step-opening, last-of, last_from, stamp-list, stamp-opening}
use Rattle.sc_stamps.proofs.laws.stamp_is_the_number_of_the_last_amendment.Goals as goal

pub returns-clause-accepted : goal.returns-clause-accepted
returns-clause-accepted c = λ m list. omega (arith, counted-list (unamended m) list)

pub returns-clause-present : goal.returns-clause-present
returns-clause-present c = λ m list r well known.
    let stamp = stamp-list (unamended m) list r 0 well (in-step-opening m) (λ known. sym (stamp-opening m r)) in
    subst (IsNumberOfLast r (accepted_among (unamended m) list)) (sym (stamp ∙ cond-true (is_record (after_list (unamended m) list).papers r) (last_from 1 r (accepted_among (unamended m) list) 0) 0 known))
    (last-of r (accepted_among (unamended m) list))

pub returns-clause-absent : goal.returns-clause-absent
returns-clause-absent c = λ m list r well absent.
    stamp-list (unamended m) list r 0 well (in-step-opening m) (λ known. sym (stamp-opening m r))
    ∙ cond-false (is_record (after_list (unamended m) list).papers r) (last_from 1 r (accepted_among (unamended m) list) 0) 0 absent
