use Rattle.std.proofs.Common.{◌≡◌, ap, sym, subst, ◌∙◌, ℕ, ◌+◌, [], ◌∷◌, ◌++◌, length, arith}
use Rattle.sc_papers.specs.Market.{student_at}
use Rattle.sc_papers.specs.Log.{next_choice}
use Rattle.sc_papers.specs.Restriction.{cut, joined}
use Rattle.sc_papers.proofs.Hands.{hand-there}
use Rattle.sc_checkpoint.specs.Chains.{logs_in, with_chain}
use Rattle.sc_ledgers.specs.Cohort.{cohort}
use Rattle.sc_ledgers.specs.Course.{labels_of}
use Rattle.sc_ledgers.specs.Entered.{HasEntered}
use Rattle.sc_ledgers.specs.Opening.{everybody}
use Rattle.sc_ledgers.specs.Whole.{AreWhole}
use Rattle.sc_repair.specs.Anew.{HavePlaces}
use Rattle.sc_ledgers.specs.Ends.{AreEnds}
use Rattle.sc_repair.proofs.Newcomer.{ledgers-ended, ledgers-one_each, ledgers-whole, placed-entered}
use Rattle.sc_repair.proofs.Resumption.{logs-push}
use Rattle.sc_repair.proofs.entering.enter_newcomer.Goals as goal
use Rattle.sc_repair.proofs.entering.enter_newcomer.Goals.{After-drop-stances-inside-2}

-- the newcomer has entered
entered : (c : After-drop-stances-inside-2)
    → HasEntered c.args.papers.now (student_at c.args.papers.now c.len-position.result) (logs_in c.args.segments.now) c.enter_last.new.chain.items (labels_of c.args.papers.now c.enter_last.new.ledgers.schools.items) c.enter_last.new.ledgers.ends c.as_slice-moved.result.now
entered c =
    let m = c.args.papers.now in
    let logs = logs_in c.args.segments.now in
    subst (HasEntered m (student_at m c.len-position.result) logs c.enter_last.new.chain.items (labels_of m c.enter_last.new.ledgers.schools.items) c.enter_last.new.ledgers.ends) (sym c.as_slice-moved.ensures.value)
    (c.in_ok-enter_last.ensures.entered logs (ledgers-whole m (length c.args.segments.now) c.len-position.result logs c.args.ledgers.now c.len-position.ensures c.requires.ledgers)
    (ledgers-ended m (length c.args.segments.now) c.len-position.result logs c.args.ledgers.now c.len-position.ensures c.requires.ledgers))

-- and their chain is the last one
logs : (c : After-drop-stances-inside-2) → logs_in c.push.new.self ≡ logs_in c.args.segments.now ++ c.enter_last.new.chain.items ∷ []
logs c =
    ap logs_in (c.in_default.ensures.pushed ∙ ap (with_chain c.args.segments.now c.args.student) c.as_slice.ensures.value)
    ∙ logs-push c.args.segments.now c.args.student c.enter_last.new.chain.items

pub enter_last-requires-clause-one_each : goal.enter_last-requires-clause-one_each
enter_last-requires-clause-one_each c = ledgers-one_each c.args.papers.now (length c.args.segments.now) (logs_in c.args.segments.now) c.args.ledgers.now c.requires.ledgers

pub enter_last-requires-clause-whole : goal.enter_last-requires-clause-whole
enter_last-requires-clause-whole c =
    let logs = logs_in c.args.segments.now in
    let kept = c.requires.ledgers in (
      logs,
      ledgers-whole c.args.papers.now (length c.args.segments.now) c.len-position.result logs c.args.ledgers.now c.len-position.ensures kept,
      ledgers-ended c.args.papers.now (length c.args.segments.now) c.len-position.result logs c.args.ledgers.now c.len-position.ensures kept,
    )

pub returns-clause-ledgers : goal.returns-clause-ledgers
returns-clause-ledgers c = record {
  one_each = c.in_ok-enter_last.ensures.one_each;
  whole = subst (λ segments. AreWhole (cohort c.args.papers.now everybody) segments (labels_of c.args.papers.now c.enter_last.new.ledgers.schools.items)) (sym (logs c)) (entered c).whole;
  ended = subst (λ segments. AreEnds c.args.papers.now segments c.enter_last.new.ledgers.ends) (sym (logs c)) (entered c).ended;
}

pub returns-clause-placed : goal.returns-clause-placed
returns-clause-placed c =
    let m = c.args.papers.now in
    let k : ℕ = c.len-position.result in
    let last : length m.students ≡ k + 1 = omega (arith, c.requires.last, c.len-position.ensures) in
    subst (λ segments. HavePlaces m segments c.move_all.new.places) (sym (logs c))
    (placed-entered m k (student_at m k) (logs_in c.args.segments.now) c.enter_last.new.chain.items (labels_of m c.enter_last.new.ledgers.schools.items) c.enter_last.new.ledgers.ends c.as_slice-moved.result.now c.args.places.now c.place_new.new.places c.move_all.new.places
    c.students_len.ensures.well_formed last (hand-there m k (omega (arith, last))) (entered c) c.as_slice-moved.ensures.apart
    (λ j. c.requires.placed j ∙ ap (λ t. next_choice (cut m t) (joined (logs_in c.args.segments.now)) j) (sym c.len-position.ensures)) c.in_ok-place_new.ensures.given c.move_all.ensures)
