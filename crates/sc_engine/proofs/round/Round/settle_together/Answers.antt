use Rattle.std.proofs.Common.{ap, subst, sym, ℕ, List, [], ◌+◌, drop, arith}
use Rattle.std.proofs.lemmas.List.{drop_all, drop_more, nil_from_length}
use Rattle.sc_engine.specs.Applicants.{numbers_of}
use Rattle.sc_engine.specs.Round.{view_of}
use Rattle.sc_engine.specs.Together.{entries_of, Waits}
use Rattle.sc_engine.specs.declared.round.chains.PutOut.{PutOut}
use Rattle.sc_engine.proofs.round.Round.settle_together.Given as given
use Rattle.sc_engine.proofs.round.Round.settle_together.Goals as goal
use Rattle.sc_engine.proofs.round.Round.settle_together.Goals.{In_ok-propose_on, then-len-ge-MOST_WAITING+in_ok-work_off, else-len-ge-MOST_WAITING}

-- one more applicant has proposed
proposed : (g : given.Over) (c : In_ok-propose_on g) → Waits c.args.papers.now (view_of g.R.Roll.keys g.R.Roll.seats c.propose_on.new.self) (numbers_of c.args.papers.now (drop (c.loop-turn.turn + 1) c.args.applicants.now)) (entries_of c.propose_on.new.waiting.items)
proposed g c =
    let papers = c.args.papers.now in
    c.in_ok-propose_on.ensures.wait (numbers_of papers (drop (c.loop-turn.turn + 1) c.args.applicants.now)) []
    (subst (λ (l : List ℕ). Waits papers (view_of g.R.Roll.keys g.R.Roll.seats c.loop-turn.self) (numbers_of papers l) (entries_of c.loop-turn.waiting.items)) (drop_more c.args.applicants.now c.loop-turn.turn _ c.loop-turn-test.true) c.loop-turn.invariant)

pub work_off-requires-clause-wait : goal.work_off-requires-clause-wait
work_off-requires-clause-wait g c = (_, proposed g (goal.at.work_off-requires-clause-wait g c).In_ok-propose_on)

pub loop-turn-preserved : goal.loop-turn-preserved
loop-turn-preserved g c =
    let papers = c.args.papers.now in
    let rest : List ℕ = numbers_of papers (drop (c.loop-turn.turn + 1) c.args.applicants.now) in
    let done = proposed g (goal.at.loop-turn-preserved g c).In_ok-propose_on in
    elim c.if-len-ge-MOST_WAITING.branch [
      | then-len-ge-MOST_WAITING+in_ok-work_off w ↦ subst (λ r. Waits papers (view_of g.R.Roll.keys g.R.Roll.seats r) rest (entries_of c.if-len-ge-MOST_WAITING.waiting.items)) (sym w.self-is)
          (subst (λ (l : List PutOut). Waits papers (view_of g.R.Roll.keys g.R.Roll.seats w.work_off.new.self) rest (entries_of l)) (sym (ap (λ v. v.items) w.waiting-is)) (w.in_ok-work_off.ensures.wait rest done))
      | else-len-ge-MOST_WAITING w ↦ subst (λ r. Waits papers (view_of g.R.Roll.keys g.R.Roll.seats r) rest (entries_of c.if-len-ge-MOST_WAITING.waiting.items)) (sym w.self-is)
          (subst (λ (l : List PutOut). Waits papers (view_of g.R.Roll.keys g.R.Roll.seats c.propose_on.new.self) rest (entries_of l)) (sym (ap (λ v. v.items) w.waiting-is)) done)
    ]

pub returns : goal.returns
returns g c =
    let papers = c.args.papers.now in
    subst (λ (l : List PutOut). Waits papers (view_of g.R.Roll.keys g.R.Roll.seats c.work_off-2.new.self) [] (entries_of l)) (nil_from_length c.work_off-2.new.waiting.items (omega (arith, c.in_ok-work_off-2.ensures.few)))
    (c.in_ok-work_off-2.ensures.wait []
    (subst (λ (l : List ℕ). Waits papers (view_of g.R.Roll.keys g.R.Roll.seats c.loop-turn.self) (numbers_of papers l) (entries_of c.loop-turn.waiting.items)) (drop_all c.loop-turn.turn c.args.applicants.now (omega (arith, c.loop-turn-test.false))) c.loop-turn.invariant))
