use Rattle.std.proofs.Common.{◌≡◌, None, OnErr, OnOk, Result, Ok, Err, ap, subst, sym, ◌∙◌}
use Rattle.std.proofs.lemmas.Result.{on_err_weaker, on_ok_weaker}
use Rattle.sc_papers.specs.Market.{Market}
use Rattle.sc_papers.specs.Verdict.{after, verdict}
use Rattle.sc_stamps.specs.Stamps.{marking_of, stamps_after}
use Rattle.sc_stamps.specs.Verdict.{StampedPapers, stamped_after}
use Rattle.sc_stamps.specs.declared.marking.Marking.{Marking}
use Rattle.sc_repair.specs.Turns.{AreInTurn, AreTurns, TurnsOfEntry, begun_turns, finished_turns, position_of_leaver, stamped_in_turn}
use Rattle.sc_repair.proofs.AmendedInTurn.{done-in_turn, done-kept, kept-along, ready-kept, ready-same, ready-verdict, turns-begun}
use Rattle.sc_repair.proofs.Outcomes.{either-way, on_err-both, on_ok-both}
use Rattle.sc_repair.proofs.unsettled.Unsettled.amend_allowed.Goals as goal
use Rattle.sc_repair.proofs.unsettled.Unsettled.amend_allowed.Goals.{After-put_last}

-- what holds in any case holds after an error
after-error : {A E P : Type 0} (r : Result A E) → P → OnErr r P
after-error (Ok x) holds = tt
after-error (Err e) holds = holds

-- the position is that of the student who leaves
leaver : (c : After-put_last) → c.position_of_leaver.result ≡ position_of_leaver (marking_of c.self.inside.papers c.args.amendment)
leaver c = c.position_of_leaver.ensures ∙ ap position_of_leaver (c.marking_of-marking.ensures ∙ ap (λ (m : Market). marking_of m c.args.amendment) c.deref.ensures)

-- with whoever leaves put last all are in turn, are the same in order of entry, and nothing is said against the amendment
ready : (c : After-put_last) → AreInTurn c.put_last.new.turns c.put_last.new.papers c.put_last.new.stamps
ready c = ready-kept c.self.invariant c.args.amendment (leaver c) c.put_last.ensures.turns c.put_last.ensures.papers c.put_last.ensures.stamps

same : (c : After-put_last) → stamped_in_turn c.put_last.new.turns.positions c.put_last.new.papers c.put_last.new.stamps ≡ c.args.self.now
same c = ready-same c.self.invariant c.args.amendment (leaver c) c.put_last.ensures.turns c.put_last.ensures.papers c.put_last.ensures.stamps ∙ c.self.view_is

allowed : (c : After-put_last) → verdict c.put_last.new.papers c.args.amendment ≡ None
allowed c =
    sym (ready-verdict c.self.invariant c.args.amendment (leaver c) c.put_last.ensures.turns c.put_last.ensures.papers c.put_last.ensures.stamps)
    ∙ ap (λ (p : StampedPapers). verdict p.papers c.args.amendment) c.self.view_is ∙ c.requires.allowed

pub invariant_of-self : goal.invariant_of-self
invariant_of-self c = subst (λ (t : TurnsOfEntry). AreInTurn t c.put_last.new.papers c.put_last.new.stamps) (sym c.in_err-begin.ensures.unchanged) (ready (goal.at.invariant_of-self c).After-put_last)

pub returns-in_err-begin-clause-unchanged : goal.returns-in_err-begin-clause-unchanged
returns-in_err-begin-clause-unchanged c = after-error c.from_residual.result
    (ap (λ (t : TurnsOfEntry). stamped_in_turn t.positions c.put_last.new.papers c.put_last.new.stamps) c.in_err-begin.ensures.unchanged ∙ same (goal.at.returns-in_err-begin-clause-unchanged c).After-put_last)

pub make-made-requires-clause-allowed : goal.make-made-requires-clause-allowed
make-made-requires-clause-allowed c = allowed (goal.at.make-made-requires-clause-allowed c).After-put_last

pub ended-requires : goal.ended-requires
ended-requires c = subst AreTurns (sym c.in_ok-begin.ensures.begun) (turns-begun c.marking_of-marking.result c.put_last.new.turns (ready (goal.at.ended-requires c).After-put_last).turns)

-- what the amendment makes of the papers and the stamps, and of the turns
made : (c : goal.After-ended) → OnOk c.ended.result ((c.make-made.new.papers ≡ after c.put_last.new.papers c.args.amendment) × (c.make-made.new.stamps ≡ stamps_after c.put_last.new.papers c.args.amendment c.put_last.new.stamps))
made c = subst (λ r. OnOk r ((c.make-made.new.papers ≡ after c.put_last.new.papers c.args.amendment) × (c.make-made.new.stamps ≡ stamps_after c.put_last.new.papers c.args.amendment c.put_last.new.stamps)))
    (sym c.ended.ensures.made) (on_ok-both c.make-made.result c.make-made.ensures.papers c.make-made.ensures.stamps (λ papers stamps. (papers, stamps)))

turned : (c : goal.After-ended) → OnOk c.ended.result (c.ended.new.self ≡ finished_turns (marking_of c.self.inside.papers c.args.amendment) (begun_turns (marking_of c.self.inside.papers c.args.amendment) c.put_last.new.turns))
turned c = on_ok_weaker c.ended.result (λ done.
    done ∙ ap (finished_turns c.marking_of-marking.result) c.in_ok-begin.ensures.begun
    ∙ ap (λ (k : Marking). finished_turns k (begun_turns k c.put_last.new.turns)) (c.marking_of-marking.ensures ∙ ap (λ (m : Market). marking_of m c.args.amendment) c.deref.ensures)) c.ended.ensures.finished

-- and that nothing changes where it is refused
stay : (c : goal.After-ended) → OnErr c.ended.result ((c.make-made.new.papers ≡ c.put_last.new.papers) × (c.make-made.new.stamps ≡ c.put_last.new.stamps))
stay c = subst (λ r. OnErr r ((c.make-made.new.papers ≡ c.put_last.new.papers) × (c.make-made.new.stamps ≡ c.put_last.new.stamps)))
    (sym c.ended.ensures.made) (on_err-both c.make-made.result c.make-made.ensures.papers_stay c.make-made.ensures.stamps_stay (λ papers stamps. (papers, stamps)))

back : (c : goal.After-ended) → OnErr c.ended.result (c.ended.new.self ≡ c.put_last.new.turns)
back c = on_err_weaker c.ended.result (λ before. before c.put_last.new.turns c.in_ok-begin.ensures.begun) c.ended.ensures.as_before

pub invariant_of-self-2 : goal.invariant_of-self-2
invariant_of-self-2 c =
    either-way c.ended.result
    (on_ok-both c.ended.result (made c) (turned c) (λ made turns.
    done-kept c.self.invariant c.args.amendment (leaver (goal.at.invariant_of-self-2 c).After-put_last) c.put_last.ensures.turns c.put_last.ensures.papers c.put_last.ensures.stamps (allowed (goal.at.invariant_of-self-2 c).After-put_last) made.0 made.1 turns))
    (on_err-both c.ended.result (stay c) (back c) (λ stay turns.
    kept-along c.put_last.new.turns c.ended.new.self c.put_last.new.papers c.make-made.new.papers c.put_last.new.stamps c.make-made.new.stamps turns stay.0 stay.1 (ready (goal.at.invariant_of-self-2 c).After-put_last)))

pub returns-clause-accepted : goal.returns-clause-accepted
returns-clause-accepted c =
    on_ok-both c.ended.result (made c) (turned c) (λ made turns.
    done-in_turn c.self.invariant c.args.amendment (leaver (goal.at.returns-clause-accepted c).After-put_last) c.put_last.ensures.turns c.put_last.ensures.papers c.put_last.ensures.stamps (allowed (goal.at.returns-clause-accepted c).After-put_last) made.0 made.1 turns
    ∙ ap (λ (p : StampedPapers). stamped_after p c.args.amendment) c.self.view_is)

pub returns-clause-unchanged : goal.returns-clause-unchanged
returns-clause-unchanged c = on_err-both c.ended.result (stay c) (back c) (λ stay turns. (λ u. stamped_in_turn (turns u).positions (stay.0 u) (stay.1 u)) ∙ same (goal.at.returns-clause-unchanged c).After-put_last)
