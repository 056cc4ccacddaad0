use Rattle.std.proofs.Common.{◌≡◌, OnErr, OnOk, subst, sym, ap, ◌∙◌}
use Rattle.std.proofs.lemmas.Result.{on_err_weaker, on_ok_weaker}
use Rattle.sc_stamps.specs.Stamps.{IsInStep, begun, finished, marking_of, stamps_after}
use Rattle.sc_stamps.specs.Verdict.{GivesStamp}
use Rattle.sc_stamps.specs.declared.marking.Marking.{Marking}
use Rattle.sc_papers.specs.Market.{Market}
use Rattle.sc_papers.specs.Verdict.{after, verdict}
use Rattle.sc_repair.specs.Stamped.{StampedStanding, stamped_papers}
use Rattle.sc_repair.specs.Standing.{IsCertified, Standing}
use Rattle.sc_stamps.proofs.Accepted.{gives-stamp, stays-in-step}
use Rattle.sc_repair.proofs.Outcomes.{either-way, on_err-both, on_ok-both}
use Rattle.sc_repair.proofs.clearing.Clearing.amend_allowed.Goals as goal

-- where the amendment is made the papers are amended, and the record has its stamp
amended : (c : goal.After-ended) → OnOk c.ended.result (c.amend-made.new.self.papers ≡ after c.self.inside.settlement.papers c.args.amendment)
amended c = subst (λ r. OnOk r (c.amend-made.new.self.papers ≡ after c.self.inside.settlement.papers c.args.amendment)) (sym c.ended.ensures.made) c.amend-made.ensures.accepted

marked : (c : goal.After-ended) → OnOk c.ended.result (c.ended.new.stamps ≡ stamps_after c.self.inside.settlement.papers c.args.amendment c.self.inside.stamps)
marked c = on_ok_weaker c.ended.result (λ done.
    done ∙ ap (finished c.marking_of-marking.result) c.in_ok-begin.ensures.begun
    ∙ ap (λ (k : Marking). finished k (begun k c.self.inside.stamps)) (c.marking_of-marking.ensures ∙ ap (λ (n : Market). marking_of n c.args.amendment) (c.deref.ensures ∙ c.papers.ensures.papers ∙ ap (λ (s : StampedStanding). s.standing.papers) (sym c.self.view_is)))) c.ended.ensures.finished

pub invariant_of-self-2 : goal.invariant_of-self-2
invariant_of-self-2 c =
    either-way c.ended.result
    (on_ok-both c.ended.result (amended c) (marked c) (λ papers stamps. stays-in-step c.self.inside.settlement.papers c.amend-made.new.self.papers c.self.inside.stamps c.ended.new.stamps c.args.amendment papers stamps c.self.invariant))
    (on_err-both c.ended.result
    (subst (λ r. OnErr r (c.amend-made.new.self ≡ c.self.inside.settlement)) (sym c.ended.ensures.made) c.amend-made.ensures.unchanged)
    (on_err_weaker c.ended.result (λ before. before c.self.inside.stamps c.in_ok-begin.ensures.begun) c.ended.ensures.as_before)
    (λ standing stamps. subst (λ (s : Standing). IsInStep s.papers c.ended.new.stamps) (sym standing) (subst (IsInStep c.self.inside.settlement.papers) (sym stamps) c.self.invariant)))

pub returns-clause-stamped : goal.returns-clause-stamped
returns-clause-stamped c =
    let m = c.self.inside.settlement.papers in
    on_ok-both c.ended.result (amended c) (marked c) (λ papers stamps.
    subst (λ (s : StampedStanding). GivesStamp (stamped_papers s) c.args.amendment (record { papers = c.amend-made.new.self.papers; stamps = c.ended.new.stamps })) c.self.view_is
    (gives-stamp m c.amend-made.new.self.papers c.self.inside.stamps c.ended.new.stamps c.args.amendment papers stamps (subst (λ (s : StampedStanding). IsCertified s.standing) (sym c.self.view_is) c.papers.ensures.certified).well_formed (ap (λ (s : StampedStanding). verdict s.standing.papers c.args.amendment) c.self.view_is ∙ c.requires.allowed) c.self.invariant))
