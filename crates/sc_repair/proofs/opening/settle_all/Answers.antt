use Rattle.std.proofs.Common.{◌≡◌, ℕ, ap, ◌∙◌}
use Rattle.sc_papers.specs.Assignment.{assigned}
use Rattle.sc_checkpoint.specs.Chains.{logs_in}
use Rattle.sc_engine.specs.Round.{view_of}
use Rattle.sc_engine.specs.RoundView.{next_of}
use Rattle.sc_repair.specs.Resumption.{without_leaver}
use Rattle.sc_repair.proofs.Resumption.{certified-of, next-all, proposals-all, segments-all, students-all, well-all}
use Rattle.sc_repair.proofs.opening.settle_all.Given as given
use Rattle.sc_repair.proofs.opening.settle_all.Goals as goal
use Rattle.sc_repair.proofs.opening.settle_all.Goals.{After-drop-round-2}

-- everybody has the school at which they stand in the round
placed : (g : given.Over) (c : After-drop-round-2 g) (i : ℕ) → assigned c.in_ok-places.places i ≡ next_of c.args.papers.now (view_of g.R.Roll.keys g.R.Roll.seats c.enter_all.new.round).ranks i
placed g c i = ap (λ pairs. assigned pairs i) c.in_ok-places.ensures ∙ c.in_ok-assignment.ensures.given i

pub returns-clause-theirs : goal.returns-clause-theirs
returns-clause-theirs g c = students-all c.args.papers.now c.args.leaver _ _ _ c.in_ok-enter_all.ensures

pub returns-clause-certified : goal.returns-clause-certified
returns-clause-certified g c =
    let on = c.in_ok-enter_all.ensures in
    certified-of (without_leaver c.args.papers.now c.args.leaver) c.in_ok-places.places (logs_in c.enter_all.new.segments) c.proposals-proposals.result (well-all c.args.papers.now c.args.leaver _ _ _ on)
    (segments-all c.args.papers.now c.args.leaver _ _ _ on) (λ i. placed g c i ∙ next-all c.args.papers.now c.args.leaver _ _ _ on i)

pub returns-clause-proposals : goal.returns-clause-proposals
returns-clause-proposals g c =
    c.proposals-proposals.ensures ∙ proposals-all c.args.papers.now c.args.leaver _ _ _ c.in_ok-enter_all.ensures (assigned c.in_ok-places.places) (placed g c)
