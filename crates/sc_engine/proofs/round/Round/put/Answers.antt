use Rattle.std.proofs.Common.{refl, ap, sym, subst, ◌∙◌, ℕ, ◌<◌, List, Option, Some, None, Contains, IfSome, arith}
use Rattle.std.specs.Option.{option_map}
use Rattle.sc_papers.specs.Market.{choices_of, seats_of}
use Rattle.sc_papers.specs.Matching.{held}
use Rattle.sc_papers.specs.declared.proposal.Proposal.{Proposal}
use Rattle.sc_engine.specs.Proposals.{IsProposal}
use Rattle.sc_engine.specs.RoundView.{RoundView, next_of, only, StandsToo}
use Rattle.sc_engine.specs.Round.{view_of}
use Rattle.sc_engine.specs.Rolls.{rolls_of}
use Rattle.sc_engine.proofs.Beginning.{Begun, moved, begins, away-begun}
use Rattle.sc_papers.proofs.Entering.{is_some-false}
use Rattle.sc_papers.proofs.Hands.{student-there}
use Rattle.sc_engine.proofs.Moves.{roll-new, proposed-told}
use Rattle.sc_engine.proofs.Proposing.{proposes_there}
use Rattle.sc_engine.proofs.Putting.{next-begun, put-nowhere, roll-open, put-on_roll}
use Rattle.sc_engine.proofs.round.Round.put.Given as given
use Rattle.sc_engine.proofs.round.Round.put.Goals as goal
use Rattle.sc_engine.proofs.round.Round.put.Goals.{In-Some, In_ok-make_room}

-- the round with the student at their rank
abbrev mid : (g : given.Over) (c : In_ok-make_room g) → RoundView
mid g c = moved (view_of g.R.Roll.keys g.R.Roll.seats c.args.self.now) c.make_room.new.self c.position_near-at.result c.rank_in-rank.result

begun : (g : given.Over) (c : In_ok-make_room g) → Begun c.args.papers.now (view_of g.R.Roll.keys g.R.Roll.seats c.args.self.now) (mid g c) c.args.choice.student c.position_near-at.result c.rank_in-rank.result
begun g c =
    begins c.args.papers.now (view_of g.R.Roll.keys g.R.Roll.seats c.args.self.now) c.make_room.new.self c.args.choice.student c.position_near-at.result c.rank_in-rank.result c.requires.fits c.position_near-at.ensures
    c.requires.absent c.in_ok-make_room.ensures.room c.in_ok-make_room.ensures.same c.in_ok-make_room.ensures.within

-- what the papers tell is a proposal to the choice
told : (g : given.Over) (c : In-Some g) → IsProposal c.args.papers.now c.args.choice.student c.args.choice.next (Some c.in-Some.proposal)
told g c =
    let papers = c.args.papers.now in
    let i = c.args.choice.student in
    subst (IsProposal papers i c.args.choice.next) c.in-Some.is
    (proposes_there papers i c.position_near-at.result c.args.choice.next c.proposal.result (student-there papers i c.position_near-at.result c.position_near-at.ensures)
    (c.proposal.ensures.school ∙ c.rank_in-rank.ensures.rank) c.proposal.ensures.position c.proposal.ensures.key)

pub rank_in-rank-requires-clause-listed : goal.rank_in-rank-requires-clause-listed
rank_in-rank-requires-clause-listed g c =
    let papers = c.args.papers.now in
    subst (λ (i : ℕ). IfSome c.args.choice.next (λ s. Contains (choices_of papers i) s))
    (sym (student-there papers c.args.choice.student c.position_near-at.result c.position_near-at.ensures)) c.requires.listed

pub returns-in_default-clause-stands : goal.returns-in_default-clause-stands
returns-in_default-clause-stands g c =
    let old = view_of g.R.Roll.keys g.R.Roll.seats c.args.self.now in
    subst (λ (ranks : List (Option ℕ)). StandsToo c.args.papers.now old (record old { ranks = ranks }) c.args.choice.student c.args.choice.next) (sym c.put.ensures)
    (put-nowhere (begun g (goal.at.returns-in_default-clause-stands g c).In_ok-make_room) c.args.choice.next c.rank_in-rank.ensures.rank
    (sym c.rank_in-rank.ensures.rank ∙ sym c.proposal.ensures.school ∙ ap (option_map (λ (p : Proposal). p.school)) c.in_default.is))

pub offer_to-requires-clause-new : goal.offer_to-requires-clause-new
offer_to-requires-clause-new g c =
    let at = goal.at.offer_to-requires-clause-new g c in
    let so = told g at.In-Some in
    roll-new c.args.papers.now _ (only c.args.choice.student) c.args.choice.student c.in-Some.proposal.school c.in-Some.proposal.position c.of-offered.result
    (away-begun (begun g at.In_ok-make_room)) so.position (c.of-offered.ensures ∙ so.key)

pub unreachable-requires : goal.unreachable-requires
unreachable-requires g c =
    let papers = c.args.papers.now in
    let old = view_of g.R.Roll.keys g.R.Roll.seats c.args.self.now in
    let so = told g (goal.at.unreachable-requires g c).In-Some in
    omega (
      arith,
      roll-open papers old c.in-Some.proposal.school c.in-Some.proposal.position c.requires.fits so.position
          (subst (λ (o : Option ℕ). IfSome o (λ s. held papers (next_of papers old.ranks) s < seats_of papers s)) (sym so.school) c.requires.room),
      c.in_ok-out.ensures.own.full (sym c.is_some.ensures ∙ c.if-is_some.true),
    )

pub returns-clause-stands : goal.returns-clause-stands
returns-clause-stands g c =
    let papers = c.args.papers.now in
    let old = view_of g.R.Roll.keys g.R.Roll.seats c.args.self.now in
    let rolls = rolls_of g.R.Roll.keys g.R.Roll.seats c.offer_to.new.rolls.items in
    let at = goal.at.returns-clause-stands g c in
    let put = mid g at.In_ok-make_room in
    let so = told g at.In-Some in
    let start = begun g at.In_ok-make_room in
    subst (λ (ranks : List (Option ℕ)). StandsToo papers old (record old { ranks = ranks; rolls = rolls }) c.args.choice.student c.args.choice.next) (sym c.put.ensures)
    (put-on_roll start (record put { rolls = rolls }) c.args.choice.next c.in-Some.proposal.school c.in-Some.proposal.position c.rank_in-rank.ensures.rank (sym so.school)
    (proposed-told papers put (only c.args.choice.student) c.args.choice.student c.in-Some.proposal.school c.in-Some.proposal.position c.of-offered.result rolls c.in_ok-out.out None
    (away-begun start) (next-begun start c.args.choice.next c.rank_in-rank.ensures.rank ∙ sym so.school) so.position (c.of-offered.ensures ∙ so.key) c.in_ok-out.ensures
    (is_some-false c.in_ok-out.out (sym c.is_some.ensures ∙ c.if-is_some.false)))
    refl refl refl)
