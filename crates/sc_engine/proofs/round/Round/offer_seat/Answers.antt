use Rattle.std.proofs.Common.{◌≡◌, ℕ, Bool, ap, refl, sym, ◌∙◌, ◌+◌, Option, None, Some, arith}
use Rattle.sc_papers.specs.Market.{student_at}
use Rattle.sc_papers.specs.declared.key.Key.{Key}
use Rattle.sc_engine.specs.Round.{view_of}
use Rattle.sc_engine.specs.RoundView.{IsAway, RoundView}
use Rattle.sc_engine.specs.Rolls.{rolls_of}
use Rattle.sc_engine.proofs.Moves.{proposed-told, roll-new}
use Rattle.sc_engine.proofs.Proposals.{Proposed, standing-most}
use Rattle.sc_engine.proofs.Steps.{proposes-offered}
use Rattle.sc_engine.proofs.round.Round.offer_seat.Given as given
use Rattle.sc_engine.proofs.round.Round.offer_seat.Goals as goal
use Rattle.sc_engine.proofs.round.Round.offer_seat.Goals.{In_ok-out}

-- the roll answers to the proposal
proposed : (g : given.Over) (c : In_ok-out g) (away : ℕ → Bool) → IsAway c.args.papers.now (view_of g.R.Roll.keys g.R.Roll.seats c.args.self.now) away (student_at c.args.papers.now c.args.proposer)
    → (out : Option Key) → c.in_ok-out.field-0 ≡ out
    → Proposed c.args.papers.now (view_of g.R.Roll.keys g.R.Roll.seats c.args.self.now) away (student_at c.args.papers.now c.args.proposer) c.args.proposal.now.school c.args.proposal.now.position (rolls_of g.R.Roll.keys g.R.Roll.seats c.offer_to.new.rolls.items) out
proposed g c away hand out is =
    proposed-told c.args.papers.now (view_of g.R.Roll.keys g.R.Roll.seats c.args.self.now) away (student_at c.args.papers.now c.args.proposer) c.args.proposal.now.school c.args.proposal.now.position c.of-offered.result _ c.in_ok-out.field-0 out
    hand (sym c.requires.made.school) c.requires.made.position (c.of-offered.ensures ∙ c.requires.made.key) c.in_ok-out.ensures is

pub offer_to-requires-clause-new : goal.offer_to-requires-clause-new
offer_to-requires-clause-new g c =
    let (away, hand) = c.requires.away in
    roll-new c.args.papers.now (view_of g.R.Roll.keys g.R.Roll.seats c.args.self.now) away (student_at c.args.papers.now c.args.proposer) c.args.proposal.now.school c.args.proposal.now.position c.of-offered.result
    hand c.requires.made.position (c.of-offered.ensures ∙ c.requires.made.key)

pub overflow_add-self : goal.overflow_add-self
overflow_add-self g c =
    let (away, hand) = c.requires.away in
    omega (arith, hand.fits.proposals, standing-most c.args.papers.now c.args.self.now.ranks away hand.fits.within_limits, c.args.self.now.log.small, c.args.self.now.log.ok)

pub returns-in_default : goal.returns-in_default
returns-in_default g c away hand =
    let old : RoundView = view_of g.R.Roll.keys g.R.Roll.seats c.args.self.now in
    proposes-offered None (record old { rolls = rolls_of g.R.Roll.keys g.R.Roll.seats c.offer_to.new.rolls.items; proposals = old.proposals + 1 }) (proposed g (goal.at.returns-in_default g c).In_ok-out away hand None c.in_default.is) refl refl (omega arith)

pub returns : goal.returns
returns g c away hand =
    let old : RoundView = view_of g.R.Roll.keys g.R.Roll.seats c.args.self.now in
    proposes-offered (Some c.key-student.result) (record old { rolls = rolls_of g.R.Roll.keys g.R.Roll.seats c.offer_to.new.rolls.items })
    (proposed g (goal.at.returns g c).In_ok-out away hand (Some c.key-student.result) (c.in-Some.is ∙ ap Some (sym c.key-student.ensures))) refl refl (omega arith)
