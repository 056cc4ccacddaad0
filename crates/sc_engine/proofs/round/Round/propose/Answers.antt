use Rattle.std.proofs.Common.{ℕ, ap, subst, sym, ◌∙◌}
use Rattle.std.specs.Option.{option_map}
use Rattle.sc_papers.specs.Market.{student_at}
use Rattle.sc_papers.specs.declared.proposal.Proposal.{Proposal}
use Rattle.sc_engine.specs.Proposals.{IsProposal}
use Rattle.sc_engine.specs.Round.{view_of}
use Rattle.sc_engine.specs.RoundView.{next_of}
use Rattle.sc_engine.proofs.Steps.{proposes-after, proposes-ended}
use Rattle.sc_engine.proofs.round.Round.propose.Goals as goal

pub returns-in_default : goal.returns-in_default
returns-in_default g c away hand =
    let first = c.in_ok-proposal.ensures.passed away hand in
    proposes-after first (proposes-ended c.args.papers.now (view_of g.R.Roll.keys g.R.Roll.seats c.next_open.new.self) away (student_at c.args.papers.now c.args.proposer) (record { fits = first.moves.fits; gone = hand.gone })
    (sym c.in_ok-proposal.ensures.next.school ∙ ap (option_map (λ (p : Proposal). p.school)) c.in_default.is))

pub offer_seat-requires-clause-away : goal.offer_seat-requires-clause-away
offer_seat-requires-clause-away g c =
    let (away, hand) = c.requires.away in
    (away, record { fits = (c.in_ok-proposal.ensures.passed away hand).moves.fits; gone = hand.gone })

pub offer_seat-requires-clause-made : goal.offer_seat-requires-clause-made
offer_seat-requires-clause-made g c =
    let i : ℕ = student_at c.args.papers.now c.args.proposer in
    subst (IsProposal c.args.papers.now i (next_of c.args.papers.now c.next_open.new.self.ranks i)) c.in-Some.is c.in_ok-proposal.ensures.next
