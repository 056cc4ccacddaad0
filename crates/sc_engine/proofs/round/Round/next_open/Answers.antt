use Rattle.std.proofs.Common.{◌≡◌, ℕ, Bool, ap, sym, ◌∙◌, ◌<◌, Option, Some, None, arith}
use Rattle.std.proofs.lemmas.Map.Entries.{length-keys_of}
use Rattle.sc_papers.specs.Market.{schools_of, student_at}
use Rattle.sc_papers.specs.declared.proposal.Proposal.{Proposal}
use Rattle.sc_papers.proofs.Hands.{hand-position}
use Rattle.sc_papers.proofs.Positions.{position-at}
use Rattle.sc_engine.specs.Proposals.{IsProposal}
use Rattle.sc_engine.specs.RoundView.{IsAway, Passes, choices_left, next_of}
use Rattle.sc_engine.specs.Round.{view_of}
use Rattle.sc_engine.specs.Rolls.{rolls_of}
use Rattle.sc_engine.proofs.Offers.{seen_by}
use Rattle.sc_engine.proofs.Ranks.{stander-short}
use Rattle.sc_engine.proofs.Proposals.{standing-most}
use Rattle.sc_engine.proofs.Moves.{passed-more, proposes-at, roll-new}
use Rattle.sc_engine.proofs.Tables.{length-mapped, rank-at}
use Rattle.sc_engine.proofs.round.Round.next_open.Given as given
use Rattle.sc_engine.proofs.round.Round.next_open.Goals as goal
use Rattle.sc_engine.proofs.round.Round.next_open.Goals.{After-proposal_of}

-- what the papers tell is what the student proposes
told : (g : given.Over) (c : After-proposal_of g) (answer : Option Proposal) → c.proposal_of.result ≡ answer
    → IsProposal c.args.papers.now (student_at c.args.papers.now c.args.proposer) (next_of c.args.papers.now c.passed.self.ranks (student_at c.args.papers.now c.args.proposer)) answer
told g c answer is =
    proposes-at c.args.papers.now c.as_slice.result.now c.args.proposer c.proposal_of.result c.requires.away.1.fits.well_formed c.requires.within c.proposal_of.ensures c.passed.self.ranks answer c.as_slice.ensures.value is

pub is_refused-requires-clause-within : goal.is_refused-requires-clause-within
is_refused-requires-clause-within g c =
    let made = told g (goal.at.is_refused-requires-clause-within g c).After-proposal_of (Some c.in-Some.proposal) c.in-Some.is in
    omega (
      arith,
      (position-at (schools_of c.args.papers.now) c.in-Some.proposal.school c.in-Some.proposal.position made.position).0,
      (c.passed.invariant c.requires.away.0 c.requires.away.1).moves.fits.rolls,
      length-keys_of c.args.papers.now.schools,
      length-mapped (seen_by g.R.Roll.keys g.R.Roll.seats) c.passed.self.rolls.items,
    )

pub is_refused-requires-clause-new : goal.is_refused-requires-clause-new
is_refused-requires-clause-new g c =
    let made = told g (goal.at.is_refused-requires-clause-new g c).After-proposal_of (Some c.in-Some.proposal) c.in-Some.is in
    roll-new c.args.papers.now (view_of g.R.Roll.keys g.R.Roll.seats c.passed.self) c.requires.away.0 (student_at c.args.papers.now c.args.proposer) c.in-Some.proposal.school c.in-Some.proposal.position c.in-Some.proposal.key
    (record { fits = (c.passed.invariant c.requires.away.0 c.requires.away.1).moves.fits; gone = c.requires.away.1.gone }) made.position made.key

pub returns-then-not-is_refused-clause-next : goal.returns-then-not-is_refused-clause-next
returns-then-not-is_refused-clause-next g c = told g (goal.at.returns-then-not-is_refused-clause-next g c).After-proposal_of (Some c.in-Some.proposal) c.in-Some.is

pub reject-requires-clause-count_fits : goal.reject-requires-clause-count_fits
reject-requires-clause-count_fits g c =
    omega (
      arith,
      (c.passed.invariant c.requires.away.0 c.requires.away.1).moves.fits.proposals,
      standing-most c.args.papers.now c.passed.self.ranks c.requires.away.0 c.requires.away.1.fits.within_limits,
      c.passed.self.log.small,
      c.passed.self.log.ok,
    )

pub reject-requires-clause-rank : goal.reject-requires-clause-rank
reject-requires-clause-rank g c rank is =
    let papers = c.args.papers.now in
    let made = told g (goal.at.reject-requires-clause-rank g c).After-proposal_of (Some c.in-Some.proposal) c.in-Some.is in
    let there = hand-position papers c.requires.away.1.fits.well_formed c.args.proposer c.requires.within in
    stander-short papers c.passed.self.ranks (student_at papers c.args.proposer) c.in-Some.proposal.school rank c.requires.away.1.fits.within_limits (sym made.school) (rank-at papers c.passed.self.ranks (student_at papers c.args.proposer) c.args.proposer there ∙ is)

-- one more school has refused
one-more : (g : given.Over) (c : goal.In_ok-reject g) (away : ℕ → Bool) → IsAway c.args.papers.now (view_of g.R.Roll.keys g.R.Roll.seats c.args.self.now) away (student_at c.args.papers.now c.args.proposer)
    → Passes c.args.papers.now (view_of g.R.Roll.keys g.R.Roll.seats c.args.self.now) away (view_of g.R.Roll.keys g.R.Roll.seats c.reject.new.self) (student_at c.args.papers.now c.args.proposer)
    × (choices_left c.args.papers.now c.reject.new.self.ranks < choices_left c.args.papers.now c.passed.self.ranks)
one-more g c away hand =
    let papers = c.args.papers.now in
    passed-more papers (view_of g.R.Roll.keys g.R.Roll.seats c.args.self.now) (view_of g.R.Roll.keys g.R.Roll.seats c.passed.self) (view_of g.R.Roll.keys g.R.Roll.seats c.reject.new.self) away (student_at papers c.args.proposer) c.args.proposer c.in-Some.proposal
    hand (c.passed.invariant away hand) (proposes-at papers c.as_slice.result.now c.args.proposer c.proposal_of.result c.requires.away.1.fits.well_formed c.requires.within c.proposal_of.ensures c.passed.self.ranks (Some c.in-Some.proposal) c.as_slice.ensures.value c.in-Some.is)
    (c.is_refused.ensures c.if-not-is_refused.false) (hand-position papers c.requires.away.1.fits.well_formed c.args.proposer c.requires.within)
    (ap (rolls_of g.R.Roll.keys g.R.Roll.seats) c.reject.ensures.rolls) c.in_ok-reject.ensures.log c.in_ok-reject.ensures.moved c.in_ok-reject.ensures.proposals

pub passed-smaller : goal.passed-smaller
passed-smaller g c = (one-more g c c.requires.away.0 c.requires.away.1).1

pub passed-preserved : goal.passed-preserved
passed-preserved g c away hand = (one-more g c away hand).0

pub returns-clause-next : goal.returns-clause-next
returns-clause-next g c = told g (goal.at.returns-clause-next g c).After-proposal_of None c.in_default.is
