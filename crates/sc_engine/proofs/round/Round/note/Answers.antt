use Rattle.std.proofs.Common.{ℕ, ap, ◌∙◌, arith}
use Rattle.sc_engine.specs.Round.{view_of}
use Rattle.sc_engine.specs.Rolls.{rolls_of}
use Rattle.sc_engine.proofs.Moves.{refused-told}
use Rattle.sc_engine.proofs.Ranks.{stander-short, stander-student}
use Rattle.sc_engine.proofs.Proposals.{standing-most}
use Rattle.sc_engine.proofs.Steps.{Refused, left-refused, passes-refused}
use Rattle.sc_engine.proofs.Tables.{rank-at}
use Rattle.sc_engine.proofs.round.Round.note.Given as given
use Rattle.sc_engine.proofs.round.Round.note.Goals as goal

pub position_near-at-requires : goal.position_near-at-requires
position_near-at-requires g c = stander-student c.args.papers.now c.args.self.now.ranks c.args.out.entry.student c.args.out.entry.school c.requires.out.stands

pub reject-requires-clause-count_fits : goal.reject-requires-clause-count_fits
reject-requires-clause-count_fits g c =
    let (away, hand) = c.requires.away in
    omega (arith, hand.fits.proposals, standing-most c.args.papers.now c.args.self.now.ranks away hand.fits.within_limits, c.args.self.now.log.small, c.args.self.now.log.ok)

pub reject-requires-clause-rank : goal.reject-requires-clause-rank
reject-requires-clause-rank g c rank is =
    stander-short c.args.papers.now c.args.self.now.ranks c.args.out.entry.student c.args.out.entry.school rank c.requires.away.1.fits.within_limits c.requires.out.stands
    (rank-at c.args.papers.now c.args.self.now.ranks c.args.out.entry.student c.position_near-at.result c.position_near-at.ensures ∙ is)

-- the refusal is noted
noted : (g : given.Over) (c : goal.In_ok-reject g) → (rank : ℕ) × Refused c.args.papers.now (view_of g.R.Roll.keys g.R.Roll.seats c.args.self.now) (view_of g.R.Roll.keys g.R.Roll.seats c.reject.new.self) c.args.out.entry.student c.args.out.entry.school c.position_near-at.result rank
noted g c =
    refused-told c.args.papers.now (view_of g.R.Roll.keys g.R.Roll.seats c.args.self.now) (view_of g.R.Roll.keys g.R.Roll.seats c.reject.new.self) c.args.out.entry.student c.args.out.entry.school c.position_near-at.result
    c.requires.out c.position_near-at.ensures (ap (rolls_of g.R.Roll.keys g.R.Roll.seats) c.reject.ensures.rolls) c.in_ok-reject.ensures.log c.in_ok-reject.ensures.moved c.in_ok-reject.ensures.proposals

pub returns-clause-noted : goal.returns-clause-noted
returns-clause-noted g c away hand = passes-refused (noted g c).1 away hand

pub returns-clause-left : goal.returns-clause-left
returns-clause-left g c = omega (arith, left-refused c.requires.away.1.fits.well_formed (noted g c).1)
