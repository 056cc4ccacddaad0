use Rattle.std.proofs.Common.{ℕ, ap, sym, ◌∙◌, slice_get, arith}
use Rattle.std.proofs.lemmas.Option.{slice_get_within}
use Rattle.sc_papers.specs.Market.{choices_of, student_at}
use Rattle.sc_papers.proofs.Hands.{hand-position}
use Rattle.sc_papers.proofs.Students.{choices-short}
use Rattle.sc_engine.specs.Round.{view_of}
use Rattle.sc_engine.proofs.Moves.{roll-new}
use Rattle.sc_engine.proofs.Tables.{rank-low}
use Rattle.sc_engine.proofs.Together.{passes-on, passes-start}
use Rattle.sc_engine.proofs.round.Round.first_open.Goals as goal

pub loop-proposal-init : goal.loop-proposal-init
loop-proposal-init g c away hand = passes-start c.args.papers.now (view_of g.R.Roll.keys g.R.Roll.seats c.args.self.now) away (student_at c.args.papers.now c.args.proposer) c.args.proposer c.args.from hand c.requires.stands

pub is_refused-requires-clause-new : goal.is_refused-requires-clause-new
is_refused-requires-clause-new g c =
    roll-new c.args.papers.now (view_of g.R.Roll.keys g.R.Roll.seats c.args.self.now) c.requires.away.away.0 (student_at c.args.papers.now c.args.proposer) c.in-Some.proposal.school c.in-Some.proposal.position c.in-Some.proposal.key
    c.requires.away.away.1 c.in-Some.ensures.position c.in-Some.ensures.key

pub overflow_add-rank : goal.overflow_add-rank
overflow_add-rank g c =
    let i : ℕ = student_at c.args.papers.now c.args.proposer in
    omega (arith, slice_get_within (choices_of c.args.papers.now i) c.from.result c.in-Some.proposal.school (sym c.in-Some.ensures.school), c.from.ensures, choices-short c.args.papers.now c.requires.away.away.1.fits.within_limits i)

pub loop-proposal-smaller : goal.loop-proposal-smaller
loop-proposal-smaller g c = omega (arith, slice_get_within (choices_of c.args.papers.now (student_at c.args.papers.now c.args.proposer)) c.from.result c.in-Some.proposal.school (sym c.in-Some.ensures.school), c.from.ensures)

pub loop-proposal-preserved : goal.loop-proposal-preserved
loop-proposal-preserved g c away hand =
    let papers = c.args.papers.now in
    passes-on papers (view_of g.R.Roll.keys g.R.Roll.seats c.args.self.now) away (student_at papers c.args.proposer) c.args.proposer c.loop-proposal.rank c.in-Some.proposal hand
    (hand-position papers hand.fits.well_formed c.args.proposer c.requires.away.within) (rank-low c.args.self.now.ranks c.args.proposer c.args.from c.requires.stands)
    (record { school = c.in-Some.ensures.school ∙ ap (slice_get (choices_of papers (student_at papers c.args.proposer))) c.from.ensures; position = c.in-Some.ensures.position; key = c.in-Some.ensures.key }) (c.is_refused.ensures c.if-not-is_refused.false)
    (c.loop-proposal.invariant away hand)
