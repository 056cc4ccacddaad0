use Rattle.std.proofs.Common.{◌≡◌, ℕ, ap, subst, sym, ◌∙◌, None, Some, get_or, get_or-set_same, arith}
use Rattle.sc_papers.specs.Market.{student_at}
use Rattle.sc_papers.proofs.Hands.{hand-position}
use Rattle.sc_engine.specs.Proposals.{IsProposal}
use Rattle.sc_engine.specs.Round.{view_of}
use Rattle.sc_engine.specs.RoundView.{next_of}
use Rattle.sc_engine.proofs.Proposing.{proposes_nothing}
use Rattle.sc_engine.proofs.Tables.{next-by, next_absent, rank-at, rank-low}
use Rattle.sc_engine.proofs.Together.{passes-none}
use Rattle.sc_engine.proofs.round.Round.pass_on.Goals as goal

pub returns-in_err-from-clause-passed : goal.returns-in_err-from-clause-passed
returns-in_err-from-clause-passed g c away hand = passes-none c.args.papers.now (view_of g.R.Roll.keys g.R.Roll.seats c.args.self.now) away (student_at c.args.papers.now c.args.proposer) hand

pub returns-in_err-from-clause-next : goal.returns-in_err-from-clause-next
returns-in_err-from-clause-next g c =
    let papers = c.args.papers.now in
    let i : ℕ = student_at papers c.args.proposer in
    let there = hand-position papers c.requires.away.1.fits.well_formed c.args.proposer c.requires.within in
    proposes_nothing papers i (next_of papers c.args.self.now.ranks i) c.from_residual.result (grind (arith, c.from_residual.ensures, c.in_err-from.is, c.in_err-from.ensures))
    (next_absent papers c.args.self.now.ranks i c.args.proposer there (grind (arith, c.rank_or_none.ensures, c.as_slice.ensures.value, c.in_err-from.is, c.in_err-from.was, c.in_err-from.ensures, c.branch-from.ensures)))

pub returns-clause-next : goal.returns-clause-next
returns-clause-next g c =
    let papers = c.args.papers.now in
    let i : ℕ = student_at papers c.args.proposer in
    let there = hand-position papers c.requires.away.1.fits.well_formed c.args.proposer c.requires.within in
    let stood : get_or c.args.self.now.ranks c.args.proposer None ≡ Some c.in_ok-from.from = grind (arith, c.rank_or_none.ensures, c.as_slice.ensures.value, c.in_ok-from.is, c.in_ok-from.was, c.in_ok-from.ensures, c.branch-from.ensures) in
    let rank : ℕ = c.first_open-rank.result.0 in
    let stands : get_or c.move_to.new.self c.args.proposer None ≡ Some rank = ap (λ l. get_or l c.args.proposer None) c.move_to.ensures ∙ get_or-set_same c.args.self.now.ranks c.args.proposer (Some rank) None (rank-low c.args.self.now.ranks c.args.proposer c.in_ok-from.from stood) in
    subst (λ o. IsProposal papers i o c.first_open-rank.result.1) (sym (next-by papers c.move_to.new.self i rank (rank-at papers c.move_to.new.self i c.args.proposer there ∙ stands))) c.first_open-rank.ensures.next
