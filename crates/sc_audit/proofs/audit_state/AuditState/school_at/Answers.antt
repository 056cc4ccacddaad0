use Rattle.std.proofs.Common.{◌≡◌, ◌∙◌, ap, sym, Some, None, slice_get}
use Rattle.std.specs.Option.{option_and_then}
use Rattle.sc_papers.specs.Market.{choices_of, student_at}
use Rattle.sc_papers.proofs.Hands.{hand-position}
use Rattle.sc_audit.specs.AuditView.{stand_of}
use Rattle.sc_audit.proofs.Tables.{stand-at}
use Rattle.sc_audit.proofs.audit_state.AuditState.school_at.Goals as goal

pub returns-in_err-rank : goal.returns-in_err-rank
returns-in_err-rank c =
    let m = c.args.papers.now in
    let stands = c.args.self.now.stands.items in
    let i = student_at m c.args.student in
    let here : stand_of m stands i ≡ c.index.result.now = sym (stand-at m stands i c.args.student c.index.result.now c.requires.keeps_best.stands (hand-position m c.requires.keeps_best.well_formed c.args.student c.requires.within) c.index.ensures) in
    c.from_residual.ensures ∙ sym (ap (option_and_then (slice_get (choices_of m i))) (here ∙ c.in_err-rank.was))

pub returns-in_err-proposal : goal.returns-in_err-proposal
returns-in_err-proposal c =
    let m = c.args.papers.now in
    let stands = c.args.self.now.stands.items in
    let i = student_at m c.args.student in
    let here : stand_of m stands i ≡ c.index.result.now = sym (stand-at m stands i c.args.student c.index.result.now c.requires.keeps_best.stands (hand-position m c.requires.keeps_best.well_formed c.args.student c.requires.within) c.index.ensures) in
    let none : slice_get (choices_of m i) c.in_ok-rank.rank ≡ None = ap (slice_get (choices_of m i)) (sym c.from.ensures) ∙ sym c.in_err-proposal.ensures.school in
    c.from_residual-in_err-proposal.ensures ∙ sym (ap (option_and_then (slice_get (choices_of m i))) (here ∙ c.in_ok-rank.was) ∙ none)

pub returns : goal.returns
returns c =
    let m = c.args.papers.now in
    let stands = c.args.self.now.stands.items in
    let i = student_at m c.args.student in
    let here : stand_of m stands i ≡ c.index.result.now = sym (stand-at m stands i c.args.student c.index.result.now c.requires.keeps_best.stands (hand-position m c.requires.keeps_best.well_formed c.args.student c.requires.within) c.index.ensures) in
    let choice : slice_get (choices_of m i) c.in_ok-rank.rank ≡ Some c.in_ok-proposal.proposal.school = ap (slice_get (choices_of m i)) (sym c.from.ensures) ∙ sym c.in_ok-proposal.ensures.school in
    sym (ap (option_and_then (slice_get (choices_of m i))) (here ∙ c.in_ok-rank.was) ∙ choice)
