use Rattle.std.proofs.Common.{◌≡◌, ◌∙◌, ap, sym, Some, None, true, false, slice_get}
use Rattle.std.proofs.lemmas.Bool.{cond-true, cond-false}
use Rattle.sc_papers.specs.Market.{choices_of, student_at}
use Rattle.sc_papers.proofs.Hands.{hand-position}
use Rattle.sc_audit.specs.AuditState.{view_of}
use Rattle.sc_audit.specs.AuditView.{stand_of, is_past}
use Rattle.sc_audit.specs.BestKeys.{BestView}
use Rattle.sc_audit.proofs.Pasts.{past-made, past-none, past-read, waiting-nowhere, waiting-stands}
use Rattle.sc_audit.proofs.Steps.{school-low}
use Rattle.sc_audit.proofs.Tables.{stand-at}
use Rattle.sc_audit.proofs.audit_state.AuditState.waiting_at.Goals as goal

pub returns-in_err-rank : goal.returns-in_err-rank
returns-in_err-rank c =
    let m = c.args.papers.now in
    let stands = c.args.self.now.stands.items in
    let i = student_at m c.args.student in
    let here : stand_of m stands i ≡ c.index.result.now = sym (stand-at m stands i c.args.student c.index.result.now c.requires.keeps_best.stands (hand-position m c.requires.keeps_best.well_formed c.args.student c.requires.within) c.index.ensures) in
    c.from_residual.ensures ∙ sym (waiting-nowhere m (view_of c.args.self.now) i (here ∙ c.in_err-rank.was))

pub returns-in_err-proposal : goal.returns-in_err-proposal
returns-in_err-proposal c =
    let m = c.args.papers.now in
    let stands = c.args.self.now.stands.items in
    let i = student_at m c.args.student in
    let rank = c.in_ok-rank.rank in
    let here : stand_of m stands i ≡ c.index.result.now = sym (stand-at m stands i c.args.student c.index.result.now c.requires.keeps_best.stands (hand-position m c.requires.keeps_best.well_formed c.args.student c.requires.within) c.index.ensures) in
    let none : slice_get (choices_of m i) rank ≡ None = ap (slice_get (choices_of m i)) (sym c.from.ensures) ∙ sym c.in_err-proposal.ensures.school in
    c.from_residual-in_err-proposal.ensures
    ∙ sym (waiting-stands m (view_of c.args.self.now) i rank (here ∙ c.in_ok-rank.was) ∙ past-none m (view_of c.args.self.now).kept i rank none)

pub returns-then-are_ahead_of : goal.returns-then-are_ahead_of
returns-then-are_ahead_of c =
    let m = c.args.papers.now in
    let l = view_of c.args.self.now in
    let stands = c.args.self.now.stands.items in
    let i = student_at m c.args.student in
    let rank = c.in_ok-rank.rank in
    let s = c.in_ok-proposal.proposal.school in
    let at = c.in_ok-proposal.proposal.position in
    let key = c.in_ok-proposal.proposal.key in
    let here : stand_of m stands i ≡ c.index.result.now = sym (stand-at m stands i c.args.student c.index.result.now c.requires.keeps_best.stands (hand-position m c.requires.keeps_best.well_formed c.args.student c.requires.within) c.index.ensures) in
    let choice : slice_get (choices_of m i) rank ≡ Some s = ap (slice_get (choices_of m i)) (sym c.from.ensures) ∙ sym c.in_ok-proposal.ensures.school in
    let past : is_past m l.kept i s ≡ true =
    sym (past-read (λ (b : BestView). b.keys) m c.args.self.now.schools.items i s at c.index-2.result.now key c.are_ahead_of.result c.in_ok-proposal.ensures.position
    (school-low m l s at c.requires.keeps_best c.in_ok-proposal.ensures.position) c.index-2.ensures c.in_ok-proposal.ensures.key c.are_ahead_of.ensures) ∙ c.if-are_ahead_of.true in
    sym (waiting-stands m l i rank (here ∙ c.in_ok-rank.was) ∙ past-made m l.kept i rank s choice ∙ cond-true (is_past m l.kept i s) (Some (record { rank = rank; school = s })) None past)

pub returns-else-are_ahead_of : goal.returns-else-are_ahead_of
returns-else-are_ahead_of c =
    let m = c.args.papers.now in
    let l = view_of c.args.self.now in
    let stands = c.args.self.now.stands.items in
    let i = student_at m c.args.student in
    let rank = c.in_ok-rank.rank in
    let s = c.in_ok-proposal.proposal.school in
    let at = c.in_ok-proposal.proposal.position in
    let key = c.in_ok-proposal.proposal.key in
    let here : stand_of m stands i ≡ c.index.result.now = sym (stand-at m stands i c.args.student c.index.result.now c.requires.keeps_best.stands (hand-position m c.requires.keeps_best.well_formed c.args.student c.requires.within) c.index.ensures) in
    let choice : slice_get (choices_of m i) rank ≡ Some s = ap (slice_get (choices_of m i)) (sym c.from.ensures) ∙ sym c.in_ok-proposal.ensures.school in
    let past : is_past m l.kept i s ≡ false =
    sym (past-read (λ (b : BestView). b.keys) m c.args.self.now.schools.items i s at c.index-2.result.now key c.are_ahead_of.result c.in_ok-proposal.ensures.position
    (school-low m l s at c.requires.keeps_best c.in_ok-proposal.ensures.position) c.index-2.ensures c.in_ok-proposal.ensures.key c.are_ahead_of.ensures) ∙ c.if-are_ahead_of.false in
    sym (waiting-stands m l i rank (here ∙ c.in_ok-rank.was) ∙ past-made m l.kept i rank s choice ∙ cond-false (is_past m l.kept i s) (Some (record { rank = rank; school = s })) None past)
