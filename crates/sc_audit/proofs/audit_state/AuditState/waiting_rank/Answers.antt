use Rattle.std.proofs.Common.{◌∙◌, ap, sym, ℕ, nat_eq, Some, None}
use Rattle.std.specs.Option.{option_map}
use Rattle.std.proofs.lemmas.Bool.{cond-true, cond-false}
use Rattle.sc_papers.proofs.Hands.{student-there}
use Rattle.sc_audit.specs.AuditState.{view_of}
use Rattle.sc_audit.specs.AuditView.{waiting_at, waiting_rank}
use Rattle.sc_audit.proofs.Pasts.{waiting-nowhere}
use Rattle.sc_audit.proofs.Tables.{stand-away}
use Rattle.sc_audit.proofs.audit_state.AuditState.waiting_rank.Goals as goal

pub returns-in_err-student-clause-rank : goal.returns-in_err-student-clause-rank
returns-in_err-student-clause-rank c =
    let m = c.args.papers.now in
    let i = c.args.entry.student in
    ap (option_map (λ (found : ℕ × ℕ). found.1)) c.from_residual.ensures
    ∙ sym (ap (λ o. waiting_rank o c.args.entry.school) (waiting-nowhere m (view_of c.args.self.now) i (sym (stand-away m c.args.self.now.stands.items i (sym c.in_err-student.ensures)))))

pub returns-in_err-waiting-clause-rank : goal.returns-in_err-waiting-clause-rank
returns-in_err-waiting-clause-rank c =
    let m = c.args.papers.now in
    let here = ap (waiting_at m (view_of c.args.self.now)) (sym (student-there m c.args.entry.student c.in_ok-student.student (sym c.in_ok-student.ensures))) ∙ sym c.waiting_at.ensures ∙ c.in_err-waiting.was in
    ap (option_map (λ (found : ℕ × ℕ). found.1)) c.from_residual-in_err-waiting.ensures ∙ sym (ap (λ o. waiting_rank o c.args.entry.school) here)

pub returns-then-eq-clause-rank : goal.returns-then-eq-clause-rank
returns-then-eq-clause-rank c =
    let m = c.args.papers.now in
    let waiting = c.in_ok-waiting.waiting in
    let here = ap (waiting_at m (view_of c.args.self.now)) (sym (student-there m c.args.entry.student c.in_ok-student.student (sym c.in_ok-student.ensures))) ∙ sym c.waiting_at.ensures ∙ c.in_ok-waiting.was in
    sym (ap (λ o. waiting_rank o c.args.entry.school) here ∙ cond-true (nat_eq waiting.school c.args.entry.school) (Some waiting.rank) None (sym c.eq.ensures ∙ c.if-eq.true))

pub returns-else-eq-clause-rank : goal.returns-else-eq-clause-rank
returns-else-eq-clause-rank c =
    let m = c.args.papers.now in
    let waiting = c.in_ok-waiting.waiting in
    let here = ap (waiting_at m (view_of c.args.self.now)) (sym (student-there m c.args.entry.student c.in_ok-student.student (sym c.in_ok-student.ensures))) ∙ sym c.waiting_at.ensures ∙ c.in_ok-waiting.was in
    sym (ap (λ o. waiting_rank o c.args.entry.school) here ∙ cond-false (nat_eq waiting.school c.args.entry.school) (Some waiting.rank) None (sym c.eq.ensures ∙ c.if-eq.false))
