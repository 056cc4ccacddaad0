use Rattle.std.proofs.Common.{◌<◌, ◌∙◌, ap, sym, ◌++◌, ◌∷◌, [], length, map, take, arith}
use Rattle.std.proofs.lemmas.List.{map-append}
use Rattle.sc_papers.specs.Market.{students_of, student_at}
use Rattle.sc_papers.proofs.Hands.{hand-there}
use Rattle.sc_audit.specs.AuditView.{next_of}
use Rattle.sc_tallies.proofs.Tallying.{take-one}
use Rattle.sc_audit.proofs.audit_state.AuditState.places.Goals as goal

pub loop-position-preserved : goal.loop-position-preserved
loop-position-preserved c =
    let m = c.args.papers.now in
    let next = next_of m c.args.self.now.stands.items in
    let k = c.loop-position.position in
    let first = take k (students_of m) in
    let low : k < length m.students = omega (arith, c.loop-position-test.true, c.students_len-position-end.ensures.count) in
    c.in_ok-push.ensures.items ∙ (λ t. c.loop-position.invariant t ++ c.school_at.ensures t ∷ [])
    ∙ sym (map-append next first (student_at m k ∷ []))
    ∙ ap (map next) (sym (take-one (students_of m) k (student_at m k) (hand-there m k low)))
