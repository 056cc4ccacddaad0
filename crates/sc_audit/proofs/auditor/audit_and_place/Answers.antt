use Rattle.sc_audit.specs.AuditState.{view_of}
use Rattle.sc_audit.proofs.Verdicts.{places-by}
use Rattle.sc_audit.proofs.auditor.audit_and_place.Goals as goal

pub returns-in-Certified-clause-places : goal.returns-in-Certified-clause-places
returns-in-Certified-clause-places c = λ certified.
    places-by c.args.papers.now c.args.log.now (view_of c.read.new.state) _ (c.in_ok-verdict.ensures.follows c.in-Certified.is) c.in_ok-places-in-Certified.ensures
