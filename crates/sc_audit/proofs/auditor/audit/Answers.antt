use Rattle.sc_audit.proofs.Verdicts.{certified-optimal}
use Rattle.sc_audit.proofs.auditor.audit.Goals as goal

pub returns-clause-optimal : goal.returns-clause-optimal
returns-clause-optimal c = certified-optimal c.args.papers.now c.args.log.now c.read.result c.in_ok-state.ensures.keeps_best.well_formed c.read.ensures.verdict
