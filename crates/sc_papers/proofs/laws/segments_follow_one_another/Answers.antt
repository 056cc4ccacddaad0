use Rattle.sc_papers.proofs.Cutting.{segments-settled, segments-push}
use Rattle.sc_papers.proofs.laws.segments_follow_one_another.Goals as goal

pub returns-clause-joined : goal.returns-clause-joined
returns-clause-joined c = segments-settled

pub returns-clause-push : goal.returns-clause-push
returns-clause-push c = segments-push
