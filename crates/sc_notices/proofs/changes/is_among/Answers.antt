use Rattle.std.proofs.Common.{◌∙◌}
use Rattle.sc_notices.proofs.ChangeLemmas.{searched-student}
use Rattle.sc_notices.proofs.changes.is_among.Goals as goal

pub returns : goal.returns
returns c m are = c.is_ok.ensures.value ∙ searched-student m c.args.numbers.now c.args.student c.binary_search.result are c.binary_search.ensures.position
