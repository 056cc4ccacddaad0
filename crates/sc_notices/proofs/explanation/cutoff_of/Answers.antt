use Rattle.sc_reasons.proofs.CutoffLemmas.{cutoff-read}
use Rattle.sc_notices.proofs.explanation.cutoff_of.Goals as goal

pub returns : goal.returns
returns c m a are found =
    cutoff-read m a c.args.rows.now c.args.choice.now.school c.args.choice.now.position c.index-rows-choice.result are found
