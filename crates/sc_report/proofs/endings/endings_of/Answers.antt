use Rattle.std.proofs.Common.{ap, codes, decimal, ◌∙◌, ◌++◌}
use Rattle.sc_report.proofs.EndingLemmas.{endings-made}
use Rattle.sc_report.proofs.endings.endings_of.Goals as goal

pub returns : goal.returns
returns c =
    endings-made c.args.row.now c.reasons_by_class-last.result.0 c.number_then.result c.in_ok-within.within c.in_ok-beyond.beyond c.reasons_by_class-last.result.1 c.reasons_by_class-last.result.2
    (c.number_then.ensures ∙ ap (λ n. decimal n ++ codes "\n") c.get.ensures.value) c.in_ok-within.ensures c.in_ok-beyond.ensures c.reasons_by_class-last.ensures
