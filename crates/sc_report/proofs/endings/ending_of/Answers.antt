use Rattle.std.proofs.Common.{◌++◌, ap, arith, codes, decimal, length, ◌∙◌}
use Rattle.sc_report.specs.ReasonText.{reason_word}
use Rattle.sc_report.proofs.EndingLemmas.{ending-short}
use Rattle.sc_report.proofs.endings.ending_of.Goals as goal

pub of-requires : goal.of-requires
of-requires c =
    let school = c.from.ensures ∙ c.get.ensures.value in
    let text = c.in_ok-push_reason.ensures
    ∙ ap (λ t. t ++ codes "," ++ reason_word c.args.reason ++ codes "\n") (c.in_ok-push_number.ensures ∙ (λ t. c.clear.ensures.items t ++ decimal (school t))) in
    omega (arith, ap length (c.as_slice.ensures.value ∙ text), ending-short c.args.school c.args.reason (omega (arith, c.get.ensures.value, c.get.ensures.greatest)))
