use Rattle.std.proofs.Common.{◌+◌, ℕ, ap, sym, ◌∙◌}
use Rattle.sc_intake.proofs.LineCut.{fields-count}
use Rattle.sc_intake.proofs.plain_records.fields_len.Goals as goal

pub returns-clause-count : goal.returns-clause-count
returns-clause-count c = ap (λ (n : ℕ). n + 1) c.count_of.ensures ∙ sym (fields-count c.args.line.now)
