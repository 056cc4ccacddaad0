use Rattle.std.proofs.Common.{◌+◌, ℕ, ap, sym, ◌∙◌}
use Rattle.sc_intake.proofs.LineCut.{fields-count}
use Rattle.sc_checks.proofs.fields.fields_len.Goals as goal

pub returns : goal.returns
returns c = ap (λ (n : ℕ). n + 1) c.commas.ensures ∙ sym (fields-count c.args.line.now)
