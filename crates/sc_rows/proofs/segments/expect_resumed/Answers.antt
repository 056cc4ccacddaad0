use Rattle.std.proofs.Common.{ap, arith, length}
use Rattle.std.proofs.lemmas.List.{length-map}
use Rattle.sc_checkpoint.specs.Chains.{Chain}
use Rattle.sc_rows.proofs.segments.expect_resumed.Goals as goal

pub next_choices_at-requires-clause-within : goal.next_choices_at-requires-clause-within
next_choices_at-requires-clause-within g c = omega (arith, ap length c.requires, length-map c.args.segments.now (λ (chain : Chain). chain.student))
