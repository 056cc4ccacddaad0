use Rattle.std.proofs.Common.{None, rules}
use Rattle.sc_decimal.specs.Number.{read_plain_number}
use Rattle.sc_decimal.proofs.Spelling.{spelled}
use Rattle.sc_decimal.proofs.reading.read_plain_number.Goals as goal

pub returns-then-has_leading_zero-clause-spelled :
    goal.returns-then-has_leading_zero-clause-spelled
unfolding read_plain_number
returns-then-has_leading_zero-clause-spelled c = spelled c.args.text.now None (search rules)

pub returns-clause-spelled : goal.returns-clause-spelled
unfolding read_plain_number
returns-clause-spelled c = spelled c.args.text.now c.read_number.result (search rules)
