use Rattle.std.proofs.Common.{◌∙◌}
use Rattle.sc_checks.proofs.Bytes.{byte-found}
use Rattle.sc_checks.proofs.words.has_byte.Goals as goal

pub returns : goal.returns
returns c = c.is_some.ensures ∙ byte-found c.args.byte c.args.text.now c.memchr.result c.memchr.ensures
