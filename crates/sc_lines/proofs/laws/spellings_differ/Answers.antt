use Rattle.sc_lines.proofs.Records.{line-injective}
use Rattle.sc_lines.proofs.laws.spellings_differ.Goals as goal

pub returns-clause-number : goal.returns-clause-number
returns-clause-number c n k a b rn rk ra rb e = (line-injective n k a b rn rk ra rb e).number

pub returns-clause-amendment : goal.returns-clause-amendment
returns-clause-amendment c n k a b rn rk ra rb e = (line-injective n k a b rn rk ra rb e).amendment
