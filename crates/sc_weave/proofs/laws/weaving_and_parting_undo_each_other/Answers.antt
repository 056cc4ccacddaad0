use Rattle.sc_weave.proofs.Undoing.{woven-parts, part-woven, rest-woven}
use Rattle.sc_weave.proofs.laws.weaving_and_parting_undo_each_other.Goals as goal

pub returns-clause-whole : goal.returns-clause-whole
returns-clause-whole c = woven-parts

pub returns-clause-inside : goal.returns-clause-inside
returns-clause-inside c = part-woven

pub returns-clause-rest : goal.returns-clause-rest
returns-clause-rest c = rest-woven
