use Rattle.sc_papers.proofs.Locality.{optimal-outside}
use Rattle.sc_papers.proofs.laws.nothing_changes_outside.Goals as goal

pub returns : goal.returns
returns c = λ m n test a b well_m well_n apart_m apart_n alike first second. optimal-outside m n test a b well_m well_n apart_m apart_n alike first second
