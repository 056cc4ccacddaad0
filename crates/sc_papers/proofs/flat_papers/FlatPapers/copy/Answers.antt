use Rattle.std.proofs.Common.{arith, ◌∙◌}
use Rattle.sc_papers.proofs.ChangingRepresentation.{holds-copied}
use Rattle.sc_papers.specs.Representation.{market_of}
use Rattle.sc_papers.proofs.Representation.{Holds}
use Rattle.sc_papers.proofs.flat_papers.FlatPapers.copy.Goals as goal

copied : (c : goal.After-new) → Holds (record { lottery = c.new.result; schools = c.in_ok-schools.schools; positions = c.in_ok-positions.positions; numbers = c.in_ok-numbers.numbers; rows = c.in_ok-rows.rows; siblings = c.in_ok-siblings.siblings })
    (market_of c.self.inside)
copied c =
    holds-copied c.self.inside _ c.self.invariant (c.new.ensures ∙ c.seed.ensures) c.in_ok-schools.ensures c.in_ok-positions.ensures c.in_ok-numbers.ensures c.in_ok-rows.ensures
    c.in_ok-siblings.ensures.entries (omega (arith, c.in_ok-siblings.ensures.room, c.len.ensures))

pub invariant_of-result : goal.invariant_of-result
invariant_of-result c = (copied c).0

pub returns : goal.returns
returns c = (copied c).1 ∙ c.self.view_is
