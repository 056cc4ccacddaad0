-- How the type `Settlement` keeps its standing. Contracts see the `Standing` alone.
use Rattle.std.specs.Prelude.{◌≡◌, Option, None, IfSome}
use Rattle.sc_papers.specs.Market.{Market, students_of}
use Rattle.sc_papers.specs.Verdict.{verdict}
use Rattle.sc_papers.specs.declared.amendment.Amendment.{Amendment}
use Rattle.sc_checkpoint.specs.Chains.{logs_in, students_in}
use Rattle.sc_region.specs.Districts.{AreDistricts, DistrictsView}
use Rattle.sc_repair.specs.Anew.{AreLedgersOf}
use Rattle.sc_repair.specs.Standing.{Standing, IsCertified}
use Rattle.sc_repair.specs.declared.settlement.Settlement.TheInside.{Inside}

-- the standing that the fields hold
abbrev pub standing_of : Inside → Standing
standing_of c = record { papers = c.papers; places = c.places; segments = logs_in c.segments; proposals = c.proposals }

-- an amendment that is not refused, and the districts that are kept of its papers, if some are
pub record MayFollow (m : Market) (a : Amendment) (kept : Option DistrictsView) : Type 0 where
  pub allowed : verdict m a ≡ None
  pub districts : IfSome kept (AreDistricts m)

-- what is true of the fields: the standing is certified, each segment is its student's; ledgers that are kept are those of the log, and
-- districts that are kept those of the papers
pub record IsSound (c : Inside) : Type 0 where
  pub certified : IsCertified (standing_of c)
  pub theirs : students_in c.segments ≡ students_of c.papers
  pub ledgers : IfSome c.ledgers (λ kept. AreLedgersOf c.papers (logs_in c.segments) kept)
  pub districts : IfSome c.districts (AreDistricts c.papers)
