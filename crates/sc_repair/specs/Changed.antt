-- What an amendment makes of a standing: a newcomer enters beside everybody, or papers change inside a region.
use Rattle.std.specs.Prelude.{◌≡◌, ℕ, Bool, List, Option, None, Some, take}
use Rattle.std.specs.Prelude.{false}
use Rattle.sc_papers.specs.Assignment.{assigned}
use Rattle.sc_papers.specs.Market.{Market, students_of}
use Rattle.sc_papers.specs.declared.amendment.Amendment.{Amendment}
use Rattle.sc_papers.specs.declared.amendment.Amendment.TheVariants.{Enter}
use Rattle.sc_checkpoint.specs.Chains.{logs_in, students_in, Chain}
use Rattle.sc_papers.specs.TakingBack.{is_withdrawal}
use Rattle.sc_papers.specs.Verdict.{verdict}
use Rattle.sc_repair.specs.Standing.{CountsInside, IsCertified, Standing}

-- the student who enters, if the amendment enters one
abbrev pub newcomer : Amendment → Option ℕ
newcomer (Enter i zone siblings choices continuing) = Some i
newcomer _ = None

-- Papers that changed in place, of which a region was settled anew.

-- an amendment that is not refused, by which nobody enters or withdraws
pub record ChangesInPlace (m : Market) (a : Amendment) : Type 0 where
  pub allowed : verdict m a ≡ None
  pub no_entry : newcomer a ≡ None
  pub no_withdrawal : is_withdrawal a ≡ false

-- the standing of papers that were settled anew
abbrev pub standing_of : Market → List (ℕ × ℕ) → List Chain → ℕ → Standing
standing_of m places chains proposals = record { papers = m; places = places; segments = logs_in chains; proposals = proposals }

-- such papers were settled anew with so many proposals: the places and the chains are now their standing, while whoever does not pass has the
-- place, and each of those before the point the chain, that they had
pub record IsResettled (n : Market) (test : ℕ → Bool) (point : ℕ) (places after : List (ℕ × ℕ)) (old chains : List Chain) (made : ℕ) : Type 0 where
  pub certified : IsCertified (standing_of n after chains made)
  pub theirs : students_in chains ≡ students_of n
  pub stays : take point (logs_in chains) ≡ take point (logs_in old)
  pub others : (i : ℕ) → test i ≡ false → assigned after i ≡ assigned places i
  pub proposals : CountsInside test point (standing_of n after chains made)
