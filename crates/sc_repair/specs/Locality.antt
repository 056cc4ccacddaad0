-- What an amendment changes: its region alone.
use Rattle.std.specs.Prelude.{◌↔◌, ℕ, nat_eq, Bool, List, IsTrue, filter}
use Rattle.std.specs.Prelude.{length, ◌&&◌, is_some, ◌-◌, false}
use Rattle.std.specs.Prelude.{slice_index_or}
use Rattle.std.specs.List.{list_any, range_with_len}
use Rattle.sc_papers.specs.Market.{Market}
use Rattle.sc_papers.specs.declared.amendment.Amendment.{Amendment}
use Rattle.sc_checkpoint.specs.Chains.{students_in, Chain}
use Rattle.sc_region.specs.Marks.{marked}
use Rattle.sc_region.specs.Region.{InRegion}
use Rattle.sc_papers.specs.Matching.{how_many, Matching}

-- a test passes exactly those who are in the region of an amendment
abbrev pub TellsRegion : Market → Amendment → (ℕ → Bool) → Type 0
TellsRegion m a test = (i : ℕ) → IsTrue (test i) ↔ InRegion m a i

-- whether a student is among these
abbrev pub is_among : List ℕ → ℕ → Bool
is_among students i = list_any (nat_eq i) students

-- the students of the chains who are marked
abbrev pub marked_in : List Bool → List Chain → List ℕ
marked_in marks chains = marked marks (students_in chains)

-- how many of the students who pass have a school
abbrev pub placed_of : Market → (ℕ → Bool) → Matching → ℕ
placed_of m test a = how_many m (λ i. test i && is_some (a i))

-- of so many positions from one on those that are marked, in order
abbrev pub marked_within : List Bool → ℕ → ℕ → List ℕ
marked_within marks from count = filter (λ position. slice_index_or marks position false) (range_with_len from count)

-- the marked positions before a point, and those from one on
abbrev pub marked_before : List Bool → ℕ → List ℕ
marked_before marks point = marked_within marks 0 point

abbrev pub marked_from : List Bool → ℕ → List ℕ
marked_from marks from = marked_within marks from (length marks - from)
