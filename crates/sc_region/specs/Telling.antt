-- What tells the region of an amendment: groups of schools, positions and marks of students.
use Rattle.std.specs.Prelude.{◌≡◌, ◌<◌, ◌↔◌, ℕ, Bool, List, Some, false, length, slice_get, slice_index, slice_index_or, Contains, IsTrue}
use Rattle.std.specs.List.Sorted.{IsStrictlyIncreasing}
use Rattle.sc_papers.specs.Market.{Market, students_of}
use Rattle.sc_papers.specs.declared.amendment.Amendment.{Amendment}
use Rattle.sc_region.specs.Groups.{joined_students, students_at}
use Rattle.sc_region.specs.Region.{InRegion}

-- the lists of some students, who stand at these positions, join schools with the one to begin with, each by its position
pub record HeldTogether (m : Market) (schools : List ℕ) (start : ℕ) : Type 0 where
  pub few : List ℕ
  pub within : (p : ℕ) → Contains few p → p < length (students_of m)
  pub together : (at : ℕ) → Contains schools at → slice_index (joined_students m (students_at m few)) at ≡ slice_index (joined_students m (students_at m few)) start

-- the positions of the region's students, rising
pub record AreOfRegion (m : Market) (a : Amendment) (positions : List ℕ) : Type 0 where
  pub rising : IsStrictlyIncreasing positions
  pub within : (p : ℕ) → Contains positions p → p < length m.students
  pub exact : (p i : ℕ) → slice_get (students_of m) p ≡ Some i → (Contains positions p ↔ InRegion m a i)

-- marks of the students of the papers, in order of entry: those of the region are marked
pub record MarkRegion (m : Market) (a : Amendment) (marks : List Bool) : Type 0 where
  pub one_each : length marks ≡ length m.students
  pub region : (position i : ℕ) → slice_get (students_of m) position ≡ Some i → (IsTrue (slice_index_or marks position false) ↔ InRegion m a i)
