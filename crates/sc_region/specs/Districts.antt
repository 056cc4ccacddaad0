-- Districts of schools, which no student's list leaves.
use Rattle.std.specs.Prelude.{◌≡◌, ◌<◌, ℕ, List, [], Option, None, Some, length, map, slice_index, slice_index_or, Contains, Vec}
use Rattle.std.specs.declared.alloc.Global.{Global}
use Rattle.sc_papers.specs.Market.{Market, choices_of, schools_of, students_of}
use Rattle.sc_papers.specs.Verdict.{verdict}
use Rattle.sc_papers.specs.declared.amendment.Amendment.{Amendment}
use Rattle.sc_papers.specs.declared.amendment.Amendment.TheVariants.{Enter, Withdraw, Rerank}
use Rattle.sc_region.specs.declared.first.First.{First}
use Rattle.sc_region.specs.Groups.{first_choice, group_of, new_choices, position_of, start_of, widened}

-- a number for each school's district, and for each school a list of students, both by the school's
-- position in the order of entry
pub record DistrictsView : Type 0 where
  pub groups : List ℕ
  pub firsts : List (List ℕ)

-- the students whom a list names
abbrev pub students_in : List First → List ℕ
students_in list = map (λ first. first.student) list

-- the lists of students that a list of them holds
abbrev pub lists_in : List (Vec First Global) → List (List ℕ)
lists_in lists = map (λ list. students_in list.items) lists

-- the students listed at a school's position
abbrev pub firsts_at : List (List ℕ) → ℕ → List ℕ
firsts_at firsts at = slice_index_or firsts at []

-- each student's choices lie in one district, and each student is listed at their first choice; whoever
-- else is listed there does no harm
pub record AreDistricts (m : Market) (d : DistrictsView) : Type 0 where
  pub one_each : length d.groups ≡ length (schools_of m)
  pub closed : (i s : ℕ) → Contains (choices_of m i) s → group_of m d.groups s ≡ group_of m d.groups (first_choice m i)
  pub firsts_each : length d.firsts ≡ length (schools_of m)
  pub listed : (i : ℕ) → Contains (students_of m) i → Contains (firsts_at d.firsts (position_of m (first_choice m i))) i

-- districts in which the new choices of an amendment that is not refused, if there are any, lie in one with the school to
-- begin with: to join them joins nothing more
pub record AreWidened (m : Market) (a : Amendment) (d : DistrictsView) : Type 0 where
  pub allowed : verdict m a ≡ None
  pub districts : AreDistricts m d
  pub joined : widened m a d.groups ≡ d.groups

-- such districts, to be searched for the region from the position of the school to begin with
pub record AreSearchedFrom (m : Market) (a : Amendment) (d : DistrictsView) (at : ℕ) : Type 0 where
  pub widened : AreWidened m a d
  pub start : at ≡ position_of m (start_of m a)
  pub within : at < length (schools_of m)

-- who is no longer listed at the first choice that they had
abbrev pub unlisted_by : Amendment → Option ℕ
unlisted_by (Withdraw i) = Some i
unlisted_by (Rerank i choices) = Some i
unlisted_by _ = None

-- who comes to be listed at the first of the new choices
abbrev pub listed_by : Amendment → Option ℕ
listed_by (Enter i zone siblings choices continuing) = Some i
listed_by (Rerank i choices) = Some i
listed_by _ = None

-- the first of the new choices
abbrev pub new_first : Amendment → ℕ
new_first a = slice_index (new_choices a) 0
