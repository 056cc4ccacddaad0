-- The region of an amendment: whom it may concern.
use Rattle.std.specs.Prelude.{◌≡◌, ◌⊎◌, ℕ, Option, None, Some, Contains}
use Rattle.sc_papers.specs.Market.{Market, choices_of}
use Rattle.sc_papers.specs.Verdict.{after}
use Rattle.sc_papers.specs.declared.amendment.Amendment.{Amendment}
use Rattle.sc_papers.specs.declared.amendment.Amendment.TheVariants.{Enter, Withdraw, Rerank, Add, Close, Correct}

-- the student who is amended, if it is a student
abbrev pub amended_student : Amendment → Option ℕ
amended_student (Enter i zone siblings choices continuing) = Some i
amended_student (Withdraw i) = Some i
amended_student (Rerank i choices) = Some i
amended_student (Correct i zone siblings continuing) = Some i
amended_student _ = None

-- the school that is amended, if it is a school
abbrev pub amended_school : Amendment → Option ℕ
amended_school (Add s count) = Some s
amended_school (Close s count) = Some s
amended_school _ = None

-- a student lists a school, by the choices in the papers before the amendment or in those after it
abbrev pub Lists : Market → Amendment → ℕ → ℕ → Type 0
Lists m a i s = Contains (choices_of m i) s ⊎ Contains (choices_of (after m a) i) s

-- the region of an amendment: the amended student, or each who lists the amended school, and then each
-- who lists a school that one of the region lists
pub data InRegion (m : Market) (a : Amendment) : ℕ → Type 0 where
  amended : (i : ℕ) → amended_student a ≡ Some i → InRegion m a i
  concerned : (i s : ℕ) → amended_school a ≡ Some s → Lists m a i s → InRegion m a i
  next : (i j s : ℕ) → InRegion m a j → Lists m a j s → Lists m a i s → InRegion m a i
