-- A log in segments, one for each student in order of entry.
use Rattle.std.specs.Prelude.{ℕ, List, [], ◌∷◌, ◌++◌, map, slice_set}
use Rattle.sc_papers.specs.declared.rejection.Rejection.{Rejection}

-- a student, and the rejections of the chain with which the student entered
pub record Chain : Type 0 where
  pub student : ℕ
  pub rejections : List Rejection

-- whose chains they are
abbrev pub students_in : List Chain → List ℕ
students_in chains = map (λ chain. chain.student) chains

-- the segments of the log
abbrev pub logs_in : List Chain → List (List Rejection)
logs_in chains = map (λ chain. chain.rejections) chains

-- the chains, and one more student's at their end
abbrev pub with_chain : List Chain → ℕ → List Rejection → List Chain
with_chain chains i log = chains ++ record { student = i; rejections = log } ∷ []

-- the list, of which what stands at these positions has given way to the renewed, in turn
abbrev pub replaced : {X : Type 0} → List X → List ℕ → List X → List X
replaced xs [] renewed = xs
replaced xs (position ∷ positions) [] = xs
replaced xs (position ∷ positions) (x ∷ renewed) = replaced (slice_set xs position x) positions renewed
