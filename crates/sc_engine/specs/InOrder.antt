-- The log of students who enter in order of entry.
use Rattle.std.specs.Prelude.{◌≡◌, List}
use Rattle.sc_papers.specs.{Market.{Market}, Restriction.{joined, IsSegmented}, declared.rejection.Rejection.{Rejection}}

-- a log in order of entry: the segments of the students in turn, so that for every k it begins with a log that is
-- settled for the papers cut at k
abbrev pub IsInOrder : Market → List Rejection → Type 0
IsInOrder m log = (segments : List (List Rejection)) × IsSegmented m segments × (joined segments ≡ log)
