-- The segments of some of the students, and the segments of two parts woven into one list.
use Rattle.std.specs.Prelude.{ℕ, Bool, List, [], ◌∷◌, drop, slice_index_or, if◌then◌else◌}
use Rattle.sc_papers.specs.declared.rejection.Rejection.{Rejection}

-- the segments of those students who pass, in order
abbrev pub part_of : List ℕ → (ℕ → Bool) → List (List Rejection) → List (List Rejection)
part_of [] test segments = []
part_of (i ∷ students) test [] = []
part_of (i ∷ students) test (segment ∷ segments) =
    if test i then segment ∷ part_of students test segments else part_of students test segments

-- one segment for each student in order: the next of the inside for one who passes, and the next of
-- the rest for another
abbrev pub woven : List ℕ → (ℕ → Bool) → List (List Rejection) → List (List Rejection) → List (List Rejection)
woven [] test inside rest = []
woven (i ∷ students) test inside rest =
    if test i then slice_index_or inside 0 [] ∷ woven students test (drop 1 inside) rest
    else slice_index_or rest 0 [] ∷ woven students test inside (drop 1 rest)
