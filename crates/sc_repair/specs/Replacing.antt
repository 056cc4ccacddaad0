-- Students who are given the schools at which they stand after an amendment.
use Rattle.std.specs.Prelude.{◌==◌, ◌&&◌, ℕ, not, List, [], ◌∷◌, Option, None, is_some, if◌then◌else◌}
use Rattle.sc_papers.specs.Matching.{Matching}
use Rattle.sc_ledgers.specs.Elsewhere.{is_aside}
use Rattle.sc_ledgers.specs.declared.elsewhere.Stance.{Stance}

-- where a student stands now by the first of the stances that is theirs, and nowhere if none is
abbrev pub new_of : List Stance → ℕ → Option ℕ
new_of [] j = None
new_of (x ∷ list) j = if x.student == j then x.new else new_of list j

-- those who have a stance and no school are given where they stand now
abbrev pub with_given : List Stance → Matching → Matching
with_given list a = λ j. if is_aside list j && not (is_some (a j)) then new_of list j else a j

-- those who have a stance and a school are given in its place where they stand now
abbrev pub with_replaced : List Stance → Matching → Matching
with_replaced list a = λ j. if is_aside list j && is_some (a j) then new_of list j else a j
