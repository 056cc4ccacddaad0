-- How many proposals the turns of some students made, by the segments of the log alone.
use Rattle.std.specs.Prelude.{ℕ, ◌+◌, ◌-◌, ◌==◌, ◌&&◌, Bool, true, List, [], Option, is_some, length, position, if◌then◌else◌}
use Rattle.std.specs.Prelude.{slice_get, slice_index_or, sum_by}
use Rattle.std.specs.Option.{option_and_then, option_map_or}
use Rattle.sc_papers.specs.Market.{Market, choices_of}
use Rattle.sc_papers.specs.Matching.{how_many, Matching}
use Rattle.sc_papers.specs.declared.rejection.Rejection.{Rejection}

-- the choice of a student after the school that rejected them, if there is one
unfoldable pub choice_after : Market → Rejection → Option ℕ
choice_after m e = option_and_then (λ rank. slice_get (choices_of m e.student) (rank + 1)) (position (λ s. s == e.school) (choices_of m e.student))

-- the choice at which the chain of a turn ended, in which student i entered and of which these rejections came
unfoldable pub end_of : Market → ℕ → List Rejection → Option ℕ
end_of m i segment = option_map_or (choice_after m) (slice_get segment (length segment - 1)) (slice_get (choices_of m i) 0)

-- whether the turn of which these rejections came ended in a place: none came, or the student of the last one has a choice left
unfoldable pub ends_placed : Market → List Rejection → Bool
ends_placed m segment = option_map_or (λ e. is_some (choice_after m e)) (slice_get segment (length segment - 1)) true

-- how many proposals that turn made: each came to a rejection, or to the place in which the turn ended
abbrev pub made_in : Market → List Rejection → ℕ
made_in m segment = length segment + (if ends_placed m segment then 1 else 0)

-- how many proposals the turns at these positions made
unfoldable pub made_at : Market → List (List Rejection) → List ℕ → ℕ
made_at m segments positions = sum_by (λ at. made_in m (slice_index_or segments at [])) positions

-- how many of the students who pass have a school
abbrev pub placed_of : Market → (ℕ → Bool) → Matching → ℕ
placed_of m test a = how_many m (λ i. test i && is_some (a i))
