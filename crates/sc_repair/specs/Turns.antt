-- Students who stand in an order of their own, beside the order in which they entered.
use Rattle.std.specs.Prelude.{◌≡◌, ◌↔◌, ℕ, zero, suc, ◌-◌, ◌==◌, if◌then◌else◌, List, [], ◌∷◌, ◌++◌, length, map, take, swap, slice_get, filter_map, Option, None, Some}
use Rattle.std.specs.Option.{option_and_then, option_map, option_map_or}
use Rattle.sc_papers.specs.EntryOrder.{with_swapped_students}
use Rattle.sc_papers.specs.Market.{Market}
use Rattle.sc_papers.specs.WellFormed.{WellFormed}
use Rattle.sc_stamps.specs.Stamps.{IsInStep, Stamps, with_swapped_stamps}
use Rattle.sc_stamps.specs.Verdict.{StampedPapers}
use Rattle.sc_stamps.specs.declared.marking.Marking.{Marking}
use Rattle.sc_stamps.specs.declared.marking.Marking.TheVariants.{Newcomer, StudentLeaves}

-- of each turn, in which one student entered, the position where that student stands now, None for one who
-- withdrew; and of each position, the turn of its student
pub record TurnsOfEntry : Type 0 where
  pub positions : List (Option ℕ)
  pub turns : List ℕ

-- the student of a turn stands at a position exactly where the position has this turn
abbrev pub AreTurns : TurnsOfEntry → Type 0
AreTurns t = (turn p : ℕ) → slice_get t.positions turn ≡ Some (Some p) ↔ slice_get t.turns p ≡ Some turn

-- what stands at the positions, in order of turn
abbrev pub in_turn : {X : Type 0} → List (Option ℕ) → List X → List X
in_turn positions xs = filter_map (λ place. option_and_then (slice_get xs) place) positions

-- the papers, and their stamps, with the students in order of turn
abbrev pub papers_in_turn : List (Option ℕ) → Market → Market
papers_in_turn positions m = record m { students = in_turn positions m.students }

abbrev pub stamps_in_turn : List (Option ℕ) → Stamps → Stamps
stamps_in_turn positions stamps = record stamps { students = in_turn positions stamps.students }

abbrev pub stamped_in_turn : List (Option ℕ) → Market → Stamps → StampedPapers
stamped_in_turn positions m stamps = record { papers = papers_in_turn positions m; stamps = stamps_in_turn positions stamps }

-- the turns once one more has entered, who stands last
abbrev pub entered : TurnsOfEntry → TurnsOfEntry
entered t = record { positions = t.positions ++ Some (length t.turns) ∷ []; turns = t.turns ++ length t.positions ∷ [] }

-- the turns of so many who entered and stand in that order
abbrev pub first_turns : ℕ → TurnsOfEntry
first_turns zero = record { positions = []; turns = [] }
first_turns (suc count) = entered (first_turns count)

-- the other one of two positions; any other position stays
abbrev pub exchanged : ℕ → ℕ → ℕ → ℕ
exchanged a b p = if p == a then b else (if p == b then a else p)

-- the turns once those at two positions have changed places
abbrev pub swapped : ℕ → ℕ → TurnsOfEntry → TurnsOfEntry
swapped a b t = record { positions = map (option_map (exchanged a b)) t.positions; turns = swap t.turns a b }

-- a position, unless it is this one
abbrev pub unless_at : ℕ → ℕ → Option ℕ
unless_at gone p = if p == gone then None else Some p

-- the turns once the one who stands last has withdrawn
abbrev pub left : TurnsOfEntry → TurnsOfEntry
left t = record { positions = map (option_and_then (unless_at (length t.turns - 1))) t.positions; turns = take (length t.turns - 1) t.turns }

-- what becomes of the turns before an amendment is made: a newcomer has their turn already
abbrev pub begun_turns : Marking → TurnsOfEntry → TurnsOfEntry
begun_turns Newcomer t = entered t
begun_turns _ t = t

-- and once it is accepted: who stands last goes, where a student leaves
abbrev pub finished_turns : Marking → TurnsOfEntry → TurnsOfEntry
finished_turns (StudentLeaves place) t = left t
finished_turns _ t = t

-- the position of a student who leaves, if there is one
abbrev pub position_of_leaver : Marking → Option ℕ
position_of_leaver (StudentLeaves place) = place
position_of_leaver _ = None

-- each student of the papers has a stamp and a turn
pub record AreInTurn (t : TurnsOfEntry) (m : Market) (stamps : Stamps) : Type 0 where
  pub well_formed : WellFormed m
  pub in_step : IsInStep m stamps
  pub turns : AreTurns t
  pub count : length t.turns ≡ length m.students

-- the papers, the stamps and the turns once the student at a place, if there is one, has changed places with the last one
abbrev pub last_papers : Option ℕ → Market → Market
last_papers place m = option_map_or (λ p. with_swapped_students m p (length m.students - 1)) place m

abbrev pub last_stamps : Option ℕ → Stamps → Stamps
last_stamps place stamps = option_map_or (λ p. with_swapped_stamps stamps p (length stamps.students - 1)) place stamps

abbrev pub last_turns : Option ℕ → TurnsOfEntry → TurnsOfEntry
last_turns place t = option_map_or (λ p. swapped p (length t.turns - 1) t) place t
