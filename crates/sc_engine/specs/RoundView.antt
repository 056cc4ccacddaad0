-- Where the students and the schools of a round stand, as contracts see it.
use Rattle.std.specs.Prelude.{◌≡◌, ℕ, ◌+◌, ◌-◌, ◌≤◌, ◌<◌, nat_eq, ◌==◌, ◌&&◌, not, Bool, true, false, List, [], ◌∷◌, ◌++◌, length, Option, None, Some, All, IfSome, IsSome, filter, map, sum_by, is_some, position, slice_get, slice_index_or, take, if◌then◌else◌}
use Rattle.std.specs.List.{list_any}
use Rattle.std.specs.List.Sorted.{IsPermutation}
use Rattle.std.specs.Option.{option_map_or, option_and_then, option_to_list}
use Rattle.sc_papers.specs.Key.{key_of, is_before}
use Rattle.sc_papers.specs.Log.{next_choice, IsSettled, IsValidLog}
use Rattle.sc_papers.specs.Chain.{and_one}
use Rattle.sc_papers.specs.Market.{Market, choices_of, schools_of, seats_of, student_at, students_of}
use Rattle.sc_papers.specs.Matching.{Matching, has}
use Rattle.sc_papers.specs.Progress.{placed}
use Rattle.sc_papers.specs.Restriction.{restricted}
use Rattle.sc_papers.specs.WellFormed.{WellFormed, WithinLimits}
use Rattle.sc_papers.specs.declared.key.Key.{Key}
use Rattle.sc_papers.specs.declared.rejection.Rejection.{Rejection}
use Rattle.sc_seats.specs.Roll.{RollView, Refuses}

-- what a round holds: for each student, by position, the rank in their choices at which they stand, or
-- none where they haven't entered, as nobody has who comes after the last of these; each school's roll, by
-- position; the log; the count of proposals
pub record RoundView : Type 0 where
  pub ranks : List (Option ℕ)
  pub rolls : List RollView
  pub log : List Rejection
  pub proposals : ℕ

-- the rank in their choices at which a student stands, if the student has entered
unfoldable pub rank_of : Market → List (Option ℕ) → ℕ → Option ℕ
rank_of m ranks i = option_map_or (λ at. slice_index_or ranks at None) (position (nat_eq i) (students_of m)) None

-- whether a student has entered
abbrev pub has_entered : Market → List (Option ℕ) → ℕ → Bool
has_entered m ranks i = is_some (rank_of m ranks i)

-- the choice at which a student stands: none after the last, and none for one who hasn't entered
unfoldable pub next_of : Market → List (Option ℕ) → ℕ → Option ℕ
next_of m ranks i = option_and_then (λ rank. slice_get (choices_of m i) rank) (rank_of m ranks i)

-- nobody has entered, so far as these ranks go
abbrev pub StandNowhere : List (Option ℕ) → Type 0
StandNowhere ranks = (at : ℕ) → slice_index_or ranks at None ≡ None

-- a roll without keys or seats
abbrev pub no_roll : RollView
no_roll = record { keys = []; seats = 0 }

-- the roll at a position
abbrev pub roll_at : List RollView → ℕ → RollView
roll_at rolls at = slice_index_or rolls at no_roll

-- a school's roll
unfoldable pub roll_of : Market → List RollView → ℕ → RollView
roll_of m rolls s = option_map_or (roll_at rolls) (position (nat_eq s) (schools_of m)) no_roll

-- the first k rolls have their schools' seats, and nobody is on them
abbrev pub AreEmpty : Market → List RollView → ℕ → Type 0
AreEmpty m rolls k = (at s : ℕ) → at < k → slice_get (schools_of m) at ≡ Some s → roll_at rolls at ≡ record { keys = []; seats = seats_of m s }

-- a roll fits a school by a matching: it has the school's seats, and holds exactly the keys of the students
-- who have the school
pub record RollFits (m : Market) (a : Matching) (s : ℕ) (roll : RollView) : Type 0 where
  pub seats : roll.seats ≡ seats_of m s
  pub within : length roll.keys ≤ roll.seats
  pub holds : IsPermutation roll.keys (map (λ j. key_of m j s) (filter (has a s) (students_of m)))

-- the round's rolls hold a matching of the papers, and it counts at most a proposal for each entry of the log
-- and for each student whom the matching places
pub record HoldsMatching (m : Market) (r : RoundView) (a : Matching) : Type 0 where
  pub well_formed : WellFormed m
  pub within_limits : WithinLimits m
  pub ranks : length r.ranks ≤ length m.students
  pub rolls : length r.rolls ≡ length m.schools
  pub each : (s : ℕ) → RollFits m a s (roll_of m r.rolls s)
  pub proposals : r.proposals ≤ length r.log + placed m a

-- the round fits the papers: everyone who has entered and stands at a choice is on its roll
abbrev pub Fits : Market → RoundView → Type 0
Fits m r = HoldsMatching m r (next_of m r.ranks)

-- a matching without the students who are away
abbrev pub except : (ℕ → Bool) → Matching → Matching
except away a i = if away i then None else a i

-- the round fits the papers, but for the students who are away: they are on no roll
abbrev pub FitsBut : Market → RoundView → (ℕ → Bool) → Type 0
FitsBut m r away = HoldsMatching m r (except away (next_of m r.ranks))

-- nobody is away
abbrev pub nobody : ℕ → Bool
nobody = λ j. false

-- one student is away: the one who proposes
abbrev pub only : ℕ → ℕ → Bool
only proposer = λ j. j == proposer

-- how many students stand at a choice, but for those who are away
abbrev pub standing_but : Market → List (Option ℕ) → (ℕ → Bool) → ℕ
standing_but m ranks away = placed m (except away (next_of m ranks))

-- the papers of those who have entered
abbrev pub entered_papers : Market → List (Option ℕ) → Market
entered_papers m ranks = restricted m (has_entered m ranks)

-- after an earlier log the round's log settles the papers of those who have entered, and the
-- students stand at their next choices
pub record Continues (m : Market) (earlier : List Rejection) (r : RoundView) : Type 0 where
  pub settled : IsSettled (entered_papers m r.ranks) (earlier ++ r.log)
  pub next : (i : ℕ) → next_choice (entered_papers m r.ranks) (earlier ++ r.log) i ≡ next_of m r.ranks i

-- the round with its log and its count of proposals forgotten: whoever stands somewhere stays there
abbrev pub without_log : RoundView → RoundView
without_log r = record r { log = []; proposals = 0 }

-- the same while some are yet to propose: after an earlier log the round's log is valid for the papers of those who have
-- entered, and the students stand at their next choices
pub record Midway (m : Market) (earlier : List Rejection) (r : RoundView) : Type 0 where
  pub valid : IsValidLog (entered_papers m r.ranks) (earlier ++ r.log)
  pub next : (i : ℕ) → next_choice (entered_papers m r.ranks) (earlier ++ r.log) i ≡ next_of m r.ranks i

-- the round fits the papers but for students who are away, and this one is
pub record IsAway (m : Market) (r : RoundView) (away : ℕ → Bool) (i : ℕ) : Type 0 where
  pub fits : FitsBut m r away
  pub gone : away i ≡ true

-- this student and perhaps others are away
abbrev pub IsSomeAway : Market → RoundView → ℕ → Type 0
IsSomeAway m r i = (away : ℕ → Bool) × IsAway m r away i

-- so is the student at a position of the order of entry
pub record IsAwayAt (m : Market) (r : RoundView) (at : ℕ) : Type 0 where
  pub within : at < length m.students
  pub away : IsSomeAway m r (student_at m at)

-- the school at which a student stands would refuse them at once
pub record IsPutOut (m : Market) (r : RoundView) (entry : Rejection) : Type 0 where
  pub stands : next_of m r.ranks entry.student ≡ Some entry.school
  pub refused : Refuses (roll_of m r.rolls entry.school).keys (roll_of m r.rolls entry.school).seats (key_of m entry.student entry.school)

-- whoever would be refused at once where they stand still would be, but for one student
abbrev pub OthersStay : Market → RoundView → RoundView → ℕ → Type 0
OthersStay m old new i = (entry : Rejection) → (entry.student ≡ i → ⊥) → IsPutOut m old entry → IsPutOut m new entry

-- what an offer to a roll does
pub record Offers (old new : RollView) (key : Key) (out : Option Key) : Type 0 where
  pub together : IsPermutation (key ∷ old.keys) (option_to_list out ++ new.keys)
  pub last : IfSome out (λ worst. All (λ held. is_before held worst ≡ true) new.keys)
  pub full : IsSome out → length old.keys ≡ old.seats
  pub seats : new.seats ≡ old.seats
  pub within : length new.keys ≤ new.seats

-- and one to the roll at a position: the others stay
pub record OffersAt (old new : List RollView) (at : ℕ) (key : Key) (out : Option Key) : Type 0 where
  pub own : Offers (roll_at old at) (roll_at new at) key out
  pub others : (other : ℕ) → (other ≡ at → ⊥) → roll_at new other ≡ roll_at old other
  pub same_length : length new ≡ length old

-- how many choices a student at a rank has left, from that rank on
abbrev pub left_at : List ℕ → Option ℕ → ℕ
left_at choices None = 0
left_at choices (Some rank) = length choices - rank

-- how many choices the students who have entered have left, from those at which they stand on
unfoldable pub choices_left : Market → List (Option ℕ) → ℕ
choices_left m ranks = sum_by (λ i. left_at (choices_of m i) (rank_of m ranks i)) (students_of m)

-- the same students have entered
abbrev pub SameEntered : Market → RoundView → RoundView → Type 0
SameEntered m old new = (i : ℕ) → has_entered m new.ranks i ≡ has_entered m old.ranks i

-- the log is the earlier one, and more
abbrev pub Extends : List Rejection → List Rejection → Type 0
Extends old new = (more : List Rejection) × (new ≡ old ++ more)

-- the count of proposals grows by the entries added to the log and by what is added to the number of
-- students who stand at a choice
abbrev pub CountsProposals : Market → RoundView → (ℕ → Bool) → RoundView → (ℕ → Bool) → Type 0
CountsProposals m old away new away' =
    new.proposals + (length old.log + standing_but m old.ranks away) ≡ old.proposals + (length new.log + standing_but m new.ranks away')

-- what proposals do to a round in which some students are away before and others after
pub record Moves (m : Market) (old : RoundView) (away : ℕ → Bool) (new : RoundView) (away' : ℕ → Bool) : Type 0 where
  pub fits : FitsBut m new away'
  pub entered : SameEntered m old new
  pub midway : (earlier : List Rejection) → Midway m earlier old → Midway m earlier new
  pub extends : Extends old.log new.log
  pub counted : CountsProposals m old away new away'
  pub left : choices_left m new.ranks ≤ choices_left m old.ranks

-- the students who are away, without one
abbrev pub without : (ℕ → Bool) → ℕ → ℕ → Bool
without away i = λ j. away j && not (j == i)

-- a student who is away moves on past choices and still is away, and whoever else has been put out stays so
pub record Passes (m : Market) (old : RoundView) (away : ℕ → Bool) (new : RoundView) (i : ℕ) : Type 0 where
  pub moves : Moves m old away new away
  pub others : OthersStay m old new i

-- who is away after a proposal: the student who proposes no longer, and whoever is put out
abbrev pub away_after : (ℕ → Bool) → ℕ → Option Rejection → ℕ → Bool
away_after away proposer None = without away proposer
away_after away proposer (Some out) = and_one (without away proposer) out.student

-- what one proposal does
pub record Proposes (m : Market) (old : RoundView) (away : ℕ → Bool) (new : RoundView) (proposer : ℕ) (out : Option Rejection) : Type 0 where
  pub moves : Moves m old away new (away_after away proposer out)
  pub put_out : IfSome out (λ entry. IsPutOut m new entry × (without away proposer entry.student ≡ false))
  pub others : OthersStay m old new proposer

-- the round fits the papers, and the student at a position of the order of entry is yet to enter
pub record IsYetToEnter (m : Market) (r : RoundView) (at : ℕ) : Type 0 where
  pub fits : Fits m r
  pub within : at < length m.students
  pub absent : has_entered m r.ranks (student_at m at) ≡ false

-- one more student has entered by a whole chain: after each earlier log that the round continued, it
-- still does
pub record Enters (m : Market) (old new : RoundView) (i : ℕ) : Type 0 where
  pub fits : Fits m new
  pub entered : (j : ℕ) → has_entered m new.ranks j ≡ and_one (has_entered m old.ranks) i j
  pub continues : (earlier : List Rejection) → Continues m earlier old → Continues m earlier new
  pub extends : Extends old.log new.log
  pub counted : CountsProposals m old nobody new nobody

-- these students, and they alone, have entered, and after some earlier log the round's log is settled for them
pub record HaveEntered (m : Market) (r : RoundView) (students : List ℕ) : Type 0 where
  pub fits : Fits m r
  pub entered : (i : ℕ) → has_entered m r.ranks i ≡ list_any (nat_eq i) students
  pub earlier : List Rejection
  pub continues : Continues m earlier r

-- these students, and they alone, have entered; the log is settled for them, and every proposal ended in
-- an entry of the log or in a place
pub record SettlesThese (m : Market) (r : RoundView) (students : List ℕ) : Type 0 where
  pub fits : Fits m r
  pub entered : (i : ℕ) → has_entered m r.ranks i ≡ list_any (nat_eq i) students
  pub settled : Continues m [] r
  pub counted : r.proposals ≡ length r.log + standing_but m r.ranks nobody

-- the first k students, in order of entry, have entered
abbrev pub SettlesFirst : Market → RoundView → ℕ → Type 0
SettlesFirst m r k = SettlesThese m r (take k (students_of m))

-- one more student has entered and stands at this choice, which is no proposal
pub record StandsToo (m : Market) (old new : RoundView) (i : ℕ) (choice : Option ℕ) : Type 0 where
  pub fits : Fits m new
  pub entered : (j : ℕ) → has_entered m new.ranks j ≡ and_one (has_entered m old.ranks) i j
  pub own : next_of m new.ranks i ≡ choice
  pub others : (j : ℕ) → (j ≡ i → ⊥) → next_of m new.ranks j ≡ next_of m old.ranks j
  pub log : new.log ≡ old.log
  pub proposals : new.proposals ≡ old.proposals
