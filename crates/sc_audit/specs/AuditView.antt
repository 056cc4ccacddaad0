-- What the auditor keeps of students and schools.
use Rattle.std.specs.Prelude.{◌≡◌, ℕ, ◌<◌, ◌≤◌, nat_eq, ◌==◌, Bool, true, false, ◌&&◌, List, [], ◌∷◌, ◌++◌, length, map, Option, None, Some, All, count_by, position, slice_get, slice_index_or, if◌then◌else◌}
use Rattle.std.specs.List.{list_all}
use Rattle.std.specs.Option.{option_and_then, option_map_or}
use Rattle.sc_papers.specs.Key.{key_of, is_ahead, is_before}
use Rattle.sc_papers.specs.Log.{next_choice, IsValidEntry}
use Rattle.sc_papers.specs.Market.{Market, choices_of, schools_of, seats_of, students_of}
use Rattle.sc_papers.specs.Matching.{Matching, has, how_many}
use Rattle.sc_papers.specs.WellFormed.{WellFormed, WithinLimits}
use Rattle.sc_papers.specs.declared.key.Key.{Key}
use Rattle.sc_papers.specs.declared.rejection.Rejection.{Rejection}
use Rattle.sc_audit.specs.declared.waiting.Waiting.{Waiting}

-- the rank in their choices at which each student stands, if anywhere, and the keys kept at each school and its
-- seats, all by position
pub record AuditView : Type 0 where
  pub stands : List (Option ℕ)
  pub kept : List (List Key)
  pub seats : List ℕ

-- what a table has at the position of a number in a list, and d for one that isn't there
abbrev pub looked_up : {X : Type 0} → List ℕ → List X → X → ℕ → X
looked_up xs table d i = option_map_or (λ at. slice_index_or table at d) (position (nat_eq i) xs) d

-- the rank at which a student stands, if anywhere
unfoldable pub stand_of : Market → List (Option ℕ) → ℕ → Option ℕ
stand_of m stands i = looked_up (students_of m) stands None i

-- the school at which a student stands
abbrev pub next_of : Market → List (Option ℕ) → Matching
next_of m stands i = option_and_then (slice_get (choices_of m i)) (stand_of m stands i)

-- the keys kept at a school
unfoldable pub keys_at : Market → List (List Key) → ℕ → List Key
keys_at m kept s = looked_up (schools_of m) kept [] s

-- whether each key kept at a school is ahead of a student's: then one who stands there isn't kept
unfoldable pub is_past : Market → List (List Key) → ℕ → ℕ → Bool
is_past m kept i s = list_all (λ key. is_before key (key_of m i s)) (keys_at m kept s)

-- the choice of a rank at which a student isn't kept, if there is one of it
abbrev pub past_at : Market → List (List Key) → ℕ → ℕ → Option Waiting
past_at m kept i rank = option_and_then (λ s. if is_past m kept i s then Some (record { rank = rank; school = s }) else None) (slice_get (choices_of m i) rank)

-- where a student stands without being kept
unfoldable pub waiting_at : Market → AuditView → ℕ → Option Waiting
waiting_at m l i = option_and_then (past_at m l.kept i) (stand_of m l.stands i)

-- the rank at which a student waits, if they do at s
abbrev pub waiting_rank : Option Waiting → ℕ → Option ℕ
waiting_rank None s = None
waiting_rank (Some waiting) s = if waiting.school == s then Some waiting.rank else None

-- the keys are those of the students who pass, each once
pub record AreKeysOf (m : Market) (s : ℕ) (test : ℕ → Bool) (keys : List Key) : Type 0 where
  pub keyed : All (λ key. key ≡ key_of m key.student s) keys
  pub exact : (p : ℕ → Bool) → count_by (λ (key : Key). p key.student) keys ≡ how_many m (λ j. p j && test j)

-- whether a student stands at s and is kept there
abbrev pub keeps : Matching → (ℕ → Bool) → ℕ → ℕ → Bool
keeps next kept s j = has next s j && kept j

-- a school keeps the best of those who stand there: where one is not kept, as many are as it has seats,
-- and each of them is ahead
pub record KeepsBest (m : Market) (next : Matching) (kept : ℕ → Bool) (s : ℕ) (keys : List Key) : Type 0 where
  pub exact_keys : AreKeysOf m s (keeps next kept s) keys
  pub within : length keys ≤ seats_of m s
  pub full : (i : ℕ) → next i ≡ Some s → kept i ≡ false → seats_of m s ≤ length keys
  pub ahead : (i j : ℕ) → next i ≡ Some s → kept i ≡ false → next j ≡ Some s → kept j ≡ true → is_ahead m s j i ≡ true

-- at each school the state keeps the best of those who stand there
pub record KeepsBestAtEach (m : Market) (l : AuditView) : Type 0 where
  pub well_formed : WellFormed m
  pub within_limits : WithinLimits m
  pub stands : length l.stands ≡ length m.students
  pub schools : length l.kept ≡ length m.schools
  pub seats : l.seats ≡ map (seats_of m) (schools_of m)
  pub is_kept : ℕ → Bool
  pub each : (s : ℕ) → KeepsBest m (next_of m l.stands) is_kept s (keys_at m l.kept s)

-- the same, and a student stands in the papers at the position
pub record KeepsBestAndHas (m : Market) (l : AuditView) (at : ℕ) : Type 0 where
  pub keeps_best : KeepsBestAtEach m l
  pub within : at < length m.students

-- a student moves to the choice of a rank, and the others stay where they were
pub record MovesTo (m : Market) (old : AuditView) (i rank : ℕ) (new : AuditView) : Type 0 where
  pub keeps_best : KeepsBestAtEach m new
  pub own : next_of m new.stands i ≡ slice_get (choices_of m i) rank
  pub others : (j : ℕ) → (j ≡ i → ⊥) → next_of m new.stands j ≡ next_of m old.stands j

-- the state follows a log: each student stands at the next choice
pub record Follows (m : Market) (log : List Rejection) (l : AuditView) : Type 0 where
  pub keeps_best : KeepsBestAtEach m l
  pub next : (i : ℕ) → next_choice m log i ≡ next_of m l.stands i

-- what is found of one more entry: it is valid and the state follows it, or it is not
abbrev pub Finds : Market → List Rejection → Rejection → Bool → AuditView → Type 0
Finds m log entry true new = IsValidEntry m log entry × Follows m (log ++ entry ∷ []) new
Finds m log entry false new = IsValidEntry m log entry → ⊥
