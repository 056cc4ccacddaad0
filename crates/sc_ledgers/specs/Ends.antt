-- Where each turn of a run ended.
use Rattle.std.specs.Prelude.{◌≡◌, ℕ, ◌≤◌, ◌<◌, nat_lt, false, All, List, [], Option, None, Some, get_or, length, nat_eq, position, if◌then◌else◌}
use Rattle.sc_papers.specs.Market.{Market, schools_of, student_at}
use Rattle.sc_papers.specs.declared.rejection.Rejection.{Rejection}
use Rattle.sc_ledgers.specs.Proposals.{end_of}
use Rattle.sc_ledgers.specs.Sweep.{is_amended}
use Rattle.sc_ledgers.specs.declared.ends.TheConstants.{NOWHERE}

-- the position that a kept number tells, if it tells one
abbrev pub place_told : ℕ → Option ℕ
place_told kept = if nat_lt kept NOWHERE then Some kept else None

-- the position of a school, if there is one
abbrev pub place_of : Market → Option ℕ → Option ℕ
place_of m None = None
place_of m (Some s) = position (nat_eq s) (schools_of m)

-- of the turns of these segments, the one at t ended where the list tells
abbrev pub EndsThere : Market → List (List Rejection) → List (Option ℕ) → ℕ → Type 0
EndsThere m segments ends t = get_or ends t None ≡ place_of m (end_of m (student_at m t) (get_or segments t []))

-- the list tells of each turn where it ended
pub record AreEnds (m : Market) (segments : List (List Rejection)) (ends : List (Option ℕ)) : Type 0 where
  pub one_each : length ends ≡ length segments
  pub there : (t : ℕ) → t < length segments → EndsThere m segments ends t

-- neither who entered in a turn nor anybody whom its segment names is amended
abbrev pub NamesNone : Option ℕ → ℕ → List Rejection → Type 0
NamesNone amended i segment = (is_amended amended i ≡ false) × All (λ e. is_amended amended e.student ≡ false) segment

-- the list tells it of each turn before k, and of each later one that names nobody who is amended
pub record AreEndsTo (m : Market) (amended : Option ℕ) (segments : List (List Rejection)) (k : ℕ) (ends : List (Option ℕ)) : Type 0 where
  pub one_each : length ends ≡ length segments
  pub there : (t : ℕ) → t < length segments → (k ≤ t → NamesNone amended (student_at m t) (get_or segments t [])) → EndsThere m segments ends t
