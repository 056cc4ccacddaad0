-- Marked schools.
use Rattle.std.specs.Prelude.{All, IfSome, Option, None, Some, nat_eq, position, ◌≡◌, ◌⊎◌, ℕ, Bool, true, false, ◌<◌, List, Contains, get_or, length}
use Rattle.sc_papers.specs.Market.{Market, schools_of}
use Rattle.sc_ledgers.specs.declared.elsewhere.Stance.{Stance}

-- a flag for each position, and perhaps one school that is marked throughout
pub record Marking : Type 0 where
  pub always : Option ℕ
  pub flags : List Bool

-- the flagged positions are among these, which have flags, and so has the one that is marked throughout
pub record CoverFlags (always : Option ℕ) (places : List ℕ) (flags : List Bool) : Type 0 where
  pub flagged : (p : ℕ) → get_or flags p false ≡ true → Contains places p
  pub within : All (λ p. p < length flags) places
  pub one : IfSome always (λ p. p < length flags)

-- whether the school at a position is flagged
abbrev pub flag_at : List Bool → Option ℕ → Bool
flag_at flags None = false
flag_at flags (Some place) = get_or flags place false

-- whether a school is marked, by its number
abbrev pub marked_in : Market → List Bool → ℕ → Bool
marked_in m flags s = flag_at flags (position (nat_eq s) (schools_of m))

-- flags only at positions that pass
abbrev pub FlagsPass : (ℕ → Bool) → List Bool → Type 0
FlagsPass test flags = (p : ℕ) → get_or flags p false ≡ true → test p ≡ true

-- more schools are marked
pub record MarksMore (old new : Marking) : Type 0 where
  pub still : (p : ℕ) → get_or old.flags p false ≡ true → get_or new.flags p false ≡ true
  pub one_each : length new.flags ≡ length old.flags
  pub always : new.always ≡ old.always

-- a student stands at a school by one of the stances
abbrev pub IsNamed : List Stance → ℕ → Type 0
IsNamed list s = (x : Stance) × Contains list x × ((x.old ≡ Some s) ⊎ (x.new ≡ Some s))

-- the schools of the stances are marked, and the one that is marked throughout, and no others
pub record MarksFollow (m : Market) (list : List Stance) (old new : Marking) : Type 0 where
  pub named : (s : ℕ) → IsNamed list s → marked_in m new.flags s ≡ true
  pub one : IfSome old.always (λ p. get_or new.flags p false ≡ true)
  pub one_each : length new.flags ≡ length old.flags
  pub always : new.always ≡ old.always
  pub passes : (test : ℕ → Bool) → IfSome old.always (λ p. test p ≡ true) → ((s p : ℕ) → IsNamed list s → position (nat_eq s) (schools_of m) ≡ Some p → test p ≡ true) → FlagsPass test new.flags
