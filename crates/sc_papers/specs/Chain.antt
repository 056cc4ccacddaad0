-- Chains: a student proposes, whoever is put out proposes to the next choice, until a school has
-- room or the one in hand has no choice left (Gale and Shapley's procedure, one student at a time,
-- as D. McVitie and L. Wilson did it in 1971).
use Rattle.std.specs.Prelude.{◌≡◌, ◌⊎◌, ℕ, ◌≤◌, ◌<◌, ◌==◌, Bool, true, ◌&&◌, ◌||◌, not, List, [], ◌∷◌, ◌++◌, Some, None}
use Rattle.sc_papers.specs.Market.{Market, seats_of}
use Rattle.sc_papers.specs.Key.{is_ahead}
use Rattle.sc_papers.specs.Matching.{how_many, has}
use Rattle.sc_papers.specs.Log.{next_choice, matching_of, IsValidLog}
use Rattle.sc_papers.specs.declared.rejection.Rejection.{Rejection}

-- the students who entered, and one more
abbrev pub and_one : (ℕ → Bool) → ℕ → ℕ → Bool
and_one entered i = λ j. entered j || j == i

-- how many students other than the one in hand have s as their next choice
abbrev pub held_by_others : Market → List Rejection → ℕ → ℕ → ℕ
held_by_others m log hand s = how_many m (λ j. has (matching_of m log) s j && not (j == hand))

-- in the course of a chain: the log is valid, and every school is within its seats when the student
-- in hand isn't counted
pub record InChain (m : Market) (log : List Rejection) (hand : ℕ) : Type 0 where
  pub valid : IsValidLog m log
  pub others_within : (s : ℕ) → held_by_others m log hand s ≤ seats_of m s

-- the student in hand proposes to s, which is full, and puts out the last of those who are there then
pub record PutsOut (m : Market) (log : List Rejection) (hand s out : ℕ) : Type 0 where
  pub proposes : next_choice m log hand ≡ Some s
  pub full : seats_of m s ≤ held_by_others m log hand s
  pub there : next_choice m log out ≡ Some s
  pub last : (j : ℕ) → next_choice m log j ≡ Some s → (j ≡ out → ⊥) → is_ahead m s j out ≡ true

-- the student in hand has no choice left, or proposes to a school that has room
abbrev pub Ends : Market → List Rejection → ℕ → Type 0
Ends m log hand =
    (next_choice m log hand ≡ None) ⊎ ((s : ℕ) × (next_choice m log hand ≡ Some s) × (held_by_others m log hand s < seats_of m s))

-- a chain from the student in hand: each rejection puts a student out, who is in hand next, and
-- after the last one it ends
abbrev pub IsChain : Market → List Rejection → ℕ → List Rejection → Type 0
IsChain m log hand [] = Ends m log hand
IsChain m log hand (entry ∷ rest) = PutsOut m log hand entry.school entry.student × IsChain m (log ++ entry ∷ []) entry.student rest
