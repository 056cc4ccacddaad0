-- Choices that go by where their schools stand in the order of entry.
use Rattle.std.specs.Prelude.{◌≡◌, ℕ, ◌≤◌, ◌<◌, ◌==◌, ◌&&◌, nat_eq, nat_lt, not, Bool, false, List, All, length, map, position, slice_index_or}
use Rattle.std.specs.List.{list_any}
use Rattle.std.specs.Option.{option_map_or}
use Rattle.sc_papers.specs.Market.{Market, schools_of}
use Rattle.sc_papers.specs.declared.limits.TheConstants.{LONGEST_LIST, MOST_SCHOOLS}

-- the schools that stand at these positions
abbrev pub schools_at : List ℕ → List ℕ → List ℕ
schools_at schools positions = map (λ p. slice_index_or schools p 0) positions

-- at each of these positions stands a school of the papers
abbrev pub AreOfSchools : Market → List ℕ → Type 0
AreOfSchools m positions = All (λ p. p < length m.schools) positions

-- a school may come behind those at these positions: it is in the papers, it is not one of them, and they are fewer than a
-- list may name
abbrev pub may_choose : Market → List ℕ → ℕ → Bool
may_choose m positions school =
    option_map_or (λ at. not (list_any (λ p. p == at) positions)) (position (nat_eq school) (schools_of m)) false
    && nat_lt (length positions) LONGEST_LIST

-- these are the turns in which positions were last chosen: in this one those of the choices, and none in a later one
pub record AreLastTurns (turns : List ℕ) (turn : ℕ) (chosen : List ℕ) : Type 0 where
  pub these : (p : ℕ) → p < MOST_SCHOOLS → (slice_index_or turns p 0 == turn) ≡ list_any (λ q. q == p) chosen
  pub none_later : (p : ℕ) → slice_index_or turns p 0 ≤ turn
