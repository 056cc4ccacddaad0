-- Rolls as contracts see them.
use Rattle.std.specs.Prelude.{◌≡◌, ℕ, ◌≤◌, true, List, [], ◌∷◌, length, All, if◌then◌else◌}
use Rattle.std.specs.Bool.{⊤}
use Rattle.sc_papers.specs.Key.{is_before}
use Rattle.sc_papers.specs.declared.key.Key.{Key}

-- each key is ahead of every later one
abbrev pub IsAscending : List Key → Type 0
IsAscending [] = ⊤
IsAscending (key ∷ keys) = All (λ later. is_before key later ≡ true) keys × IsAscending keys

-- what a contract sees of a roll: the keys held and the seats
pub record RollView : Type 0 where
  pub keys : List Key
  pub seats : ℕ

-- what is true of a roll: the keys ascend, and are no more than the seats
pub record IsRoll (roll : RollView) : Type 0 where
  pub ascending : IsAscending roll.keys
  pub within : length roll.keys ≤ roll.seats

-- no seat is free for a key, and every key held is ahead of it
pub record Refuses (keys : List Key) (seats : ℕ) (key : Key) : Type 0 where
  pub full : length keys ≡ seats
  pub behind : All (λ held. is_before held key ≡ true) keys

-- a key put at its place in an ascending list
abbrev pub put_in_order : Key → List Key → List Key
put_in_order key [] = key ∷ []
put_in_order key (first ∷ rest) = if is_before key first then key ∷ first ∷ rest else first ∷ put_in_order key rest

-- the keys in order
abbrev pub in_order : List Key → List Key
in_order [] = []
in_order (key ∷ keys) = put_in_order key (in_order keys)
