-- Labels as a school's ledger has them.
use Rattle.std.specs.Prelude.{◌≡◌, ◌⊎◌, ℕ, ◌<◌, ◌≤◌, ◌+◌, ◌++◌, nat_le, nat_lt, false, true, length, get_or, List, [], ◌∷◌, All, Contains, if◌then◌else◌}
use Rattle.std.specs.Bool.{⊤}
use Rattle.std.specs.List.{count_by}
use Rattle.sc_papers.specs.Key.{is_before}
use Rattle.sc_papers.specs.declared.key.Key.{Key}
use Rattle.sc_ledgers.specs.declared.ledger.Answer.{Answer}
use Rattle.sc_ledgers.specs.declared.ledger.Answer.TheVariants.{PutsOut, Refused, Seated}
use Rattle.sc_ledgers.specs.declared.ledger.Label.{Label}
use Rattle.sc_ledgers.specs.declared.ledger.TheConstants.{NEVER}

-- the keys of those who asked up to a turn
abbrev pub known : ℕ → List Label → List Key
known turn [] = []
known turn (label ∷ labels) = if nat_le label.turn turn then label.key ∷ known turn labels else known turn labels

-- each label's key is ahead of that of every later one
abbrev pub IsByKey : List Label → Type 0
IsByKey [] = ⊤
IsByKey (label ∷ labels) = All (λ later. is_before label.key later.key ≡ true) labels × IsByKey labels

-- how many of these turns are up to one
abbrev pub up_to : ℕ → List ℕ → ℕ
up_to turn turns = count_by (λ t. nat_le t turn) turns

-- the labels of these keys, each with its turn, but for those that were struck
abbrev pub labels_with : List Key → List ℕ → List Label
labels_with [] turns = []
labels_with (key ∷ keys) [] = []
labels_with (key ∷ keys) (turn ∷ turns) = if nat_lt turn NEVER then record { key = key; turn = turn } ∷ labels_with keys turns else labels_with keys turns

-- each key is ahead of every later one
abbrev pub AreInOrder : List Key → Type 0
AreInOrder [] = ⊤
AreInOrder (key ∷ keys) = All (λ later. is_before key later ≡ true) keys × AreInOrder keys

-- keys in order, and a turn for each
pub record AreKept (keys : List Key) (turns : List ℕ) : Type 0 where
  pub order : AreInOrder keys
  pub one_each : length turns ≡ length keys

-- some of these labels were kept, and one of each key
pub record HasEachKey (labels kept : List Label) : Type 0 where
  pub only : (label : Label) → Contains kept label → Contains labels label
  pub each : (label : Label) → Contains labels label → (other : Label) × Contains kept other × (other.key ≡ label.key)

-- where a key that is among none of these would stand: behind those ahead of it, and before the others
pub record IsGapIn (keys : List Key) (key : Key) (at : ℕ) : Type 0 where
  pub within : at ≤ length keys
  pub ahead : (j : ℕ) (d : Key) → j < at → is_before (get_or keys j d) key ≡ true
  pub behind : (j : ℕ) (d : Key) → at ≤ j → j < length keys → is_before key (get_or keys j d) ≡ true

-- the key of the last of those whom a school of so many seats holds, of those who asked it up to a turn
pub record HoldsLast (turn : ℕ) (labels : List Label) (seats : ℕ) (last : Key) : Type 0 where
  pub front : List Key
  pub rest : List Key
  pub parts : known turn labels ≡ front ++ last ∷ rest
  pub filled : seats ≡ 1 + length front

-- what a school of so many seats answers to a key: nobody stands where there is no seat, whoever is not ahead of the last one is refused, and
-- whoever is ahead of the last one puts that student out
abbrev pub IsAnswer : ℕ → List Label → ℕ → Key → Answer → Type 0
IsAnswer turn labels seats key Seated = length (known turn labels) < seats
IsAnswer turn labels seats key (PutsOut last) = HoldsLast turn labels seats last × (is_before key last ≡ true)
IsAnswer turn labels seats key Refused = (seats ≡ 0) ⊎ ((last : Key) × HoldsLast turn labels seats last × (is_before key last ≡ false))
