-- The labels once a student has left the papers.
use Rattle.std.specs.Prelude.{◌≡◌, ℕ, ◌-◌, nat_lt, List, map, if◌then◌else◌}
use Rattle.sc_ledgers.specs.declared.ledger.Label.{Label}
use Rattle.sc_ledgers.specs.declared.ledger.TheConstants.{NEVER}

-- a turn once the student at a position has left: those behind theirs go down by one
abbrev pub turn_without : ℕ → ℕ → ℕ
turn_without position turn = if nat_lt position turn then turn - 1 else turn

-- a kept turn: one that was struck stays
abbrev pub kept_without : ℕ → ℕ → ℕ
kept_without position turn = if nat_lt turn NEVER then turn_without position turn else turn

-- a label of that turn has the same key
abbrev pub label_without : ℕ → Label → Label
label_without position label = record label { turn = turn_without position label.turn }

-- the labels of each school stay, in their order, but for their turns
abbrev pub AreWithout : ℕ → (ℕ → List Label) → (ℕ → List Label) → Type 0
AreWithout position labels left = (s : ℕ) → left s ≡ map (label_without position) (labels s)
