-- How a table keeps numbers in order of entry, and where each of them stands.
use Rattle.std.specs.Prelude.{◌≡◌, ℕ, ◌+◌, ◌-◌, ◌≤◌, ◌^◌, List, length, map, nat_eq, nat_lt, if◌then◌else◌}
use Rattle.std.specs.List.{IsDistinct, list_any, position_or_len}

-- the slots hold the numbers of an order of entry, no two alike, in any order, and each slot has the position of its number
pub record IsTable (order slots positions : List ℕ) : Type 0 where
  pub few : length order ≤ 2 ^ 32
  pub differ : IsDistinct nat_eq order
  pub same : (number : ℕ) → list_any (nat_eq number) slots ≡ list_any (nat_eq number) order
  pub stand : positions ≡ map (λ number. position_or_len (nat_eq number) order) slots

-- a position, where one is taken out before it and where one is put in before it
abbrev pub taken_out : ℕ → ℕ → ℕ
taken_out from at = if nat_lt from at then at - 1 else at

abbrev pub put_in : ℕ → ℕ → ℕ
put_in to at = if nat_lt at to then at else at + 1

-- where what stands at a position stands once what stands at `from` has moved to `to`
abbrev pub moved : ℕ → ℕ → ℕ → ℕ
moved from to at = if nat_eq at from then to else put_in to (taken_out from at)
