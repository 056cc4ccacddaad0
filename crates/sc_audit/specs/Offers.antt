-- Offers of a school's seats.
use Rattle.std.specs.Prelude.{◌≡◌, ℕ, ◌≤◌, false, List, ◌∷◌, ◌++◌, length, Option, All, IfSome, IsSome}
use Rattle.std.specs.List.Sorted.{IsPermutation}
use Rattle.std.specs.Option.{option_to_list}
use Rattle.sc_papers.specs.Key.{is_before}
use Rattle.sc_papers.specs.declared.key.Key.{Key}

-- an offer of one of the seats to a key: it joins the others, and where they are then more than the
-- seats, the last of them is out
pub record Offers (old : List Key) (seats : ℕ) (key : Key) (new : List Key) (out : Option Key) : Type 0 where
  pub together : IsPermutation (key ∷ old) (option_to_list out ++ new)
  pub last : IfSome out (λ worst. All (λ kept. is_before worst kept ≡ false) new)
  pub full : IsSome out → seats ≤ length new
  pub within : length new ≤ seats
