-- The first place that passes in a list: what stands before it, and how a loop finds it.
use Rattle.std.proofs.Common.{◌≡◌, refl, ℕ, zero, suc, ◌+◌, ◌<◌, ◌≤◌, Bool, true, false, not, List, [], ◌∷◌, length, take, arith}
use Rattle.std.proofs.lemmas.Grind.{common_steps}
use Rattle.std.specs.Prelude.{get_or, position}
use Rattle.std.specs.List.{position_or_len}
use Rattle.std.specs.Map.{keys_of, remove_entry, set_value}
use Rattle.std.specs.Option.{unwrap_or}
use Rattle.std.proofs.lemmas.Bool.Decides.{nat_tests}
use Rattle.std.proofs.lemmas.List.{length-map}
use Rattle.std.proofs.lemmas.List.Sums.{fails_before_first, passes_at_first, prefix_len-le-length}

-- the first place is no later than the end
pub position-within : {X : Type 0} (test : ℕ → Bool) (es : List (ℕ × X)) → position_or_len test (keys_of es) ≤ length es
position-within test es = omega (arith, prefix_len-le-length (λ i. not (test i)) (keys_of es), length-map es (λ e. e.0))

-- a search answers the first place, where there is one
pub position_or_length : {X : Type 0} (test : ℕ → Bool) (es : List (ℕ × X)) → unwrap_or (position test (keys_of es)) (length es) ≡ position_or_len test (keys_of es)
position_or_length test es = grind (arith, nat_tests, position-within test es, length-map es (λ e. e.0))

-- a place that passes, with none before it that does, is the first
pub first-here : (test : ℕ → Bool) (xs : List ℕ) (k : ℕ) → k ≤ position_or_len test xs → test (get_or xs k 0) ≡ true → k ≡ position_or_len test xs
first-here test xs k low passes = grind (arith, low, passes, fails_before_first test xs k 0)

-- after a place that fails, with none before it that passes, comes the first
pub first-later : (test : ℕ → Bool) (xs : List ℕ) (k : ℕ) → k < length xs → k ≤ position_or_len test xs → test (get_or xs k 0) ≡ false → k + 1 ≤ position_or_len test xs
first-later test xs k within low fails = grind (arith, within, low, fails, passes_at_first test xs 0)

-- up to the first place a removal changes nothing
pub take-removed : {X : Type 0} (test : ℕ → Bool) (k : ℕ) (es : List (ℕ × X)) → k ≤ position_or_len test (keys_of es) → take k (remove_entry test es) ≡ take k es
take-removed test zero es low = refl
take-removed test (suc k) [] low = refl
take-removed test (suc k) (e ∷ es) low = grind (arith, common_steps, low, take-removed test k es)

-- nor does a new value
pub take-put : {X : Type 0} (test : ℕ → Bool) (k : ℕ) (es : List (ℕ × X)) (w : X) → k ≤ position_or_len test (keys_of es) → take k (set_value test es w) ≡ take k es
take-put test zero es w low = refl
take-put test (suc k) [] w low = refl
take-put test (suc k) (e ∷ es) w low = grind (arith, common_steps, low, take-put test k es w)
