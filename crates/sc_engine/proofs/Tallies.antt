-- What a school's roll tells of its tally.
use Rattle.std.proofs.Common.{◌≡◌, refl, ap, sym, subst, ◌∙◌, ℕ, ◌+◌, ◌-◌, ◌<◌, false, List, [], ◌∷◌, ◌++◌, length, map, take, get_or, Option, Some, None, Contains, slice_get, arith}
use Rattle.std.proofs.lemmas.List.{map-append}
use Rattle.std.proofs.lemmas.List.Elements.{All-contains_itself, All-weaker}
use Rattle.std.proofs.lemmas.List.Sorted.{Contains-permutation, IsPermutation-sym}
use Rattle.std.proofs.lemmas.Map.Entries.{length-keys_of}
use Rattle.std.proofs.lemmas.Option.{slice_get-get_or}
use Rattle.sc_papers.specs.Key.{is_before}
use Rattle.sc_papers.specs.Market.{Market, schools_of, students_of}
use Rattle.sc_papers.specs.Matching.{Matching, how_many}
use Rattle.sc_papers.specs.WellFormed.{WellFormed}
use Rattle.sc_papers.specs.declared.key.Key.{Key}
use Rattle.sc_papers.proofs.Positions.{school-place_position}
use Rattle.sc_seats.specs.Roll.{RollView, IsAscending}
use Rattle.sc_seats.proofs.Ordering.{last-of}
use Rattle.sc_tallies.specs.LastKey.{keys_among, last_key}
use Rattle.sc_tallies.specs.Tally.{tally}
use Rattle.sc_tallies.specs.declared.tally.Tally.{Tally}
use Rattle.sc_tallies.proofs.LastKeys.{last-after, last-contained, last-found, last-same}
use Rattle.sc_engine.specs.RoundView.{RollFits, roll_of}
use Rattle.sc_engine.specs.Rolls.{roll_tally, rolls_of}
use Rattle.sc_engine.proofs.Offers.{roll_at-mapped, seen_by}
use Rattle.sc_engine.proofs.Rolls.{roll-length}
use Rattle.sc_engine.proofs.Settling.{take-next}
use Rattle.sc_engine.proofs.Tables.{roll-at}

-- keys that ascend have their last key at their end
end-last : (keys : List Key) → IsAscending keys → slice_get keys (length keys - 1) ≡ last_key keys
end-last keys up = go keys up (last_key keys) refl
  where
    go : (keys : List Key) → IsAscending keys → (o : Option Key) → last_key keys ≡ o → slice_get keys (length keys - 1) ≡ last_key keys
    go keys up (Some x) is =
        last-of keys x up (last-contained keys x is)
        (All-weaker (Contains keys) (λ y. is_before x y ≡ false) (last-after keys x is) keys (All-contains_itself keys))
        ∙ sym is
    go [] up None is = sym is
    go (key ∷ keys) up None is = absurd (last-found (key ∷ keys) (omega arith) is)

-- a roll that fits a school tells its tally
pub tally-by_roll : (m : Market) (a : Matching) (s : ℕ) (roll : RollView) → RollFits m a s roll → IsAscending roll.keys → tally m a (students_of m) s ≡ roll_tally roll.keys
unfolding tally how_many
tally-by_roll m a s roll fits up =
    let theirs : List Key = keys_among m a (students_of m) s in
    let held = sym (roll-length m a s roll fits) in
    let last : last_key theirs ≡ slice_get roll.keys (length roll.keys - 1) =
    last-same theirs roll.keys (λ key. Contains-permutation theirs roll.keys key (IsPermutation-sym roll.keys theirs fits.holds)) (λ key. Contains-permutation roll.keys theirs key fits.holds)
    ∙ sym (end-last roll.keys up) in
    λ t. let one : Tally = record { held = held t; last = last t } in one

-- one more school's tally
pub tallies-next : {R : Type 0} (keys : R → List Key) (seats : R → ℕ) (rolls : List R) (m : Market) (a : Matching) (k : ℕ) (roll : R) (before after : List Tally) (one : Tally)
    → WellFormed m → k < length m.schools → length rolls ≡ length m.schools → roll ≡ get_or rolls k roll → IsAscending (keys roll) → one ≡ roll_tally (keys roll)
    → ((s : ℕ) → RollFits m a s (roll_of m (rolls_of keys seats rolls) s))
    → before ≡ map (tally m a (students_of m)) (take k (schools_of m)) → after ≡ before ++ one ∷ []
    → after ≡ map (tally m a (students_of m)) (take (k + 1) (schools_of m))
tallies-next keys seats rolls m a k roll before after one well within all is up told fits so_far more =
    let schools : List ℕ = schools_of m in
    let s : ℕ = get_or schools k 0 in
    let here : slice_get schools k ≡ Some s = slice_get-get_or schools k 0 (omega (arith, within, length-keys_of m.schools)) in
    let at : roll_of m (rolls_of keys seats rolls) s ≡ seen_by keys seats roll =
    roll-at m (rolls_of keys seats rolls) s k (school-place_position m well k s here)
    ∙ roll_at-mapped (seen_by keys seats) rolls k roll (omega (arith, within, all)) is in
    let own : one ≡ tally m a (students_of m) s = told ∙ sym (tally-by_roll m a s (seen_by keys seats roll) (subst (RollFits m a s) at (fits s)) up) in
    more ∙ (λ t. so_far t ++ own t ∷ []) ∙ sym (map-append (tally m a (students_of m)) (take k schools) (s ∷ []))
    ∙ ap (map (tally m a (students_of m))) (sym (take-next schools k s here))
