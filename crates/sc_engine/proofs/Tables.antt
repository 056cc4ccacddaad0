-- Look-ups by position, and what one write changes.
use Rattle.std.proofs.Common.{◌≡◌, refl, ap, sym, ◌∙◌, ℕ, zero, suc, ◌<◌, nat_eq, true, List, [], ◌∷◌, length, get_or, map, Option, Some, None, Contains, is_some, position, slice_get, arith}
use Rattle.std.specs.Option.{option_map_or, option_and_then}
use Rattle.std.proofs.lemmas.Option.{none-some}
use Rattle.sc_papers.specs.Market.{Market, student_at, students_of, schools_of, choices_of}
use Rattle.sc_papers.proofs.Hands.{student-there}
use Rattle.sc_papers.proofs.Positions.{position-among, position-at, position-one}
use Rattle.sc_seats.specs.Roll.{RollView}
use Rattle.sc_engine.specs.RoundView.{rank_of, next_of, roll_of, roll_at, no_roll, has_entered}

pub length-mapped : {X Y : Type 0} (f : X → Y) (xs : List X) → length (map f xs) ≡ length xs
length-mapped f [] = refl
length-mapped f (x ∷ xs) = ap suc (length-mapped f xs)

-- what is looked up in two tables that are alike at a position, if there is one
alike-there : {X : Type 0} (f g : ℕ → X) (d : X) (o : Option ℕ) → ((k : ℕ) → o ≡ Some k → f k ≡ g k) → option_map_or f o d ≡ option_map_or g o d
alike-there f g d None alike = refl
alike-there f g d (Some k) alike = alike k refl

-- who stands in two tables at the same rank of their position has that rank in both
pub rank-alike : (m : Market) (ranks others : List (Option ℕ)) (i : ℕ) → ((at : ℕ) → position (nat_eq i) (students_of m) ≡ Some at → get_or ranks at None ≡ get_or others at None) → rank_of m ranks i ≡ rank_of m others i
unfolding rank_of
rank-alike m ranks others i alike = alike-there (λ k. get_or ranks k None) (λ k. get_or others k None) None (position (nat_eq i) (students_of m)) alike

-- the ranks of the others, where the other positions are as before
pub rank-apart : (m : Market) (old new : List (Option ℕ)) (i at : ℕ) → position (nat_eq i) (students_of m) ≡ Some at → ((k : ℕ) → (k ≡ at → ⊥) → get_or new k None ≡ get_or old k None) → (j : ℕ) → (j ≡ i → ⊥) → rank_of m new j ≡ rank_of m old j
rank-apart m old new i at found others j apart = rank-alike m new old j (λ k is. others k (λ same. apart (position-one (students_of m) i j at found (is ∙ ap Some same))))

-- a rank stands within the list
pub rank-low : (ranks : List (Option ℕ)) (at rank : ℕ) → get_or ranks at None ≡ Some rank → at < length ranks
rank-low [] at rank is = absurd (none-some rank is)
rank-low (p ∷ ps) zero rank is = omega arith
rank-low (p ∷ ps) (suc at) rank is = omega (arith, rank-low ps at rank is)

-- the rank of a student at a known position
pub rank-at : (m : Market) (ranks : List (Option ℕ)) (i at : ℕ) → position (nat_eq i) (students_of m) ≡ Some at → rank_of m ranks i ≡ get_or ranks at None
unfolding rank_of
rank-at m ranks i at found = ap (λ o. option_map_or (λ k. get_or ranks k None) o None) found

-- the position of one who has entered
pub record PositionOf (m : Market) (ranks : List (Option ℕ)) (i rank : ℕ) : Type 0 where
  pub at : ℕ
  pub found : position (nat_eq i) (students_of m) ≡ Some at
  pub low : at < length (students_of m)
  pub here : get_or ranks at None ≡ Some rank

pub position-of : (m : Market) (ranks : List (Option ℕ)) (i rank : ℕ) → rank_of m ranks i ≡ Some rank → PositionOf m ranks i rank
unfolding rank_of
position-of m ranks i rank is = go (position (nat_eq i) (students_of m)) refl is
  where
    go : (o : Option ℕ) → position (nat_eq i) (students_of m) ≡ o → option_map_or (λ k. get_or ranks k None) o None ≡ Some rank → PositionOf m ranks i rank
    go None at none = absurd (none-some rank none)
    go (Some k) at there = record { at = k; found = at; low = (position-at (students_of m) i k at).0; here = there }

-- who has entered is a student of the papers
pub entered-among : (m : Market) (ranks : List (Option ℕ)) (i rank : ℕ) → rank_of m ranks i ≡ Some rank → Contains (students_of m) i
entered-among m ranks i rank is = let place = position-of m ranks i rank is in position-among (students_of m) i place.at place.found

-- a student with a next choice stands at a rank of their choices
pub record StandsAt (m : Market) (ranks : List (Option ℕ)) (i s : ℕ) : Type 0 where
  pub rank : ℕ
  pub entered : rank_of m ranks i ≡ Some rank
  pub choice : slice_get (choices_of m i) rank ≡ Some s

pub stands-at : (m : Market) (ranks : List (Option ℕ)) (i s : ℕ) → next_of m ranks i ≡ Some s → StandsAt m ranks i s
unfolding next_of
stands-at m ranks i s next = go (rank_of m ranks i) refl next
  where
    go : (o : Option ℕ) → rank_of m ranks i ≡ o → option_and_then (λ rank. slice_get (choices_of m i) rank) o ≡ Some s → StandsAt m ranks i s
    go None is none = absurd (none-some s none)
    go (Some rank) is there = record { rank = rank; entered = is; choice = there }

pub next-entered : (m : Market) (ranks : List (Option ℕ)) (i s : ℕ) → next_of m ranks i ≡ Some s → has_entered m ranks i ≡ true
next-entered m ranks i s next = ap is_some (stands-at m ranks i s next).entered

pub next-among : (m : Market) (ranks : List (Option ℕ)) (i s : ℕ) → next_of m ranks i ≡ Some s → Contains (students_of m) i
next-among m ranks i s next = let at = stands-at m ranks i s next in entered-among m ranks i at.rank at.entered

-- a rank gives the next choice
pub next-by : (m : Market) (ranks : List (Option ℕ)) (i rank : ℕ) → rank_of m ranks i ≡ Some rank → next_of m ranks i ≡ slice_get (choices_of m i) rank
unfolding next_of
next-by m ranks i rank is = ap (option_and_then (λ k. slice_get (choices_of m i) k)) is

pub next-none : (m : Market) (ranks : List (Option ℕ)) (i : ℕ) → rank_of m ranks i ≡ None → next_of m ranks i ≡ None
unfolding next_of
next-none m ranks i is = ap (option_and_then (λ k. slice_get (choices_of m i) k)) is

-- none for one whose position has no rank
pub next_absent : (m : Market) (ranks : List (Option ℕ)) (i at : ℕ) → position (nat_eq i) (students_of m) ≡ Some at → get_or ranks at None ≡ None → next_of m ranks i ≡ None
next_absent m ranks i at found absent = next-none m ranks i (rank-at m ranks i at found ∙ absent)

-- that of the rank at their position
pub next_there : (m : Market) (ranks : List (Option ℕ)) (i at rank : ℕ) (choice : Option ℕ) → position (nat_eq i) (students_of m) ≡ Some at → Some rank ≡ get_or ranks at None → choice ≡ slice_get (choices_of m (student_at m at)) rank → choice ≡ next_of m ranks i
next_there m ranks i at rank choice found stood is =
    is ∙ ap (λ j. slice_get (choices_of m j) rank) (student-there m i at found) ∙ sym (next-by m ranks i rank (rank-at m ranks i at found ∙ sym stood))

-- nor for one who is not in the papers
pub next_nowhere : (m : Market) (ranks : List (Option ℕ)) (i : ℕ) → None ≡ position (nat_eq i) (students_of m) → next_of m ranks i ≡ None
unfolding rank_of
next_nowhere m ranks i none = next-none m ranks i (ap (λ o. option_map_or (λ at. get_or ranks at None) o None) (sym none))

-- equal ranks give equal next choices
pub next-kept : (m : Market) (old new : List (Option ℕ)) (i : ℕ) → rank_of m new i ≡ rank_of m old i → next_of m new i ≡ next_of m old i
unfolding next_of
next-kept m old new i same = ap (option_and_then (λ k. slice_get (choices_of m i) k)) same

-- the roll of a school at a known position
pub roll-at : (m : Market) (rolls : List RollView) (s at : ℕ) → position (nat_eq s) (schools_of m) ≡ Some at → roll_of m rolls s ≡ roll_at rolls at
unfolding roll_of
roll-at m rolls s at found = ap (λ o. option_map_or (roll_at rolls) o no_roll) found

-- the other schools keep theirs
pub roll-kept : (m : Market) (old new : List RollView) (s at : ℕ) → position (nat_eq s) (schools_of m) ≡ Some at → ((other : ℕ) → (other ≡ at → ⊥) → roll_at new other ≡ roll_at old other) → (t : ℕ) → (t ≡ s → ⊥) → roll_of m new t ≡ roll_of m old t
unfolding roll_of
roll-kept m old new s at found others t apart =
    alike-there (roll_at new) (roll_at old) no_roll (position (nat_eq t) (schools_of m)) (λ k is. others k (λ same. apart (position-one (schools_of m) s t at found (is ∙ ap Some same))))
