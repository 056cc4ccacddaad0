-- A round before anybody has entered.
use Rattle.std.proofs.Common.{◌≡◌, inl, inr, refl, ap, sym, subst, ◌∙◌, ℕ, ◌≤◌, nat_eq, false, ◌&&◌, List, [], length, get_or, Option, Some, None, is_some, position, arith}
use Rattle.std.specs.Option.{option_map_or}
use Rattle.std.proofs.lemmas.Bool.{cases_Bool, and_right, false≢true, true≢false}
use Rattle.std.proofs.lemmas.Map.Made.{is_some-lookup}
use Rattle.std.proofs.lemmas.Option.{slice_get-get_or}
use Rattle.sc_papers.specs.Market.{Market, students_of, schools_of, seats_of, school_of, is_school}
use Rattle.sc_papers.specs.Matching.{has}
use Rattle.sc_papers.specs.Log.{next_choice, matching_of, IsSettled}
use Rattle.sc_papers.specs.WellFormed.{WellFormed, WithinLimits}
use Rattle.sc_papers.specs.declared.records.School.{School}
use Rattle.sc_papers.proofs.Restriction.{restricted-restricts, next-dropped}
use Rattle.sc_papers.proofs.Students.{how_many-none}
use Rattle.sc_seats.specs.Roll.{RollView}
use Rattle.sc_engine.proofs.RollCounts.{fits-counted}
use Rattle.sc_engine.specs.RoundView.{RoundView, rank_of, next_of, has_entered, roll_of, roll_at, no_roll, RollFits, Fits, nobody, Continues, AreEmpty, entered_papers, StandNowhere}
use Rattle.sc_engine.proofs.Tables.{next-none, roll-at, length-mapped}
use Rattle.sc_papers.proofs.Positions.{any-among, position-among, position-at, school-position}
use Rattle.sc_engine.proofs.Proposals.{has-none}

-- a round before anybody has entered
pub record IsStart (m : Market) (r : RoundView) : Type 0 where
  pub well_formed : WellFormed m
  pub within_limits : WithinLimits m
  pub within : length r.ranks ≤ length m.students
  pub nobody : StandNowhere r.ranks
  pub rolls : length r.rolls ≡ length m.schools
  pub empty : AreEmpty m r.rolls (length m.schools)
  pub log : r.log ≡ []
  pub proposals : r.proposals ≡ 0

-- nobody has a rank
pub no-rank : (m : Market) (ranks : List (Option ℕ)) → StandNowhere ranks → (i : ℕ) → rank_of m ranks i ≡ None
unfolding rank_of
no-rank m ranks nobody i = go (position (nat_eq i) (students_of m))
  where
    go : (o : Option ℕ) → option_map_or (λ at. get_or ranks at None) o None ≡ None
    go None = refl
    go (Some at) = nobody at

-- an unknown school has no seats
pub no-seats : (m : Market) (s : ℕ) → is_school m s ≡ false → seats_of m s ≡ 0
unfolding seats_of
no-seats m s unknown = go (school_of m s) unknown
  where
    go : (found : Option School) → is_some found ≡ false → option_map_or (λ (school : School). school.seats) found 0 ≡ 0
    go None e = refl
    go (Some school) e = absurd (true≢false e)

pub roll-unknown : (m : Market) (rolls : List RollView) (s : ℕ) → is_school m s ≡ false → roll_of m rolls s ≡ no_roll
unfolding roll_of
roll-unknown m rolls s unknown = go (position (nat_eq s) (schools_of m)) refl
  where
    go : (o : Option ℕ) → position (nat_eq s) (schools_of m) ≡ o → option_map_or (roll_at rolls) o no_roll ≡ no_roll
    go None is = refl
    go (Some at) is = absurd (false≢true (sym unknown ∙ is_some-lookup (nat_eq s) m.schools ∙ any-among (schools_of m) s (position-among (schools_of m) s at is)))

-- nobody is on the roll of a school, which has its seats
roll-empty : (m : Market) (rolls : List RollView) → AreEmpty m rolls (length m.schools) → (s : ℕ) → roll_of m rolls s ≡ record { keys = []; seats = seats_of m s }
roll-empty m rolls empty s = elim (cases_Bool (is_school m s)) [
  | inl known ↦
      let (at, found) = school-position m s known in
      let here = position-at (schools_of m) s at found in
      roll-at m rolls s at found
      ∙ empty at s (omega (arith, here.0, length-mapped (λ (e : ℕ × School). e.0) m.schools)) (slice_get-get_or (schools_of m) at s here.0 ∙ ap Some here.1)
  | inr unknown ↦ roll-unknown m rolls s unknown ∙ ap (λ n. let r : RollView = record { keys = []; seats = n } in r) (sym (no-seats m s unknown))
]

-- the round fits
pub fits_start : (m : Market) (r : RoundView) → IsStart m r → Fits m r
fits_start m r start = record {
  well_formed = start.well_formed;
  within_limits = start.within_limits;
  ranks = start.within;
  rolls = start.rolls;
  each = λ s. subst (RollFits m (next_of m r.ranks) s) (sym (roll-empty m r.rolls start.empty s)) (fits-counted m (next_of m r.ranks) s (record { keys = []; seats = seats_of m s }) (record {
    seats = refl;
    within = omega arith;
    keyed = λ k d low. absurd (omega (arith, low));
    exact = λ p. sym (how_many-none m (λ j. p j && has (next_of m r.ranks) s j) (λ j among. and_right (p j) (has (next_of m r.ranks) s j) (has-none (next_of m r.ranks) s j (nowhere j))));
  }));
  proposals = omega (arith, start.proposals);
}
  where
    nowhere : (j : ℕ) → next_of m r.ranks j ≡ None
    nowhere j = next-none m r.ranks j (no-rank m r.ranks start.nobody j)

-- and the empty log is settled for nobody
pub continues_start : (m : Market) (r : RoundView) → IsStart m r → Continues m [] r
continues_start m r start =
    let absent : (j : ℕ) → has_entered m r.ranks j ≡ false = λ j. ap is_some (no-rank m r.ranks start.nobody j) in
    let none : (j : ℕ) → next_choice (entered_papers m r.ranks) [] j ≡ None = λ j. next-dropped (restricted-restricts m (has_entered m r.ranks)) [] j (absent j) in
    let settled : IsSettled (entered_papers m r.ranks) [] = record {
      valid = tt;
      within_seats = λ s. omega (arith, how_many-none (entered_papers m r.ranks) (has (matching_of (entered_papers m r.ranks) []) s) (λ j among. has-none (matching_of (entered_papers m r.ranks) []) s j (none j)));
    } in
    record {
      settled = subst (IsSettled (entered_papers m r.ranks)) (sym start.log) settled;
      next = λ j. ap (λ log. next_choice (entered_papers m r.ranks) log j) start.log ∙ none j ∙ sym (next-none m r.ranks j (no-rank m r.ranks start.nobody j));
    }
