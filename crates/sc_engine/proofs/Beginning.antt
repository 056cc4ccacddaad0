-- A student who enters begins a chain.
use Rattle.std.proofs.Common.{◌≡◌, inl, inr, refl, ap, sym, subst, ◌∙◌, ℕ, ◌<◌, ◌==◌, ◌≤◌, nat_eq, Bool, true, false, not, ◌||◌, List, [], ◌∷◌, ◌++◌, length, get_or, set, Option, Some, None, is_some, find, position, slice_get, arith, length-set, get_or-set_same, get_or-set_other}
use Rattle.std.proofs.lemmas.Bool.{cases_Bool, cases_eq, eq-eqb, ne_eqb, false≢true, and_left, or_left, or_right}
use Rattle.sc_papers.specs.Market.{Market, students_of, choices_of}
use Rattle.sc_papers.specs.Matching.{has}
use Rattle.sc_papers.specs.Log.{next_choice, is_rejected, IsSettled, IsValidLog}
use Rattle.sc_papers.specs.Chain.{and_one}
use Rattle.sc_papers.specs.Restriction.{restricted}
use Rattle.sc_papers.specs.declared.rejection.Rejection.{Rejection}
use Rattle.sc_papers.proofs.Entering.{is_some-false}
use Rattle.sc_papers.proofs.Hands.{position-low}
use Rattle.sc_papers.proofs.Rejections.{is_of, rejected-push, find-agree, has-agree}
use Rattle.sc_papers.proofs.Restriction.{restricted-restricts, next-kept, next-dropped}
use Rattle.sc_papers.proofs.Subsets.{next-passes, valid-grows}
use Rattle.sc_papers.proofs.Validity.{along}
use Rattle.sc_engine.specs.RoundView.{RoundView, rank_of, next_of, has_entered, FitsBut, Fits, IsAway, except, only, nobody, entered_papers, Continues, Midway, Moves, Enters, CountsProposals, Extends, RollFits, roll_of}
use Rattle.sc_engine.proofs.Tables.{rank-apart, rank-at, next-by, next-none}
use Rattle.sc_engine.proofs.Tables as tables
use Rattle.sc_engine.proofs.Rolls.{fits-again, roll-fits_still}
use Rattle.sc_engine.proofs.Proposals.{differ-only, except-alike, has-alike, has-none, only-away, or-same, standing-alike, standing-others}
use Rattle.sc_engine.proofs.Steps.{continues-midway}

-- the student goes to a rank of their choices, with nothing else changed
pub record Begun (m : Market) (r r' : RoundView) (i at rank : ℕ) : Type 0 where
  pub fits : Fits m r
  pub student : position (nat_eq i) (students_of m) ≡ Some at
  pub absent : has_entered m r.ranks i ≡ false
  pub own : get_or r'.ranks at None ≡ Some rank
  pub others : (k : ℕ) → (k ≡ at → ⊥) → get_or r'.ranks k None ≡ get_or r.ranks k None
  pub within : length r'.ranks ≤ length m.students
  pub rolls : r'.rolls ≡ r.rolls
  pub log : r'.log ≡ r.log
  pub proposals : r'.proposals ≡ r.proposals

module _ {m : Market} {r r' : RoundView} {i at rank : ℕ} (begun : Begun m r r' i at rank) where
  pub rank-begun : rank_of m r'.ranks i ≡ Some rank
  rank-begun = rank-at m r'.ranks i at begun.student ∙ begun.own

  pub rank-others : (j : ℕ) → (j ≡ i → ⊥) → rank_of m r'.ranks j ≡ rank_of m r.ranks j
  rank-others j apart = rank-apart m r.ranks r'.ranks i at begun.student begun.others j apart

  pub next-others : (j : ℕ) → (j ≡ i → ⊥) → next_of m r'.ranks j ≡ next_of m r.ranks j
  next-others j apart = tables.next-kept m r.ranks r'.ranks j (rank-others j apart)

  pub next_absent : next_of m r.ranks i ≡ None
  next_absent = next-none m r.ranks i (is_some-false (rank_of m r.ranks i) begun.absent)

-- one more has entered
pub entered-begun : {m : Market} {r r' : RoundView} {i at rank : ℕ} → Begun m r r' i at rank → (j : ℕ) → has_entered m r'.ranks j ≡ and_one (has_entered m r.ranks) i j
entered-begun {m} {r} {r'} {i} begun j = elim (cases_eq j i) [
  | inl same ↦ ap (has_entered m r'.ranks) same ∙ ap is_some (rank-begun begun) ∙ sym (or_right (has_entered m r.ranks j) (j == i) (eq-eqb j i same))
  | inr apart ↦ ap is_some (rank-others begun j apart) ∙ or-same (has_entered m r.ranks j) (j == i) (ne_eqb j i apart)
]

-- nothing is counted
pub counted-begun : {m : Market} {r r' : RoundView} {i at rank : ℕ} → Begun m r r' i at rank → CountsProposals m r nobody r' (only i)
counted-begun {m} {r} {r'} {i} begun =
    omega (
      arith,
      begun.proposals,
      ap (λ (l : List Rejection). length l) begun.log,
      standing-alike (differ-only i) m r.ranks (next_absent begun),
      standing-others m r.ranks r'.ranks (only i) i (eq-eqb i i refl) (next-others begun),
    )

stand-alike : {m : Market} {r r' : RoundView} {i at rank : ℕ} → Begun m r r' i at rank → (t j : ℕ) → has (next_of m r.ranks) t j ≡ has (except (only i) (next_of m r'.ranks)) t j
stand-alike {m} {r} {r'} {i} begun t j =
    sym (has-alike (differ-only i) (next_of m r.ranks) t (has-none (next_of m r.ranks) t i (next_absent begun)) j)
    ∙ sym (has-agree (except (only i) (next_of m r'.ranks)) (except (only i) (next_of m r.ranks)) t j (except-alike (only i) (next_of m r'.ranks) (next_of m r.ranks) i (eq-eqb i i refl) (next-others begun) j))

-- the rolls still fit, with the student away
pub fits-begun : {m : Market} {r r' : RoundView} {i at rank : ℕ} → Begun m r r' i at rank → FitsBut m r' (only i)
fits-begun {m} {r} {r'} {i} {at} {rank} begun =
    fits-again r' (except (only i) (next_of m r'.ranks)) begun.fits begun.within (ap length begun.rolls)
    (λ t. subst (λ rolls. RollFits m (except (only i) (next_of m r'.ranks)) t (roll_of m rolls t)) (sym begun.rolls)
    (roll-fits_still m (next_of m r.ranks) (except (only i) (next_of m r'.ranks)) t (roll_of m r.rolls t) (stand-alike begun t) (begun.fits.each t)))
    (omega (arith, counted-begun begun, begun.fits.proposals))

pub away-begun : {m : Market} {r r' : RoundView} {i at rank : ℕ} → Begun m r r' i at rank → IsAway m r' (only i) i
away-begun begun = only-away (fits-begun begun)

-- a log that is settled for those who have entered rejects nobody else
record RejectsNo (i : ℕ) (log : List Rejection) : Type 0 where
  none : (s : ℕ) → is_rejected log i s ≡ false

absent-unrejected : (m : Market) (entered : ℕ → Bool) (i : ℕ) (log : List Rejection) → entered i ≡ false → IsSettled (restricted m entered) log → (s : ℕ) → is_rejected log i s ≡ false
absent-unrejected m entered i log absent settled =
    (along (restricted m entered) (RejectsNo i)
    (λ before e valid none. record {
      none = λ s. rejected-push before e i s ∙ ap (λ b. b || is_of e i s) (none.none s) ∙ and_left (e.student == i) (e.school == s)
          (ne_eqb e.student i (λ same. false≢true (sym absent ∙ ap entered (sym same) ∙ next-passes (restricted-restricts m entered) before e.student e.school valid.next)));
    })
    [] log (record { none = λ s. refl }) settled.valid).none

find-all : (xs : List ℕ) → find (λ s. true) xs ≡ slice_get xs 0
find-all [] = refl
find-all (x ∷ xs) = refl

-- the next choice of one who is not rejected is the first
pub first-choice : (m : Market) (log : List Rejection) (i : ℕ) → ((s : ℕ) → is_rejected log i s ≡ false) → next_choice m log i ≡ slice_get (choices_of m i) 0
unfolding next_choice
first-choice m log i none = find-agree (λ s. not (is_rejected log i s)) (λ s. true) (λ s. ap not (none s)) (choices_of m i) ∙ find-all (choices_of m i)

-- the student is to propose after each earlier log that the round continued
pub midway-begun : {m : Market} {r r' : RoundView} {i at : ℕ} → Begun m r r' i at 0 → (earlier : List Rejection) → Continues m earlier r → Midway m earlier r'
midway-begun {m} {r} {r'} {i} begun earlier continues =
    let entered : ℕ → Bool = has_entered m r.ranks in
    let log : List Rejection = earlier ++ r.log in
    let n : Market = restricted m entered in
    let n' : Market = restricted m (and_one entered i) in
    let same_papers : entered_papers m r'.ranks ≡ n' = λ t. restricted m (λ j. entered-begun begun j t) in
    let same_log : earlier ++ r'.log ≡ log = ap (λ l. earlier ++ l) begun.log in
    let own : next_choice n' log i ≡ next_of m r'.ranks i =
    next-kept (restricted-restricts m (and_one entered i)) log i (or_right (entered i) (i == i) (eq-eqb i i refl))
    ∙ first-choice m log i (absent-unrejected m entered i log begun.absent continues.settled)
    ∙ sym (next-by m r'.ranks i 0 (rank-begun begun)) in
    let others : (j : ℕ) → (j ≡ i → ⊥) → next_choice n' log j ≡ next_of m r'.ranks j = λ j apart.
    let same : and_one entered i j ≡ entered j = sym (or-same (entered j) (j == i) (ne_eqb j i apart)) in
    (elim (cases_Bool (entered j)) [
      | inl here ↦ next-kept (restricted-restricts m (and_one entered i)) log j (same ∙ here) ∙ sym (next-kept (restricted-restricts m entered) log j here)
      | inr gone ↦ next-dropped (restricted-restricts m (and_one entered i)) log j (same ∙ gone) ∙ sym (next-dropped (restricted-restricts m entered) log j gone)
    ]) ∙ continues.next j ∙ sym (next-others begun j apart) in
    record {
      valid = subst (λ p. IsValidLog p (earlier ++ r'.log)) (sym same_papers) (subst (IsValidLog n') (sym same_log)
          (valid-grows (restricted-restricts m entered) (restricted-restricts m (and_one entered i)) (λ j here. or_left (entered j) (j == i) here) [] log continues.settled.valid));
      next = λ j. ap (λ p. next_choice p (earlier ++ r'.log) j) same_papers ∙ ap (λ l. next_choice n' l j) same_log ∙ elim (cases_eq j i) [
        | inl same ↦ ap (next_choice n' log) same ∙ own ∙ ap (next_of m r'.ranks) (sym same)
        | inr apart ↦ others j apart
      ];
    }

-- a whole chain
pub enters : {m : Market} {r r' r'' : RoundView} {i at : ℕ} → Begun m r r' i at 0 → Moves m r' (only i) r'' nobody → Enters m r r'' i
enters {m} {r} {r'} {r''} {i} begun ends = record {
  fits = ends.fits;
  entered = λ j. ends.entered j ∙ entered-begun begun j;
  continues = λ earlier continues. continues-midway m r'' ends.fits earlier (ends.midway earlier (midway-begun begun earlier continues));
  extends = subst (λ l. Extends l r''.log) begun.log ends.extends;
  counted = omega (arith, counted-begun begun, ends.counted);
}

-- the round with the student at a rank of their choices, after room is made for it
abbrev pub moved : RoundView → List (Option ℕ) → ℕ → ℕ → RoundView
moved r room at rank = record r { ranks = set room at (Some rank) }

pub begins : (m : Market) (r : RoundView) (room : List (Option ℕ)) (i at rank : ℕ) → Fits m r → position (nat_eq i) (students_of m) ≡ Some at → has_entered m r.ranks i ≡ false
    → at < length room → ((k : ℕ) → get_or room k None ≡ get_or r.ranks k None) → ((n : ℕ) → at < n → length r.ranks ≤ n → length room ≤ n) → Begun m r (moved r room at rank) i at rank
begins m r room i at rank fits found absent low same within = record {
  fits = fits;
  student = found;
  absent = absent;
  own = get_or-set_same room at (Some rank) None low;
  others = λ k other. get_or-set_other room at k (Some rank) None other ∙ same k;
  within = omega (arith, length-set room at (Some rank), within (length m.students) (position-low m i at found) fits.ranks);
  rolls = refl;
  log = refl;
  proposals = refl;
}
