-- The steps of proposals: what they do to the round, and to any log that they continue.
use Rattle.std.proofs.Common.{◌≡◌, inl, inr, refl, ap, sym, subst, ◌∙◌, ℕ, ◌+◌, ◌-◌, ◌<◌, nat_eq, Bool, true, cond, not, ◌&&◌, List, [], ◌∷◌, ◌++◌, length, set, Option, Some, None, is_some, position, slice_get, append_assoc, append-nil, arith, length-set, get_or-set_same, get_or-set_other}
use Rattle.std.specs.Option.{option_map, option_to_list}
use Rattle.std.proofs.lemmas.Bool.{cases_eq, and_from, and_parts}
use Rattle.std.proofs.lemmas.Option.{slice_get_within}
use Rattle.std.proofs.lemmas.List.{length_push}
use Rattle.std.proofs.lemmas.List.Elements.{All-contains}
use Rattle.sc_papers.specs.Market.{Market, students_of, choices_of}
use Rattle.sc_papers.specs.Key.{is_ahead, is_before, key_of}
use Rattle.sc_papers.specs.Matching.{Matching, has}
use Rattle.sc_papers.specs.Log.{next_choice, matching_of, IsValidEntry, IsValidLog}
use Rattle.sc_papers.specs.Chain.{and_one}
use Rattle.sc_papers.specs.Restriction.{restricted}
use Rattle.sc_papers.specs.WellFormed.{WellFormed}
use Rattle.sc_papers.specs.declared.key.Key.{Key}
use Rattle.sc_papers.specs.declared.rejection.Rejection.{Rejection}
use Rattle.sc_papers.proofs.Rejections.{has-agree, has-some, has-true, next-same}
use Rattle.sc_papers.proofs.Restriction.{choices-restricted, seats-restricted, ahead-restricted, counts-restricted}
use Rattle.sc_papers.proofs.Standings.{next-moves}
use Rattle.sc_papers.proofs.Students.{how_many-le}
use Rattle.sc_papers.proofs.Subsets.{well-restricted}
use Rattle.sc_papers.proofs.Sums.{sum-bump}
use Rattle.sc_papers.proofs.Validity.{valid-push}
use Rattle.sc_seats.specs.Roll.{RollView, Refuses}
use Rattle.sc_engine.specs.RoundView.{RoundView, rank_of, next_of, has_entered, roll_of, RollFits, FitsBut, Fits, IsAway, IsPutOut, Moves, Passes, Proposes, except, without, CountsProposals, entered_papers, Midway, Continues, choices_left, left_at}
use Rattle.sc_engine.proofs.Offers.{others-offered}
use Rattle.sc_engine.proofs.Tables.{rank-apart, rank-at, next-by, next-kept, next-among, next-entered}
use Rattle.sc_engine.proofs.Rolls.{fits-again, roll-fits_still, roll-holds, roll-length}
use Rattle.sc_engine.proofs.Proposals.{Proposed, has-except, except-alike, standing-others, counted-ended, counted-offered, fits-ended, fits-offered, nobody-goes, one-goes, put-out}

-- the entry of a rejection
abbrev pub entry_of : ℕ → ℕ → Rejection
entry_of i s = record { student = i; school = s }

-- a refusal as the code notes it: the student moves on by one rank
pub record Refused (m : Market) (r r' : RoundView) (i s at rank : ℕ) : Type 0 where
  pub put : IsPutOut m r (entry_of i s)
  pub student : position (nat_eq i) (students_of m) ≡ Some at
  pub low : at < length r.ranks
  pub stood : rank_of m r.ranks i ≡ Some rank
  pub choice : slice_get (choices_of m i) rank ≡ Some s
  pub ranks : r'.ranks ≡ set r.ranks at (Some (rank + 1))
  pub rolls : r'.rolls ≡ r.rolls
  pub log : r'.log ≡ r.log ++ entry_of i s ∷ []
  pub proposals : r'.proposals ≡ r.proposals + 1

module _ {m : Market} {r r' : RoundView} {i s at rank : ℕ} (moved : Refused m r r' i s at rank) where
  pub rank-moved : rank_of m r'.ranks i ≡ Some (rank + 1)
  rank-moved = ap (λ ps. rank_of m ps i) moved.ranks ∙ rank-at m (set r.ranks at (Some (rank + 1))) i at moved.student ∙ get_or-set_same r.ranks at (Some (rank + 1)) None moved.low

  pub rank-stays : (j : ℕ) → (j ≡ i → ⊥) → rank_of m r'.ranks j ≡ rank_of m r.ranks j
  rank-stays j apart = ap (λ ps. rank_of m ps j) moved.ranks ∙ rank-apart m r.ranks (set r.ranks at (Some (rank + 1))) i at moved.student (λ k other. get_or-set_other r.ranks at k (Some (rank + 1)) None other) j apart

  pub next-stays : (j : ℕ) → (j ≡ i → ⊥) → next_of m r'.ranks j ≡ next_of m r.ranks j
  next-stays j apart = next-kept m r.ranks r'.ranks j (rank-stays j apart)

  pub entered-stays : (j : ℕ) → has_entered m r'.ranks j ≡ has_entered m r.ranks j
  entered-stays j = elim (cases_eq j i) [
    | inl same ↦ ap (has_entered m r'.ranks) same ∙ ap is_some rank-moved ∙ sym (ap is_some moved.stood) ∙ ap (has_entered m r.ranks) (sym same)
    | inr apart ↦ ap is_some (rank-stays j apart)
  ]

before-ahead : (m : Market) (s i j : ℕ) → is_before (key_of m i s) (key_of m j s) ≡ true → is_ahead m s i j ≡ true
unfolding is_ahead
before-ahead m s i j before = before

-- whom the roll of a school would refuse at once, at least as many others as it has seats are ahead of
refusal-valid : (m : Market) (earlier : List Rejection) (r : RoundView) (away : ℕ → Bool) (i s : ℕ) → IsAway m r away i → IsPutOut m r (entry_of i s) → Midway m earlier r → IsValidEntry (entered_papers m r.ranks) (earlier ++ r.log) (entry_of i s)
refusal-valid m earlier r away i s hand put midway = record {
  next = midway.next i ∙ put.stands;
  full = omega (
    arith,
    put.refused.full,
    fits.seats,
    roll-length m held s roll fits,
    seats-restricted m entered s,
    counts-restricted m entered (λ j. has (matching_of n log) s j && is_ahead n s j i),
    how_many-le m (has held s) (λ j. entered j && (has (matching_of n log) s j && is_ahead n s j i)) rival,
  );
}
  where
    entered : ℕ → Bool
    entered = has_entered m r.ranks

    n : Market
    n = entered_papers m r.ranks

    log : List Rejection
    log = earlier ++ r.log

    held : Matching
    held = except away (next_of m r.ranks)

    roll : RollView
    roll = roll_of m r.rolls s

    fits : RollFits m held s roll
    fits = hand.fits.each s

    -- whoever is on the roll is one of them
    rival : (j : ℕ) → has held s j ≡ true → (entered j && (has (matching_of n log) s j && is_ahead n s j i)) ≡ true
    rival j holds =
        let stands : next_of m r.ranks j ≡ Some s = has-true (next_of m r.ranks) s j (and_parts (has (next_of m r.ranks) s j) (not (away j)) (sym (has-except away (next_of m r.ranks) s j) ∙ holds)).0 in
        let on = roll-holds m held s roll j fits (next-among m r.ranks j s stands) (has-true held s j holds) in
        let before = All-contains (λ key. is_before key (key_of m i s) ≡ true) roll.keys (key_of m j s) put.refused.behind on in
        let here = next-entered m r.ranks j s stands in
        let ahead = ahead-restricted m entered s j i here (next-entered m r.ranks i s put.stands) ∙ before-ahead m s j i before in
        and_from (entered j) (has (matching_of n log) s j && is_ahead n s j i) here
        (and_from (has (matching_of n log) s j) (is_ahead n s j i) (has-some (matching_of n log) s j (midway.next j ∙ stands)) ahead)

module _ {m : Market} {r r' : RoundView} {i s at rank : ℕ} (refused : Refused m r r' i s at rank) (away : ℕ → Bool) (hand : IsAway m r away i) where
  counted-refused : CountsProposals m r away r' away
  counted-refused =
      omega (
        arith,
        refused.proposals,
        standing-others m r.ranks r'.ranks away i hand.gone (next-stays refused),
        ap (λ (l : List Rejection). length l) refused.log ∙ length_push r.log (entry_of i s),
      )

  fits-refused : FitsBut m r' away
  fits-refused =
      let next : Matching = next_of m r.ranks in
      let next' : Matching = next_of m r'.ranks in
      fits-again r' (except away next') hand.fits (omega (arith, ap (λ (l : List (Option ℕ)). length l) refused.ranks, length-set r.ranks at (Some (rank + 1)), hand.fits.ranks)) (ap length refused.rolls)
      (λ t. subst (λ rolls. RollFits m (except away next') t (roll_of m rolls t)) (sym refused.rolls)
      (roll-fits_still m (except away next) (except away next') t (roll_of m r.rolls t)
      (λ j. sym (has-agree (except away next') (except away next) t j (except-alike away next' next i hand.gone (next-stays refused) j))) (hand.fits.each t)))
      (omega (arith, counted-refused, hand.fits.proposals))

  midway-refused : (earlier : List Rejection) → Midway m earlier r → Midway m earlier r'
  midway-refused earlier midway =
      let n : Market = entered_papers m r.ranks in
      let log : List Rejection = earlier ++ r.log in
      let e : Rejection = entry_of i s in
      let valid : IsValidEntry n log e = refusal-valid m earlier r away i s hand refused.put midway in
      let same_papers : entered_papers m r'.ranks ≡ n = λ t. restricted m (λ j. entered-stays refused j t) in
      let same_log : earlier ++ r'.log ≡ log ++ e ∷ [] = ap (λ l. earlier ++ l) refused.log ∙ sym (append_assoc earlier r.log (e ∷ [])) in
      let chosen : choices_of n i ≡ choices_of m i = choices-restricted m (has_entered m r.ranks) i ∙ ap (λ b. cond b (choices_of m i) []) (ap is_some refused.stood) in
      let moves : next_choice n (log ++ e ∷ []) i ≡ next_of m r'.ranks i =
      next-moves n (well-restricted m (has_entered m r.ranks) hand.fits.well_formed) log e rank midway.valid valid (ap (λ xs. slice_get xs rank) chosen ∙ refused.choice)
      ∙ ap (λ xs. slice_get xs (rank + 1)) chosen ∙ sym (next-by m r'.ranks i (rank + 1) (rank-moved refused)) in
      record {
        valid = subst (λ p. IsValidLog p (earlier ++ r'.log)) (sym same_papers) (subst (IsValidLog n) (sym same_log) (valid-push n [] log e midway.valid valid));
        next = λ j. ap (λ p. next_choice p (earlier ++ r'.log) j) same_papers ∙ ap (λ l. next_choice n l j) same_log ∙ elim (cases_eq j i) [
          | inl own ↦ ap (next_choice n (log ++ e ∷ [])) own ∙ moves ∙ ap (next_of m r'.ranks) (sym own)
          | inr apart ↦ next-same n log e j (λ same. apart (sym same)) ∙ midway.next j ∙ sym (next-stays refused j apart)
        ];
      }

-- the student who is refused has one choice less left
pub left-refused : {m : Market} {r r' : RoundView} {i s at rank : ℕ} → WellFormed m → Refused m r r' i s at rank → choices_left m r.ranks ≡ 1 + choices_left m r'.ranks
unfolding choices_left
left-refused {m} {r} {r'} {i} {s} {at} {rank} well moved =
    sum-bump (λ j. left_at (choices_of m j) (rank_of m r'.ranks j)) (λ j. left_at (choices_of m j) (rank_of m r.ranks j)) (students_of m) i well.students_differ (next-among m r.ranks i s moved.put.stands)
    (ap (left_at (choices_of m i)) moved.stood ∙ one_less ∙ ap (λ o. 1 + left_at (choices_of m i) o) (sym (rank-moved moved)))
    (λ j apart. ap (left_at (choices_of m j)) (sym (rank-stays moved j (λ same. apart (sym same)))))
  where
    one_less : length (choices_of m i) - rank ≡ 1 + (length (choices_of m i) - (rank + 1))
    one_less = omega (arith, slice_get_within (choices_of m i) rank s moved.choice)

pub passes-refused : {m : Market} {r r' : RoundView} {i s at rank : ℕ} → Refused m r r' i s at rank → (away : ℕ → Bool) → IsAway m r away i → Passes m r away r' i
passes-refused {m} {r} {r'} {i} {s} refused away hand = record {
  moves = record {
    fits = fits-refused refused away hand;
    entered = entered-stays refused;
    midway = midway-refused refused away hand;
    extends = (entry_of i s ∷ [], refused.log);
    counted = counted-refused refused away hand;
    left = omega (arith, left-refused hand.fits.well_formed refused);
  };
  others = λ e apart put. record {
    stands = next-stays refused e.student apart ∙ put.stands;
    refused = subst (λ (rolls : List RollView). Refuses (roll_of m rolls e.school).keys (roll_of m rolls e.school).seats (key_of m e.student e.school)) (sym refused.rolls) put.refused;
  };
}

-- ranks and log stay
pub moves-same : (m : Market) (r r' : RoundView) (away after : ℕ → Bool) → r'.ranks ≡ r.ranks → r'.log ≡ r.log → FitsBut m r' after → CountsProposals m r away r' after → Moves m r away r' after
moves-same m r r' away after same_ranks same_log fits counted = record {
  fits = fits;
  entered = λ i. ap (λ ranks. is_some (rank_of m ranks i)) same_ranks;
  midway = λ earlier midway. record {
    valid = subst (λ ranks. IsValidLog (entered_papers m ranks) (earlier ++ r'.log)) (sym same_ranks) (subst (λ l. IsValidLog (entered_papers m r.ranks) (earlier ++ l)) (sym same_log) midway.valid);
    next = λ j. ap (λ ranks. next_choice (entered_papers m ranks) (earlier ++ r'.log) j) same_ranks ∙ ap (λ l. next_choice (entered_papers m r.ranks) (earlier ++ l) j) same_log ∙ midway.next j ∙ ap (λ ranks. next_of m ranks j) (sym same_ranks);
  };
  extends = ([], same_log ∙ sym (append-nil r.log));
  counted = counted;
  left = omega (arith, ap (choices_left m) same_ranks);
}

-- the student in hand proposes, and somebody is put out or nobody is
pub proposes-offered : {m : Market} {r : RoundView} {away : ℕ → Bool} {proposer s at : ℕ} (out : Option Key) (r' : RoundView) → Proposed m r away proposer s at r'.rolls out → r'.ranks ≡ r.ranks → r'.log ≡ r.log
    → r'.proposals + length (option_to_list out) ≡ r.proposals + 1 → Proposes m r away r' proposer (option_map (λ k. entry_of k.student s) out)
proposes-offered {m} {r} {away} {proposer} {s} {at} None r' done same_ranks same_log one_more =
    let back : ℕ → Bool = without away proposer in
    let goes = nobody-goes m (next_of m r.ranks) back s in
    record {
      moves = moves-same m r r' away back same_ranks same_log (fits-offered r' done same_ranks same_log one_more back goes) (counted-offered r' done same_ranks same_log one_more back goes);
      put_out = tt;
      others = others-offered m r r' at (key_of m proposer s) None done.offered same_ranks proposer;
    }
proposes-offered {m} {r} {away} {proposer} {s} {at} (Some out) r' done same_ranks same_log one_more =
    let after : ℕ → Bool = and_one (without away proposer) out.student in
    let put = put-out r' done same_ranks in
    let goes = one-goes done.hand.fits.well_formed put in
    record {
      moves = moves-same m r r' away after same_ranks same_log (fits-offered r' done same_ranks same_log one_more after goes) (counted-offered r' done same_ranks same_log one_more after goes);
      put_out = (put.refused, put.here);
      others = others-offered m r r' at (key_of m proposer s) (Some out) done.offered same_ranks proposer;
    }

-- the student in hand has no choice left
pub proposes-ended : (m : Market) (r : RoundView) (away : ℕ → Bool) (proposer : ℕ) → IsAway m r away proposer → next_of m r.ranks proposer ≡ None → Proposes m r away r proposer None
proposes-ended m r away proposer hand none = record {
  moves = moves-same m r r away (without away proposer) refl refl (fits-ended m r away proposer hand none) (counted-ended m r away proposer hand.gone none);
  put_out = tt;
  others = λ e apart put. put;
}

-- one after the other
pub moves-after : {m : Market} {old mid new : RoundView} {away between after : ℕ → Bool} → Moves m old away mid between → Moves m mid between new after → Moves m old away new after
moves-after {m} {old} {mid} {new} first second = record {
  fits = second.fits;
  entered = λ i. second.entered i ∙ first.entered i;
  midway = λ earlier midway. second.midway earlier (first.midway earlier midway);
  extends = (first.extends.0 ++ second.extends.0, second.extends.1 ∙ ap (λ l. l ++ second.extends.0) first.extends.1 ∙ append_assoc old.log first.extends.0 second.extends.0);
  counted = omega (arith, first.counted, second.counted);
  left = omega (arith, first.left, second.left);
}

pub passes-after : {m : Market} {old mid new : RoundView} {away : ℕ → Bool} {i : ℕ} → Passes m old away mid i → Passes m mid away new i → Passes m old away new i
passes-after first second = record { moves = moves-after first.moves second.moves; others = λ e apart put. second.others e apart (first.others e apart put) }

pub proposes-after : {m : Market} {old mid new : RoundView} {away : ℕ → Bool} {i : ℕ} {out : Option Rejection} → Passes m old away mid i → Proposes m mid away new i out → Proposes m old away new i out
proposes-after first second = record { moves = moves-after first.moves second.moves; put_out = second.put_out; others = λ e apart put. second.others e apart (first.others e apart put) }

-- where nobody is away any more, the log is settled
pub continues-midway : (m : Market) (r : RoundView) → Fits m r → (earlier : List Rejection) → Midway m earlier r → Continues m earlier r
continues-midway m r fits earlier midway =
    let n : Market = entered_papers m r.ranks in
    let entered : ℕ → Bool = has_entered m r.ranks in
    let next : Matching = next_of m r.ranks in
    let made : Matching = matching_of n (earlier ++ r.log) in
    record {
      settled = record {
        valid = midway.valid;
        within_seats = λ s. omega (
          arith,
          roll-length m next s (roll_of m r.rolls s) (fits.each s),
          (fits.each s).within,
          (fits.each s).seats,
          seats-restricted m entered s,
          counts-restricted m entered (has made s),
          how_many-le m (λ j. entered j && has made s j) (has next s) (λ j both. sym (has-agree made next s j (midway.next j)) ∙ (and_parts (entered j) (has made s j) both).1),
        );
      };
      next = midway.next;
    }
