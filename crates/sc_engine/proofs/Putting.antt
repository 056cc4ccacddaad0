-- One student who comes back to where they stood.
use Rattle.std.proofs.Common.{◌≡◌, refl, ap, subst, sym, ◌∙◌, ℕ, ◌+◌, ◌<◌, nat_eq, length, Some, None, Option, position, slice_get, is_some, arith}
use Rattle.sc_papers.specs.Market.{Market, choices_of, schools_of, seats_of, student_at}
use Rattle.sc_papers.specs.Matching.{Matching, held}
use Rattle.sc_papers.proofs.Hands.{student-there}
use Rattle.sc_engine.specs.RoundView.{RoundView, rank_of, next_of, Fits, FitsBut, only, roll_at, without, RollFits, StandsToo}
use Rattle.sc_engine.proofs.Tables.{roll-at, next-by}
use Rattle.sc_engine.proofs.Rolls.{fits-again, roll-length}
use Rattle.sc_engine.proofs.Proposals.{Proposed, back-only, fits-ended, fits-offered, nobody-goes}
use Rattle.sc_engine.proofs.Beginning.{Begun, away-begun, rank-begun, next-others, entered-begun}

-- the student stands at the choice of their rank
pub next-begun : {m : Market} {r r' : RoundView} {i at rank : ℕ} → Begun m r r' i at rank → (choice : Option ℕ) → slice_get (choices_of m (student_at m at)) rank ≡ choice → next_of m r'.ranks i ≡ choice
next-begun {m} {r} {r'} {i} {at} {rank} begun choice here =
    next-by m r'.ranks i rank (rank-begun begun) ∙ ap (λ j. slice_get (choices_of m j) rank) (sym (student-there m i at begun.student)) ∙ here

-- one more student stands at a choice, where the round fits so
stands-too : {m : Market} {r r' : RoundView} {i at rank : ℕ} → Begun m r r' i at rank → (r'' : RoundView) (choice : Option ℕ) → slice_get (choices_of m (student_at m at)) rank ≡ choice
    → r''.ranks ≡ r'.ranks → r''.log ≡ r'.log → r''.proposals ≡ r'.proposals → Fits m r'' → StandsToo m r r'' i choice
stands-too {m} {r} {r'} {i} begun r'' choice here same_ranks same_log same_proposals fits = record {
  fits = fits;
  entered = λ j. ap (λ ranks. is_some (rank_of m ranks j)) same_ranks ∙ entered-begun begun j;
  own = ap (λ ranks. next_of m ranks i) same_ranks ∙ next-begun begun choice here;
  others = λ j apart. ap (λ ranks. next_of m ranks j) same_ranks ∙ next-others begun j apart;
  log = same_log ∙ begun.log;
  proposals = same_proposals ∙ begun.proposals;
}

-- a student who has no choice left is on no roll
pub put-nowhere : {m : Market} {r r' : RoundView} {i at rank : ℕ} → Begun m r r' i at rank → (choice : Option ℕ) → slice_get (choices_of m (student_at m at)) rank ≡ choice → choice ≡ None → StandsToo m r r' i choice
put-nowhere {m} {r} {r'} {i} begun choice here none =
    stands-too begun r' choice here refl refl refl (subst (FitsBut m r') (back-only i) (fits-ended m r' (only i) i (away-begun begun) (next-begun begun choice here ∙ none)))

-- a school at which fewer stand than it has seats has room on its roll
pub roll-open : (m : Market) (r : RoundView) (s at : ℕ) → Fits m r → position (nat_eq s) (schools_of m) ≡ Some at → held m (next_of m r.ranks) s < seats_of m s → length (roll_at r.rolls at).keys < (roll_at r.rolls at).seats
roll-open m r s at fits school room =
    let next : Matching = next_of m r.ranks in
    let roll : RollFits m next s (roll_at r.rolls at) = subst (RollFits m next s) (roll-at m r.rolls s at school) (fits.each s) in
    omega (
      arith,
      room,
      roll.seats,
      roll-length m next s (roll_at r.rolls at) roll,
    )

-- a student who is put on the roll of their school, where nobody is put out
pub put-on_roll : {m : Market} {r r' : RoundView} {i at rank : ℕ} → Begun m r r' i at rank → (r'' : RoundView) (choice : Option ℕ) (s school : ℕ) → slice_get (choices_of m (student_at m at)) rank ≡ choice → choice ≡ Some s
    → Proposed m r' (only i) i s school r''.rolls None → r''.ranks ≡ r'.ranks → r''.log ≡ r'.log → r''.proposals ≡ r'.proposals → StandsToo m r r'' i choice
put-on_roll {m} {r} {r'} {i} begun r'' choice s school here is done same_ranks same_log same_proposals =
    stands-too begun r'' choice here same_ranks same_log same_proposals (fits-again r'' (next_of m r''.ranks) counted_fits counted_fits.ranks refl counted_fits.each (omega (arith, counted_fits.proposals, same_proposals)))
  where
    -- the same with the offer counted as a proposal
    counted : RoundView
    counted = record r'' { proposals = r'.proposals + 1 }

    counted_fits : Fits m counted
    counted_fits = subst (FitsBut m counted) (back-only i) (fits-offered counted done same_ranks same_log (omega arith) (without (only i) i) (nobody-goes m (next_of m r'.ranks) (without (only i) i) s))
