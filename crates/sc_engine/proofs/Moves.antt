-- The moves of proposals, as the code makes them.
use Rattle.std.proofs.Common.{◌≡◌, refl, ap, sym, subst, ◌∙◌, ℕ, ◌+◌, ◌<◌, nat_eq, Bool, true, cond, List, [], ◌∷◌, ◌++◌, length, get_or, set, Option, Some, None, All, Contains, position, arith}
use Rattle.std.proofs.lemmas.Option.{none-some}
use Rattle.sc_papers.specs.Market.{Market, student_at, students_of, schools_of}
use Rattle.sc_papers.specs.Key.{key_of, is_before}
use Rattle.sc_papers.specs.WellFormed.{WellFormed}
use Rattle.sc_papers.proofs.Hands.{hand-position}
use Rattle.sc_papers.specs.declared.key.Key.{Key}
use Rattle.sc_papers.specs.declared.proposal.Proposal.{Proposal}
use Rattle.sc_seats.specs.Roll.{RollView, Refuses}
use Rattle.sc_engine.specs.Proposals.{IsProposal}
use Rattle.sc_engine.specs.RoundView.{RoundView, next_of, choices_left, except, IsAway, IsPutOut, OffersAt, Passes, RollFits, roll_at}
use Rattle.sc_engine.proofs.Rolls.{on-roll}
use Rattle.sc_engine.proofs.RollCounts.{key-student}
use Rattle.sc_engine.proofs.Tables.{rank-at, rank-low, roll-at, stands-at, StandsAt}
use Rattle.sc_engine.proofs.Proposals.{Proposed}
use Rattle.sc_engine.proofs.Steps.{Refused, entry_of, left-refused, passes-after, passes-refused}

-- what the roll answered to the offer of a proposal
pub proposed-told : (m : Market) (r : RoundView) (away : ℕ → Bool) (proposer s at : ℕ) (key : Key) (rolls : List RollView) (told out : Option Key) → IsAway m r away proposer → next_of m r.ranks proposer ≡ Some s → position (nat_eq s) (schools_of m) ≡ Some at → key ≡ key_of m proposer s → OffersAt r.rolls rolls at key told → told ≡ out → Proposed m r away proposer s at rolls out
proposed-told m r away proposer s at key rolls told out hand stands school is offered answer =
    record { hand = hand; stands = stands; school = school; offered = subst (λ k. OffersAt r.rolls rolls at k out) is (subst (OffersAt r.rolls rolls at key) answer offered) }

-- what an offer asks of the roll
pub roll-new : (m : Market) (r : RoundView) (away : ℕ → Bool) (proposer s at : ℕ) (key : Key) → IsAway m r away proposer → position (nat_eq s) (schools_of m) ≡ Some at → key ≡ key_of m proposer s → Contains (roll_at r.rolls at).keys key → ⊥
roll-new m r away proposer s at key hand school is held =
    let others = except away (next_of m r.ranks) in
    let on = on-roll m others s (roll_at r.rolls at) key (subst (RollFits m others s) (roll-at m r.rolls s at school) (hand.fits.each s)) held in
    none-some s (sym (ap (λ gone. cond gone None (next_of m r.ranks key.student)) (ap away (ap (λ (k : Key). k.student) is ∙ key-student m proposer s) ∙ hand.gone)) ∙ on.stands)

-- what the papers say of whoever stands at a place is said of the student there
pub proposes-at : (m : Market) (ranks : List (Option ℕ)) (place : ℕ) (told : Option Proposal) → WellFormed m → place < length m.students
    → ((i : ℕ) → position (nat_eq i) (students_of m) ≡ Some place → IsProposal m i (next_of m ranks i) told) → (r : List (Option ℕ)) (made : Option Proposal) → ranks ≡ r → told ≡ made
    → IsProposal m (student_at m place) (next_of m r (student_at m place)) made
proposes-at m ranks place told well low says r made same is =
    subst (λ (rs : List (Option ℕ)). IsProposal m (student_at m place) (next_of m rs (student_at m place)) made) same
    (subst (IsProposal m (student_at m place) (next_of m ranks (student_at m place))) is (says (student_at m place) (hand-position m well place low)))

-- a proposal that its school refuses at once
pub put-refused : (m : Market) (r : RoundView) (i s at : ℕ) (key : Key) → next_of m r.ranks i ≡ Some s → position (nat_eq s) (schools_of m) ≡ Some at → key ≡ key_of m i s → OffersAt r.rolls r.rolls at key (Some key) → IsPutOut m r (entry_of i s)
put-refused m r i s at key stands school is offered = record {
  stands = stands;
  refused = subst (λ (roll : RollView). Refuses roll.keys roll.seats (key_of m i s)) (sym (roll-at m r.rolls s at school)) (record {
    full = offered.own.full refl;
    behind = subst (λ k. All (λ held. is_before held k ≡ true) (roll_at r.rolls at).keys) is offered.own.last;
  });
}

-- a refusal that is noted
pub refused-told : (m : Market) (r r' : RoundView) (i s place : ℕ) → IsPutOut m r (entry_of i s) → position (nat_eq i) (students_of m) ≡ Some place → r'.rolls ≡ r.rolls → r'.log ≡ r.log ++ entry_of i s ∷ []
    → ((rank : ℕ) → get_or r.ranks place None ≡ Some rank → r'.ranks ≡ set r.ranks place (Some (rank + 1)))
    → r'.proposals ≡ r.proposals + 1 → (rank : ℕ) × Refused m r r' i s place rank
refused-told m r r' i s place put found rolls log moved one_more =
    let stood : StandsAt m r.ranks i s = stands-at m r.ranks i s put.stands in
    let here : get_or r.ranks place None ≡ Some stood.rank = sym (rank-at m r.ranks i place found) ∙ stood.entered in (
      stood.rank,
      record {
        put = put;
        student = found;
        low = rank-low r.ranks place stood.rank here;
        stood = stood.entered;
        choice = stood.choice;
        ranks = moved stood.rank here;
        rolls = rolls;
        log = log;
        proposals = one_more;
      },
    )

-- one more school has refused a student who is away, and they move on
pub passed-more : (m : Market) (first r r' : RoundView) (away : ℕ → Bool) (i place : ℕ) (made : Proposal) → IsAway m first away i → Passes m first away r i → IsProposal m i (next_of m r.ranks i) (Some made) → OffersAt r.rolls r.rolls made.position made.key (Some made.key)
    → position (nat_eq i) (students_of m) ≡ Some place → r'.rolls ≡ r.rolls → r'.log ≡ r.log ++ entry_of made.key.student made.school ∷ []
    → ((rank : ℕ) → get_or r.ranks place None ≡ Some rank → r'.ranks ≡ set r.ranks place (Some (rank + 1)))
    → r'.proposals ≡ r.proposals + 1 → Passes m first away r' i × (choices_left m r'.ranks < choices_left m r.ranks)
passed-more m first r r' away i place made hand before is offered found rolls log moved one_more =
    let own : made.key.student ≡ i = ap (λ (k : Key). k.student) is.key ∙ key-student m i made.school in
    let put = put-refused m r i made.school made.position made.key (sym is.school) is.position is.key offered in
    let told = refused-told m r r' i made.school place put found rolls (log ∙ ap (λ j. r.log ++ entry_of j made.school ∷ []) own) moved one_more in (
      passes-after before (passes-refused told.1 away (record { fits = before.moves.fits; gone = hand.gone })),
      omega (arith, left-refused hand.fits.well_formed told.1),
    )
