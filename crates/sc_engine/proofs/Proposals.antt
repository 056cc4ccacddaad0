-- One proposal: what it keeps, and what it does to the log.
use Rattle.std.proofs.Common.{◌≡◌, ◌⊎◌, inl, inr, refl, ap, sym, subst, ◌∙◌, ℕ, ◌+◌, ◌≤◌, ◌==◌, nat_eq, Bool, true, false, cond, not, ◌&&◌, ◌||◌, List, [], ◌∷◌, ◌++◌, length, Option, Some, None, All, Contains, is_some, count_by, position, arith}
use Rattle.std.specs.Option.{option_map_or, option_to_list}
use Rattle.std.proofs.lemmas.Bool.{cases_eq, eq-eqb, ne_eqb, and_left, and_right, or_right, false_from_ne_true}
use Rattle.std.proofs.lemmas.Option.{same_Some, none-some}
use Rattle.std.proofs.lemmas.List.Elements.{All-cons, All-tail}
use Rattle.std.proofs.lemmas.List.Sorted.{Contains-permutation, IsPermutation-sym, All-permutation, length_permutation}
use Rattle.sc_papers.specs.Chain.{and_one}
use Rattle.sc_papers.specs.Market.{Market, students_of, schools_of}
use Rattle.sc_papers.specs.Key.{key_of, is_before}
use Rattle.sc_papers.specs.Matching.{Matching, how_many, has}
use Rattle.sc_papers.specs.Progress.{placed}
use Rattle.sc_papers.specs.WellFormed.{WellFormed, WithinLimits}
use Rattle.std.proofs.lemmas.List.Sums.{count_by-le-length, sum_by-cons}
use Rattle.sc_papers.specs.declared.records.Student.{Student}
use Rattle.sc_papers.specs.declared.key.Key.{Key}
use Rattle.sc_papers.specs.declared.rejection.Rejection.{Rejection}
use Rattle.sc_papers.specs.declared.limits.TheConstants.{MOST_STUDENTS}
use Rattle.sc_papers.proofs.Chain.{how_many-split, how_many-split_both}
use Rattle.sc_papers.proofs.Counting.{contains-cons, contains-head}
use Rattle.sc_papers.proofs.Rejections.{has-true, has-some}
use Rattle.sc_papers.proofs.Students.{how_many-agree}
use Rattle.sc_seats.specs.Roll.{RollView, Refuses}
use Rattle.sc_engine.specs.RoundView.{RoundView, next_of, roll_of, roll_at, RollFits, FitsBut, IsAway, IsPutOut, except, only, nobody, without, standing_but, CountsProposals, OffersAt}
use Rattle.sc_engine.proofs.Tables.{length-mapped, next-among, roll-at, roll-kept}
use Rattle.sc_engine.proofs.RollCounts.{IsCounted, counted, fits-counted, key-student}
use Rattle.sc_engine.proofs.Rolls.{on-roll, fits-again, roll-fits_still, counts-offered}

-- who has a school that is not s has not s
pub has-not : (a : Matching) (s t i : ℕ) → a i ≡ Some s → (t ≡ s → ⊥) → has a t i ≡ false
has-not a s t i is apart = false_from_ne_true (has a t i) (λ holds. apart (same_Some t s (sym (has-true a t i holds) ∙ is)))

pub has-none : (a : Matching) (t i : ℕ) → a i ≡ None → has a t i ≡ false
has-none a t i is = false_from_ne_true (has a t i) (λ holds. none-some t (sym is ∙ has-true a t i holds))

pub and-keeps : (a b : Bool) → b ≡ true → (a && b) ≡ a
and-keeps true b holds = holds
and-keeps false b holds = refl

pub or-same : (a b : Bool) → b ≡ false → a ≡ (a || b)
or-same true b off = refl
or-same false b off = sym off

-- one student is away by the first test and not by the second, and the others are by both or by neither
pub record DifferAt (i : ℕ) (away back : ℕ → Bool) : Type 0 where
  pub gone : away i ≡ true
  pub here : back i ≡ false
  pub others : (j : ℕ) → (j ≡ i → ⊥) → away j ≡ back j

pub differ-only : (i : ℕ) → DifferAt i (only i) nobody
differ-only i = record { gone = eq-eqb i i refl; here = refl; others = λ j apart. ne_eqb j i apart }

pub differ-without : (away : ℕ → Bool) (i : ℕ) → away i ≡ true → DifferAt i away (without away i)
differ-without away i gone = record {
  gone = gone;
  here = and_right (away i) (not (i == i)) (ap not (eq-eqb i i refl));
  others = λ j apart. sym (and-keeps (away j) (not (j == i)) (ap not (ne_eqb j i apart)));
}

pub differ-with : (back : ℕ → Bool) (i : ℕ) → back i ≡ false → DifferAt i (and_one back i) back
differ-with back i here = record {
  gone = or_right (back i) (i == i) (eq-eqb i i refl);
  here = here;
  others = λ j apart. sym (or-same (back j) (j == i) (ne_eqb j i apart));
}

and-not : (b : Bool) → (b && not b) ≡ false
and-not true = refl
and-not false = refl

-- nobody is away where the only one comes back, and one alone where another goes
pub back-only : (i : ℕ) → without (only i) i ≡ nobody
back-only i = λ t j. and-not (j == i) t

pub only-other : (i out : ℕ) → and_one (without (only i) i) out ≡ only out
only-other i out = λ t j. ap (λ b. b || j == out) (and-not (j == i)) t

pub only-away : {m : Market} {r : RoundView} {i : ℕ} → FitsBut m r (only i) → IsAway m r (only i) i
only-away {i = i} fits = record { fits = fits; gone = eq-eqb i i refl }

-- what is asked of a student's place, where those who are away are left out
pub asked-except : (test : Option ℕ → Bool) → test None ≡ false → (away : ℕ → Bool) (a : Matching) (j : ℕ) → test (except away a j) ≡ (test (a j) && not (away j))
asked-except test none away a j = go (away j)
  where
    go : (gone : Bool) → test (cond gone None (a j)) ≡ (test (a j) && not gone)
    go true = none ∙ sym (and_right (test (a j)) false refl)
    go false = sym (and-keeps (test (a j)) true refl)

pub has-except : (away : ℕ → Bool) (a : Matching) (s j : ℕ) → has (except away a) s j ≡ (has a s j && not (away j))
has-except away a s j = asked-except (λ o. option_map_or (λ t. t == s) o false) refl away a j

module _ {i : ℕ} {away back : ℕ → Bool} (differ : DifferAt i away back) where
  -- of the others nothing else is asked
  asked-alike : (test : Option ℕ → Bool) → test None ≡ false → (a : Matching) → test (a i) ≡ false → (j : ℕ) → test (except away a j) ≡ test (except back a j)
  asked-alike test none a fails j =
      asked-except test none away a j ∙ elim (cases_eq j i) [
        | inl is ↦ and_left (test (a j)) (not (away j)) (ap (λ k. test (a k)) is ∙ fails) ∙ sym (and_left (test (a j)) (not (back j)) (ap (λ k. test (a k)) is ∙ fails))
        | inr apart ↦ ap (λ b. test (a j) && not b) (differ.others j apart)
      ] ∙ sym (asked-except test none back a j)

  -- with the one left out
  asked-left : (test : Option ℕ → Bool) → test None ≡ false → (a : Matching) (j : ℕ) → (test (except back a j) && not (j == i)) ≡ test (except away a j)
  asked-left test none a j = elim (cases_eq j i) [
    | inl is ↦ and_right (test (except back a j)) (not (j == i)) (ap not (eq-eqb j i is))
        ∙ sym (asked-except test none away a j ∙ and_right (test (a j)) (not (away j)) (ap not (ap away is ∙ differ.gone)))
    | inr apart ↦ and-keeps (test (except back a j)) (not (j == i)) (ap not (ne_eqb j i apart))
        ∙ asked-except test none back a j ∙ ap (λ b. test (a j) && not b) (sym (differ.others j apart)) ∙ sym (asked-except test none away a j)
  ]

  -- who has a school that the one has not
  pub has-alike : (a : Matching) (t : ℕ) → has a t i ≡ false → (j : ℕ) → has (except away a) t j ≡ has (except back a) t j
  has-alike a t absent = asked-alike (λ o. option_map_or (λ s. s == t) o false) refl a absent

  -- the one who has the school, and the others
  pub split-except : (m : Market) → WellFormed m → (p : ℕ → Bool) (a : Matching) (s : ℕ) → Contains (students_of m) i → a i ≡ Some s → how_many m (λ j. p j && has (except back a) s j) ≡ cond (p i) 1 0 + how_many m (λ j. p j && has (except away a) s j)
  split-except m well p a s among stands =
      how_many-split_both m well p (has (except back a) s) i among (has-some (except back a) s i (ap (λ b. cond b None (a i)) differ.here ∙ stands))
      ∙ ap (λ n. cond (p i) 1 0 + n) (how_many-agree m (λ j. p j && (has (except back a) s j && not (j == i))) (λ j. p j && has (except away a) s j)
      (λ j. ap (λ b. p j && b) (asked-left (λ o. option_map_or (λ t. t == s) o false) refl a j)))

  -- one who stands at a choice, and the others
  pub standing-split : (m : Market) → WellFormed m → (ranks : List (Option ℕ)) (s : ℕ) → next_of m ranks i ≡ Some s → standing_but m ranks back ≡ 1 + standing_but m ranks away
  standing-split m well ranks s stands =
      let next = next_of m ranks in
      how_many-split m well (λ j. is_some (except back next j)) i (next-among m ranks i s stands) (ap (λ b. is_some (cond b None (next i))) differ.here ∙ ap is_some stands)
      ∙ ap (λ n. 1 + n) (how_many-agree m (λ j. is_some (except back next j) && not (j == i)) (λ j. is_some (except away next j)) (asked-left is_some refl next))

  -- leaving out one who stands nowhere
  pub standing-alike : (m : Market) (ranks : List (Option ℕ)) → next_of m ranks i ≡ None → standing_but m ranks away ≡ standing_but m ranks back
  standing-alike m ranks none =
      how_many-agree m (λ j. is_some (except away (next_of m ranks) j)) (λ j. is_some (except back (next_of m ranks) j)) (asked-alike is_some refl (next_of m ranks) (ap is_some none))

-- leaving out those who are away, where the others have the same
pub except-alike : (away : ℕ → Bool) (a b : Matching) (i : ℕ) → away i ≡ true → ((j : ℕ) → (j ≡ i → ⊥) → a j ≡ b j) → (j : ℕ) → except away a j ≡ except away b j
except-alike away a b i gone same j = elim (cases_eq j i) [
  | inl own ↦ ap (λ w. cond w None (a j)) (ap away own ∙ gone) ∙ sym (ap (λ w. cond w None (b j)) (ap away own ∙ gone))
  | inr apart ↦ ap (λ o. cond (away j) None o) (same j apart)
]

pub standing-others : (m : Market) (old new : List (Option ℕ)) (away : ℕ → Bool) (i : ℕ) → away i ≡ true → ((j : ℕ) → (j ≡ i → ⊥) → next_of m new j ≡ next_of m old j) → standing_but m new away ≡ standing_but m old away
standing-others m old new away i gone same =
    how_many-agree m (λ j. is_some (except away (next_of m new) j)) (λ j. is_some (except away (next_of m old) j)) (λ j. ap is_some (except-alike away (next_of m new) (next_of m old) i gone same j))

-- no more stand at a choice than there are students
pub standing-most : (m : Market) (ranks : List (Option ℕ)) (away : ℕ → Bool) → WithinLimits m → standing_but m ranks away ≤ MOST_STUDENTS
unfolding how_many
standing-most m ranks away within =
    omega (arith, within.students, length-mapped (λ (e : ℕ × Student). e.0) m.students, count_by-le-length (λ i. is_some (except away (next_of m ranks) i)) (students_of m))

-- a proposal as the code makes it: a student who is away stands at s, and their key is offered to the roll
pub record Proposed (m : Market) (r : RoundView) (away : ℕ → Bool) (proposer s at : ℕ) (rolls : List RollView) (out : Option Key) : Type 0 where
  pub hand : IsAway m r away proposer
  pub stands : next_of m r.ranks proposer ≡ Some s
  pub school : position (nat_eq s) (schools_of m) ≡ Some at
  pub offered : OffersAt r.rolls rolls at (key_of m proposer s) out

module _ {m : Market} {r : RoundView} {away : ℕ → Bool} {proposer s at : ℕ} {rolls : List RollView} {out : Option Key} (done : Proposed m r away proposer s at rolls out) where
  -- the school's roll before
  roll-before : RollFits m (except away (next_of m r.ranks)) s (roll_at r.rolls at)
  roll-before = subst (RollFits m (except away (next_of m r.ranks)) s) (roll-at m r.rolls s at done.school) (done.hand.fits.each s)

  roll-before_counted : IsCounted m (except away (next_of m r.ranks)) s (roll_at r.rolls at)
  roll-before_counted = counted m (except away (next_of m r.ranks)) s (roll_at r.rolls at) roll-before

  roll-after : roll_of m rolls s ≡ roll_at rolls at
  roll-after = roll-at m rolls s at done.school

  -- the keys before, and the one that is offered
  keyed-offered : All (λ k. k ≡ key_of m k.student s) (key_of m proposer s ∷ (roll_at r.rolls at).keys)
  keyed-offered = All-cons (λ k. k ≡ key_of m k.student s) (key_of m proposer s) (roll_at r.rolls at).keys (ap (λ j. key_of m j s) (sym (key-student m proposer s))) roll-before_counted.keyed

  -- the rolls after, where at other schools the same stand and not others are away, and here those whom the roll holds
  rolls-offered : (after : ℕ → Bool) → ((t : ℕ) → (t ≡ s → ⊥) → (j : ℕ) → has (except away (next_of m r.ranks)) t j ≡ has (except after (next_of m r.ranks)) t j)
      → All (λ (k : Key). k ≡ key_of m k.student s) (roll_at rolls at).keys
      → ((p : ℕ → Bool) → count_by (λ (k : Key). p k.student) (roll_at rolls at).keys ≡ how_many m (λ j. p j && has (except after (next_of m r.ranks)) s j))
      → (t : ℕ) → RollFits m (except after (next_of m r.ranks)) t (roll_of m rolls t)
  rolls-offered after others keyed exact t =
      let next : Matching = next_of m r.ranks in
      elim (cases_eq t s) [
        | inl at_s ↦ subst (λ u. RollFits m (except after next) u (roll_of m rolls u)) (sym at_s) (subst (RollFits m (except after next) s) (sym roll-after)
            (fits-counted m (except after next) s (roll_at rolls at) (record { seats = done.offered.own.seats ∙ roll-before.seats; within = done.offered.own.within; keyed = keyed; exact = exact })))
        | inr apart ↦ subst (RollFits m (except after next) t) (sym (roll-kept m r.rolls rolls s at done.school done.offered.others t apart))
            (roll-fits_still m (except away next) (except after next) t (roll_of m r.rolls t) (others t apart) (done.hand.fits.each t))
      ]

-- the counts where the student in hand has no choice left
pub counted-ended : (m : Market) (r : RoundView) (away : ℕ → Bool) (proposer : ℕ) → away proposer ≡ true → next_of m r.ranks proposer ≡ None → CountsProposals m r away r (without away proposer)
counted-ended m r away proposer gone none = ap (λ n. r.proposals + (length r.log + n)) (standing-alike (differ-without away proposer gone) m r.ranks none)

-- a round whose rolls alone are others
fits-rolls : (m : Market) (r r' : RoundView) (away after : ℕ → Bool) → FitsBut m r away → r'.ranks ≡ r.ranks → length r'.rolls ≡ length r.rolls → ((t : ℕ) → RollFits m (except after (next_of m r.ranks)) t (roll_of m r'.rolls t)) → CountsProposals m r away r' after → FitsBut m r' after
fits-rolls m r r' away after fits same same_length each counted =
    fits-again r' (except after (next_of m r'.ranks)) fits (omega (arith, ap (λ (l : List (Option ℕ)). length l) same, fits.ranks)) same_length
    (λ t. subst (λ ranks. RollFits m (except after (next_of m ranks)) t (roll_of m r'.rolls t)) (sym same) (each t)) (omega (arith, counted, fits.proposals))

-- the student in hand has no choice left
pub fits-ended : (m : Market) (r : RoundView) (away : ℕ → Bool) (proposer : ℕ) → IsAway m r away proposer → next_of m r.ranks proposer ≡ None → FitsBut m r (without away proposer)
fits-ended m r away proposer hand none =
    let next : Matching = next_of m r.ranks in
    fits-rolls m r r away (without away proposer) hand.fits refl refl
    (λ t. roll-fits_still m (except away next) (except (without away proposer) next) t (roll_of m r.rolls t)
    (has-alike (differ-without away proposer hand.gone) next t (has-none next t proposer none)) (hand.fits.each t))
    (counted-ended m r away proposer hand.gone none)

-- the student who is put out was on the roll or is the one in hand, and the roll would refuse them now
pub record Out (m : Market) (r r' : RoundView) (away : ℕ → Bool) (proposer s : ℕ) (out : Key) : Type 0 where
  pub stands : next_of m r.ranks out.student ≡ Some s
  pub here : without away proposer out.student ≡ false
  pub refused : IsPutOut m r' (record { student = out.student; school = s })

pub put-out : {m : Market} {r : RoundView} {away : ℕ → Bool} {proposer s at : ℕ} {out : Key} (r' : RoundView) → Proposed m r away proposer s at r'.rolls (Some out) → r'.ranks ≡ r.ranks → Out m r r' away proposer s out
put-out {m} {r} {away} {proposer} {s} {at} {out} r' done same_ranks = record {
  stands = stands;
  here = (elim from [
    | inl is_hand ↦ ap (without away proposer) (ap (λ (k : Key). k.student) (sym is_hand) ∙ key-student m proposer s) ∙ (differ-without away proposer done.hand.gone).here
    | inr held ↦ and_left (away out.student) (not (out.student == proposer)) (on-old held).0
  ]);
  refused = record {
    stands = ap (λ ranks. next_of m ranks out.student) same_ranks ∙ stands;
    refused = subst (λ (roll : RollView). Refuses roll.keys roll.seats (key_of m out.student s)) (sym (roll-after done)) (record {
      full = omega (
        arith,
        length_permutation (key_of m proposer s ∷ old.keys) (out ∷ (roll_at r'.rolls at).keys) done.offered.own.together,
        done.offered.own.full refl,
        done.offered.own.seats,
      );
      behind = subst (λ k. All (λ held. is_before held k ≡ true) (roll_at r'.rolls at).keys) own done.offered.own.last;
    });
  };
}
  where
    next : Matching
    next = next_of m r.ranks

    old : RollView
    old = roll_at r.rolls at

    from : (key_of m proposer s ≡ out) ⊎ Contains old.keys out
    from = contains-cons (key_of m proposer s) old.keys out
        (Contains-permutation (out ∷ (roll_at r'.rolls at).keys) (key_of m proposer s ∷ old.keys) out
        (IsPermutation-sym (key_of m proposer s ∷ old.keys) (out ∷ (roll_at r'.rolls at).keys) done.offered.own.together) (contains-head out (roll_at r'.rolls at).keys))

    -- who was on the roll stood there, and was not away
    on-old : Contains old.keys out → (away out.student ≡ false) × (next out.student ≡ Some s)
    on-old held = stood (away out.student) (on-roll m (except away next) s old out (roll-before done) held).stands
      where
        stood : (gone : Bool) → cond gone None (next out.student) ≡ Some s → (gone ≡ false) × (next out.student ≡ Some s)
        stood true is = absurd (none-some s is)
        stood false is = (refl, is)

    stands : next out.student ≡ Some s
    stands = elim from [
      | inl is_hand ↦ ap next (ap (λ (k : Key). k.student) (sym is_hand) ∙ key-student m proposer s) ∙ done.stands
      | inr held ↦ (on-old held).1
    ]

    own : out ≡ key_of m out.student s
    own = elim from [
      | inl is_hand ↦ sym is_hand ∙ ap (λ i. key_of m i s) (sym (key-student m proposer s) ∙ ap (λ (k : Key). k.student) is_hand)
      | inr held ↦ (on-roll m (except away next) s old out (roll-before done) held).own
    ]

-- whoever is put out is away as well, and nobody else
pub record GoesToo (m : Market) (next : Matching) (back after : ℕ → Bool) (s : ℕ) (out : List Key) : Type 0 where
  pub others : (t : ℕ) → (t ≡ s → ⊥) → (j : ℕ) → has (except back next) t j ≡ has (except after next) t j
  pub counts : (p : ℕ → Bool) → how_many m (λ j. p j && has (except back next) s j) ≡ count_by (λ (k : Key). p k.student) out + how_many m (λ j. p j && has (except after next) s j)
  pub standing : placed m (except back next) ≡ length out + placed m (except after next)

pub nobody-goes : (m : Market) (next : Matching) (back : ℕ → Bool) (s : ℕ) → GoesToo m next back back s []
nobody-goes m next back s = record { others = λ t apart j. refl; counts = λ p. omega arith; standing = omega arith }

pub one-goes : {m : Market} {r r' : RoundView} {away : ℕ → Bool} {proposer s : ℕ} {out : Key} → WellFormed m → Out m r r' away proposer s out
    → GoesToo m (next_of m r.ranks) (without away proposer) (and_one (without away proposer) out.student) s (out ∷ [])
one-goes {m} {r} {r'} {away} {proposer} {s} {out} well put =
    let next : Matching = next_of m r.ranks in
    let differ = differ-with (without away proposer) out.student put.here in
    record {
      others = λ t apart j. sym (has-alike differ next t (has-not next s t out.student put.stands apart) j);
      counts = λ p. omega (arith, split-except differ m well p next s (next-among m r.ranks out.student s put.stands) put.stands, sum_by-cons (λ (k : Key). cond (p k.student) 1 0) out []);
      standing = omega (arith, standing-split differ m well r.ranks s put.stands);
    }

module _ {m : Market} {r : RoundView} {away : ℕ → Bool} {proposer s at : ℕ} {out : Option Key} (r' : RoundView) (done : Proposed m r away proposer s at r'.rolls out) (same_ranks : r'.ranks ≡ r.ranks) (same_log : r'.log ≡ r.log)
    (one_more : r'.proposals + length (option_to_list out) ≡ r.proposals + 1) (after : ℕ → Bool) (goes : GoesToo m (next_of m r.ranks) (without away proposer) after s (option_to_list out)) where
  pub counted-offered : CountsProposals m r away r' after
  counted-offered =
      omega (
        arith,
        one_more,
        standing-split (differ-without away proposer done.hand.gone) m done.hand.fits.well_formed r.ranks s done.stands,
        goes.standing,
        ap (λ ranks. standing_but m ranks after) same_ranks,
        ap (λ (l : List Rejection). length l) same_log,
      )

  pub fits-offered : FitsBut m r' after
  fits-offered =
      let next : Matching = next_of m r.ranks in
      let key : Key = key_of m proposer s in
      let differ = differ-without away proposer done.hand.gone in
      fits-rolls m r r' away after done.hand.fits same_ranks done.offered.same_length
      (rolls-offered done after (λ t apart j. has-alike differ next t (has-not next s t proposer done.stands apart) j ∙ goes.others t apart j)
      (those-left out (roll_at r'.rolls at).keys (All-permutation (λ k. k ≡ key_of m k.student s) (key ∷ (roll_at r.rolls at).keys) (option_to_list out ++ (roll_at r'.rolls at).keys) done.offered.own.together (keyed-offered done)))
      (λ p. omega (
        arith,
        counts-offered p key (option_to_list out) (roll_at r.rolls at).keys (roll_at r'.rolls at).keys done.offered.own.together,
        ap {B = ℕ} (λ j. cond (p j) 1 0) (key-student m proposer s),
        split-except differ m done.hand.fits.well_formed p next s (next-among m r.ranks proposer s done.stands) done.stands,
        goes.counts p,
        (roll-before_counted done).exact p,
      )))
      counted-offered
    where
      those-left : (one : Option Key) (keys : List Key) → All (λ k. k ≡ key_of m k.student s) (option_to_list one ++ keys) → All (λ k. k ≡ key_of m k.student s) keys
      those-left None keys own = own
      those-left (Some k) keys own = All-tail (λ k. k ≡ key_of m k.student s) k keys own
