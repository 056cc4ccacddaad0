-- All students enter, in whatever order.
use Rattle.std.proofs.Common.{◌≡◌, refl, ap, sym, subst, ◌∙◌, ℕ, ◌+◌, ◌<◌, ◌==◌, nat_eq, Bool, true, false, cond, ◌||◌, List, [], ◌∷◌, ◌++◌, length, get_or, take, filter, Option, Some, None, Contains, slice_get, add-one, arith}
use Rattle.std.specs.List.{list_any, IsDistinct}
use Rattle.std.specs.Map.{keys_of}
use Rattle.std.proofs.lemmas.Bool.{eqb-true, eq-eqb, false≢true, cond-true, cond-false, false_from_ne_true}
use Rattle.std.proofs.lemmas.Option.{slice_get_within, get_or_from_slice_get}
use Rattle.std.proofs.lemmas.List.Folds.{list_any_none}
use Rattle.std.proofs.lemmas.List.{get_or-take, get_or_default, length-take}
use Rattle.std.proofs.Math.Seq.{take-length, take-suc}
use Rattle.std.proofs.lemmas.Map.Keys.{apart_from_distinct}
use Rattle.sc_papers.specs.Assignment.{assigned}
use Rattle.sc_papers.specs.Market.{Market, students_of}
use Rattle.sc_papers.specs.Log.{next_choice, IsSettled}
use Rattle.sc_papers.specs.Restriction.{restricted}
use Rattle.sc_papers.specs.WellFormed.{WellFormed}
use Rattle.sc_papers.specs.declared.records.Student.{Student}
use Rattle.sc_papers.proofs.Counting.{contains-head, contains-tail}
use Rattle.sc_papers.proofs.Optimality.{settled-optimal}
use Rattle.sc_papers.proofs.Rejections.{any-push}
use Rattle.sc_engine.specs.RoundView.{RoundView, next_of, has_entered, Fits, entered_papers, Continues, Enters, HaveEntered, SettlesFirst, SettlesThese}
use Rattle.sc_engine.specs.SettledPlaces.{AreSettledPlaces}
use Rattle.sc_tallies.specs.Places.{ArePlaces}
use Rattle.sc_tallies.specs.Tally.{AreTallies}
use Rattle.sc_tallies.specs.declared.tally.Tally.{Tally}
use Rattle.sc_engine.proofs.Tables.{next-among, length-mapped}
use Rattle.sc_papers.proofs.Positions.{any-among}
use Rattle.sc_engine.proofs.CountingLaws.{exact_none}

-- whether a number is among the first k
abbrev pub among_first : List ℕ → ℕ → ℕ → Bool
among_first xs k j = list_any (nat_eq j) (take k xs)

-- one more
pub take-next : {X : Type 0} (xs : List X) (k : ℕ) (i : X) → slice_get xs k ≡ Some i → take (k + 1) xs ≡ take k xs ++ i ∷ []
take-next xs k i here =
    ap (λ n. take n xs) (add-one k) ∙ take-suc xs k i (slice_get_within xs k i here)
    ∙ ap (λ x. take k xs ++ x ∷ []) (get_or_from_slice_get xs k i i here)

-- among one more
pub first-more : (xs : List ℕ) (k i : ℕ) → slice_get xs k ≡ Some i → (j : ℕ) → among_first xs (k + 1) j ≡ (among_first xs k j || j == i)
first-more xs k i here j = ap (list_any (nat_eq j)) (take-next xs k i here) ∙ any-push (nat_eq j) (take k xs) i

-- the next one is not among them
pub first-apart : (xs : List ℕ) (k i : ℕ) → IsDistinct nat_eq xs → slice_get xs k ≡ Some i → among_first xs k i ≡ false
first-apart xs k i distinct here =
    list_any_none (nat_eq i) (take k xs) (λ j d low.
    let below : j < k = omega (arith, low, length-take k xs) in
    let apart = apart_from_distinct nat_eq xs j k i distinct below (slice_get_within xs k i here) in
    false_from_ne_true (nat_eq i (get_or (take k xs) j d)) (λ same.
    let is : i ≡ get_or xs j d = eqb-true i (get_or (take k xs) j d) same ∙ get_or-take k xs j d below in
    false≢true (sym apart ∙ eq-eqb (get_or xs j i) (get_or xs k i) (get_or_default xs j i d (omega (arith, below, slice_get_within xs k i here)) ∙ sym is ∙ sym (get_or_from_slice_get xs k i i here)))))

-- all are among all
pub first-all : (xs : List ℕ) (j : ℕ) → Contains xs j → among_first xs (length xs) j ≡ true
first-all xs j among = ap (list_any (nat_eq j)) (take-length xs) ∙ any-among xs j among

-- a log that is settled for students is so after none
abbrev pub settled-entered : (m : Market) (r : RoundView) (xs : List ℕ) → SettlesThese m r xs → HaveEntered m r xs
settled-entered m r xs these = record {
  fits = these.fits;
  entered = these.entered;
  earlier = [];
  continues = these.settled;
}

-- one more student has entered, in order of entry
pub settles-more : (m : Market) (old new : RoundView) (k i : ℕ) → slice_get (students_of m) k ≡ Some i → SettlesFirst m old k → Enters m old new i → SettlesFirst m new (k + 1)
settles-more m old new k i here before enters = record {
  fits = enters.fits;
  entered = λ j. enters.entered j ∙ ap (λ b. b || j == i) (before.entered j) ∙ sym (first-more (students_of m) k i here j);
  settled = enters.continues [] before.settled;
  counted = omega (arith, before.counted, enters.counted);
}

-- nobody stands at a choice where nobody has entered
pub settles-none : (m : Market) (r : RoundView) → Fits m r → ((i : ℕ) → has_entered m r.ranks i ≡ false) → Continues m [] r → r.log ≡ [] → r.proposals ≡ 0 → SettlesFirst m r 0
settles-none m r fits nowhere continues no_log none = record {
  fits = fits;
  entered = nowhere;
  settled = continues;
  counted = exact_none m r nowhere no_log none;
}

-- papers restricted to students among whom all are, are the papers
filter-all : (test : ℕ → Bool) (es : List (ℕ × Student)) → ((i : ℕ) → Contains (keys_of es) i → test i ≡ true) → filter (λ e. test e.0) es ≡ es
filter-all test [] all = refl
filter-all test (e ∷ es) all =
    cond-true (test e.0) (e ∷ filter (λ f. test f.0) es) (filter (λ f. test f.0) es) (all e.0 (contains-head e.0 (keys_of es)))
    ∙ ap (λ rest. e ∷ rest) (filter-all test es (λ i among. all i (contains-tail e.0 (keys_of es) i among)))

pub restricted-all : (m : Market) (test : ℕ → Bool) → ((i : ℕ) → Contains (students_of m) i → test i ≡ true) → restricted m test ≡ m
unfolding restricted
restricted-all m test all = λ t. record m { students = filter-all test m.students all t }

papers-all : (m : Market) (r : RoundView) → HaveEntered m r (students_of m) → entered_papers m r.ranks ≡ m
papers-all m r all = restricted-all m (has_entered m r.ranks) (λ i among. all.entered i ∙ any-among (students_of m) i among)

-- the whole log is settled, and the students stand at their next choices
pub settled-all : (m : Market) (r : RoundView) (all : HaveEntered m r (students_of m)) → IsSettled m (all.earlier ++ r.log)
settled-all m r all = subst (λ n. IsSettled n (all.earlier ++ r.log)) (papers-all m r all) all.continues.settled

pub next-all : (m : Market) (r : RoundView) (all : HaveEntered m r (students_of m)) → next_of m r.ranks ≡ next_choice m (all.earlier ++ r.log)
next-all m r all = λ t i. (sym (all.continues.next i) ∙ ap (λ n. next_choice n (all.earlier ++ r.log) i) (papers-all m r all)) t

pub settled_places : (m : Market) (r : RoundView) (made : List (Option ℕ)) (tallies : List Tally) → HaveEntered m r (students_of m) → ArePlaces m (next_of m r.ranks) made → AreTallies m (next_of m r.ranks) tallies → AreSettledPlaces m made tallies
settled_places m r made tallies all are counted = record {
  log = all.earlier ++ r.log;
  settled = settled-all m r all;
  optimal = settled-optimal m all.fits.well_formed (all.earlier ++ r.log) (settled-all m r all);
  places = subst (λ a. ArePlaces m a made) (next-all m r all) are;
  tallies = subst (λ a. AreTallies m a tallies) (next-all m r all) counted;
}

-- what the first students have
abbrev pub GivesFirst : Market → List (Option ℕ) → List (ℕ × ℕ) → ℕ → Type 0
GivesFirst m ranks pairs k = (j : ℕ) → assigned pairs j ≡ cond (among_first (students_of m) k j) (next_of m ranks j) None

pub gives_more : (m : Market) (ranks : List (Option ℕ)) (old new : List (ℕ × ℕ)) (k i : ℕ) → slice_get (students_of m) k ≡ Some i → GivesFirst m ranks old k → ((j : ℕ) → assigned new j ≡ cond (nat_eq j i) (next_of m ranks i) (assigned old j)) → GivesFirst m ranks new (k + 1)
gives_more m ranks old new k i here before given j =
    given j ∙ ap (cond (nat_eq j i) (next_of m ranks i)) (before j)
    ∙ go (among_first (students_of m) k j) (nat_eq j i) (λ is. ap (next_of m ranks) (sym (eqb-true j i is)))
    ∙ ap (λ b. cond b (next_of m ranks j) None) (sym (first-more (students_of m) k i here j))
  where
    go : (a b : Bool) → (b ≡ true → next_of m ranks i ≡ next_of m ranks j) → cond b (next_of m ranks i) (cond a (next_of m ranks j) None) ≡ cond (a || b) (next_of m ranks j) None
    go true true same = same refl
    go false true same = same refl
    go true false same = refl
    go false false same = refl

pub gives_none : (m : Market) (ranks : List (Option ℕ)) (pairs : List (ℕ × ℕ)) (k i : ℕ) → WellFormed m → slice_get (students_of m) k ≡ Some i → GivesFirst m ranks pairs k → assigned pairs i ≡ None
gives_none m ranks pairs k i well here gives =
    gives i ∙ cond-false (among_first (students_of m) k i) (next_of m ranks i) None (first-apart (students_of m) k i well.students_differ here)

pub gives_all : (m : Market) (ranks : List (Option ℕ)) (pairs : List (ℕ × ℕ)) → GivesFirst m ranks pairs (length m.students) → (i : ℕ) → assigned pairs i ≡ next_of m ranks i
gives_all m ranks pairs gives i = gives i ∙ go (next_of m ranks i) refl
  where
    go : (o : Option ℕ) → next_of m ranks i ≡ o → cond (among_first (students_of m) (length m.students) i) (next_of m ranks i) None ≡ next_of m ranks i
    go None is = both (among_first (students_of m) (length m.students) i) (next_of m ranks i) is
      where
        both : (b : Bool) (o : Option ℕ) → o ≡ None → cond b o None ≡ o
        both true o e = refl
        both false o e = sym e
    go (Some s) is = cond-true (among_first (students_of m) (length m.students) i) (next_of m ranks i) None
        (ap (λ n. among_first (students_of m) n i) (sym (length-mapped (λ (e : ℕ × Student). e.0) m.students)) ∙ first-all (students_of m) i (next-among m ranks i s is))
