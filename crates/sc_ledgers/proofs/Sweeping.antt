-- From turn to turn: the segment stays, or the turn was taken anew.
use Rattle.std.proofs.Common.{◌≡◌, refl, ap, sym, ◌∙◌, ℕ, ◌≤◌, ◌+◌, Bool, true, false, ◌&&◌, List, [], ◌∷◌, ◌++◌, length, get_or, slice_get, Option, Some, All, cond, arith}
use Rattle.std.proofs.lemmas.Bool.{false_from_ne_true, false≢true}
use Rattle.std.proofs.lemmas.Option.{slice_get_within}
use Rattle.std.specs.List.{count_by}
use Rattle.sc_papers.specs.Matching.{how_many}
use Rattle.sc_papers.specs.Market.{Market, choices_of, students_of}
use Rattle.sc_papers.specs.Log.{next_choice, IsValidLog}
use Rattle.sc_papers.specs.Restriction.{joined}
use Rattle.sc_ledgers.specs.Cohort.{Cohort, cut, has_entered}
use Rattle.sc_papers.specs.declared.rejection.Rejection.{Rejection}
use Rattle.sc_papers.proofs.Cutting.{joined-push}
use Rattle.sc_ledgers.specs.Elsewhere.{is_aside, AreAtMarked, AreStances}
use Rattle.sc_ledgers.specs.Ledger.{log_at, AgreeBeside, AlikeBeside, AreMadeToo, HasAskedBy, StandsAt, Stays}
use Rattle.sc_ledgers.specs.Sweep.{is_amended, AreAmended, IsDue, IsRetaken, IsSwept}
use Rattle.sc_ledgers.specs.declared.elsewhere.Stance.{Stance}
use Rattle.sc_ledgers.specs.declared.ledger.Label.{Label}
use Rattle.sc_ledgers.proofs.Beside.{next-beside, still-aside}
use Rattle.sc_ledgers.proofs.Entry.{next-entering, next-unnamed}
use Rattle.sc_ledgers.proofs.Retaking.{absent-yet, rows-beside, turn-retaken}
use Rattle.sc_ledgers.proofs.Siding.{agree-from, aside-here, aside-there}
use Rattle.sc_ledgers.proofs.Staying.{agree-entered, agree-now, agree-then, log-after, none-named, turn-stays, valid-turn}
use Rattle.sc_ledgers.proofs.Cohorts.{entered-same, first-students, lister-entered, run-settled, well-cut}

-- a test that passes for those alone of whom both agree
same-passing : (a b test : Bool) → (test ≡ true → a ≡ b) → (a && test) ≡ (b && test)
same-passing a b true same = ap (λ x. x && true) (same refl)
same-passing a b false same = none a ∙ sym (none b)
  where
    none : (x : Bool) → (x && false) ≡ false
    none true = refl
    none false = refl

-- papers of the same students have as many of them
how-many-same : (m n : Market) (p : ℕ → Bool) → students_of n ≡ students_of m → how_many n p ≡ how_many m p
unfolding how_many
how-many-same m n p students = ap (count_by p) students

-- both papers are alike beside whoever has a stance, also with the first students alone
pub alike-cut : {m n : Cohort} {amended : Option ℕ} {before : List ℕ} {reseated marked : ℕ → Bool} {old : List (List Rejection)} (list : List Stance) → AreAmended m n amended before reseated old → ((j : ℕ) → is_amended amended j ≡ true → is_aside list j ≡ true) → ((s : ℕ) → reseated s ≡ true → marked s ≡ true) → (t : ℕ) → AlikeBeside (cut m t) (cut n t) marked (is_aside list)
alike-cut {m} {n} {amended} {before} {reseated} {marked} {old} list both held always t = record {
  counts = λ test beside.
      (first-students n t both.well_n).counts test
      ∙ ap (how_many n.papers) (λ u j. same-passing (has_entered n t j) (has_entered m t j) (test j) (λ is. entered j (beside j is)) u)
      ∙ how-many-same m.papers n.papers (λ j. has_entered m t j && test j) both.students
      ∙ sym ((first-students m t both.well_m).counts test);
  choices = λ j beside.
      (first-students n t both.well_n).choices j
      ∙ ap (λ b. cond b (choices_of n.papers j) []) (entered j beside)
      ∙ ap (λ xs. cond (has_entered m t j) xs []) (sym (both.rows j ∙ rows-beside n.papers amended before j (others j beside)))
      ∙ sym ((first-students m t both.well_m).choices j);
  seats = λ s unmarked. (first-students n t both.well_n).seats s ∙ both.seats s (not_reseated s unmarked) ∙ sym ((first-students m t both.well_m).seats s);
  ahead = λ s i j here there beside apart.
      let first_i = lister-entered m t i s both.well_m here in
      let first_j = lister-entered m t j s both.well_m there in
      (first-students n t both.well_n).ahead s i j (entered i beside ∙ first_i) (entered j apart ∙ first_j)
      ∙ both.ahead s i j (others i beside) (others j apart)
      ∙ sym ((first-students m t both.well_m).ahead s i j first_i first_j);
}
  where
    others : (j : ℕ) → is_aside list j ≡ false → is_amended amended j ≡ false
    others j beside = false_from_ne_true (is_amended amended j) (λ is. false≢true (sym beside ∙ held j is))

    not_reseated : (s : ℕ) → marked s ≡ false → reseated s ≡ false
    not_reseated s unmarked = false_from_ne_true (reseated s) (λ is. false≢true (sym unmarked ∙ always s is))

    entered : (j : ℕ) → is_aside list j ≡ false → has_entered n t j ≡ has_entered m t j
    entered j beside = entered-same m n t j both.students (both.entering j (others j beside) ∙ sym (both.all j))

module _ {m n : Cohort} {amended : Option ℕ} {before : List ℕ} {old new : List (List Rejection)} {k : ℕ} {labels : ℕ → List Label} {list : List Stance} {marked reseated : ℕ → Bool} (both : AreAmended m n amended before reseated old) (swept : IsSwept m n amended old new k labels list marked reseated) where
  new-valid : IsValidLog (cut n k) (joined new)
  new-valid = (run-settled n k new swept.newer).valid

  -- the logs agree beside whoever has a stance
  pub logs-agree : k ≤ length old → AgreeBeside (cut m k) (cut n k) (log_at old k) (joined new) marked (is_aside list)
  logs-agree low =
      agree-from (cut m k) (cut n k) (log_at old k) (joined new) list marked (is_amended amended) (well-cut m k both.well_m) (well-cut n k both.well_n) (both.older.settled k (omega (arith, low, both.older.one_each))).valid new-valid
      (λ j beside.
      (first-students n k both.well_n).choices j
      ∙ ap (λ b. cond b (choices_of n.papers j) []) (entered-same m n k j both.students (both.entering j beside ∙ sym (both.all j)))
      ∙ ap (λ xs. cond (has_entered m k j) xs []) (sym (both.rows j ∙ rows-beside n.papers amended before j beside))
      ∙ sym ((first-students m k both.well_m).choices j))
      swept.held swept.stances swept.at_marked

  -- the turn is due
  pub due-of : (i : ℕ) → slice_get (students_of n.papers) k ≡ Some i → IsDue m n amended before old new k i labels list
  due-of i here = record {
    well_m = both.well_m;
    well_n = both.well_n;
    here_m = ap (λ xs. slice_get xs k) (sym both.students) ∙ here;
    here_n = here;
    students = both.students;
    rows = both.rows;
    older = both.older;
    all = both.all;
    entering = both.entering;
    newer = swept.newer;
    as_many = swept.as_many;
    labels_before = swept.labels_before;
    labels_from = swept.labels_from;
    own = swept.own;
    others = swept.others;
    stances = swept.stances;
    held = swept.held;
    apart = swept.apart;
  }

  -- who enters has no stance yet
  pub not-aside : (i : ℕ) → slice_get (students_of n.papers) k ≡ Some i → is_amended amended i ≡ false → is_aside list i ≡ false
  not-aside i here beside = false_from_ne_true (is_aside list i) (λ is. let found = aside-there list i is in absent-yet (due-of i here) beside found.0 found.1 found.2)

  -- the logs agree still as they enter
  pub agree-next : (i : ℕ) (rest : List Rejection) → slice_get (students_of n.papers) k ≡ Some i → is_amended amended i ≡ false → slice_get old k ≡ Some rest → AgreeBeside (cut m (k + 1)) (cut n (k + 1)) (log_at old k) (joined new) marked (is_aside list)
  agree-next i rest here beside segment =
      let here_m : slice_get (students_of m.papers) k ≡ Some i = ap (λ xs. slice_get xs k) (sym both.students) ∙ here in
      agree-entered m n k i (log_at old k) (joined new) marked (is_aside list) both.well_m both.well_n here_m here (not-aside i here beside) (logs-agree (omega (arith, slice_get_within old k rest segment)))

  -- a segment that the new run makes too does not name who is amended
  pub unamended : (i : ℕ) (rest : List Rejection) → slice_get (students_of n.papers) k ≡ Some i → is_amended amended i ≡ false → slice_get old k ≡ Some rest → AreMadeToo (cut n (k + 1)) marked (is_aside list) (joined new) rest → All (λ e. is_amended amended e.student ≡ false) rest
  unamended i rest here beside segment made =
      let logs = agree-next i rest here beside segment in
      λ p d low. false_from_ne_true (is_amended amended (get_or rest p d).student) (λ is. none-named logs rest made (valid-turn m old k rest both.older segment) (get_or rest p d).student (swept.held (get_or rest p d).student is) p d low refl)

  -- its segment stays where the new run makes it too, and nobody came to stand at a marked school in it
  pub stays-of : (i : ℕ) (rest : List Rejection) → slice_get (students_of n.papers) k ≡ Some i → is_amended amended i ≡ false → slice_get old k ≡ Some rest → AreMadeToo (cut n (k + 1)) marked (is_aside list) (joined new) rest → ((j s : ℕ) → marked s ≡ true → StandsAt m old (k + 1) j s → HasAskedBy m old k j s) → Stays m n old new k i rest labels marked (is_aside list) (is_amended amended)
  stays-of i rest here beside segment made nobody = record {
    well_m = both.well_m;
    well_n = both.well_n;
    here_m = ap (λ xs. slice_get xs k) (sym both.students) ∙ here;
    here_n = here;
    turn_m = both.all i;
    turn_n = both.entering i beside;
    papers = alike-cut list both swept.held swept.always;
    amended_aside = swept.held;
    older = both.older;
    newer = swept.newer;
    as_many = swept.as_many;
    logs = logs-agree (omega (arith, slice_get_within old k rest segment));
    before = swept.labels_before;
    from = swept.labels_from;
    enters = not-aside i here beside;
    segment = segment;
    made_too = made;
    nobody = nobody;
  }

-- whoever has a stance stands where they stood
stances-stay : {m n : Cohort} {old new : List (List Rejection)} {k i : ℕ} {rest : List Rejection} {labels : ℕ → List Label} {marked amended : ℕ → Bool} {list : List Stance} → Stays m n old new k i rest labels marked (is_aside list) amended → AreStances (cut m k) (cut n k) (log_at old k) (joined new) list → AreStances (cut m (k + 1)) (cut n (k + 1)) (log_at old (k + 1)) (joined (new ++ rest ∷ [])) list
stances-stay {m} {n} {old} {new} {k} {i} {rest} {list = list} given stances =
    let valid = valid-turn m old k rest given.older given.segment in
    let logs = agree-now given in
    record {
      old = λ x here.
          let is = aside-here list x here in
          ap (λ l. next_choice (cut m (k + 1)) l x.student) (log-after old k rest given.segment)
          ∙ next-unnamed (cut m (k + 1)) (log_at old k) rest x.student (none-named logs rest given.made_too valid x.student is)
          ∙ next-entering m k i given.well_m given.here_m (log_at old k) x.student (λ same. false≢true (sym (ap (is_aside list) same ∙ given.enters) ∙ is))
          ∙ stances.old x here;
      new = λ x here.
          let is = aside-here list x here in
          ap (λ l. next_choice (cut n (k + 1)) l x.student) (joined-push new rest)
          ∙ still-aside logs rest given.made_too valid x.student is
          ∙ next-entering n k i given.well_n given.here_n (joined new) x.student (λ same. false≢true (sym (ap (is_aside list) same ∙ given.enters) ∙ is))
          ∙ stances.new x here;
      alike = λ j absent. next-beside (given.papers (k + 1)) (agree-then given) j (false_from_ne_true (is_aside list j) (λ is. let found = aside-there list j is in absent found.0 found.1 found.2));
    }

-- the segment stays
pub swept-stays : {m n : Cohort} {amended : Option ℕ} {old new : List (List Rejection)} {k i : ℕ} {rest : List Rejection} {labels : ℕ → List Label} {list : List Stance} {marked reseated : ℕ → Bool} → Stays m n old new k i rest labels marked (is_aside list) (is_amended amended) → IsSwept m n amended old new k labels list marked reseated → IsSwept m n amended old (new ++ rest ∷ []) (k + 1) labels list marked reseated
swept-stays {m} {n} {amended} {old} {new} {k} {i} {rest} {labels} {list} {marked} stays swept =
    let at = turn-stays stays in
    record {
      newer = at.newer;
      as_many = at.as_many;
      labels_before = at.before;
      labels_from = at.from;
      own = swept.own;
      others = λ s label here high. swept.others s label here (omega (arith, high));
      stances = stances-stay stays swept.stances;
      held = swept.held;
      apart = swept.apart;
      at_marked = swept.at_marked;
      always = swept.always;
    }

-- the turn was taken anew
pub swept-anew : {m n : Cohort} {amended : Option ℕ} {before : List ℕ} {old new : List (List Rejection)} {k i : ℕ} {chain : List Rejection} {labels now : ℕ → List Label} {list after : List Stance} {marked reseated : ℕ → Bool} → IsSwept m n amended old new k labels list marked reseated → IsDue m n amended before old new k i labels list → IsRetaken m n amended old new k chain labels now after → (marked' : ℕ → Bool) → AreAtMarked marked' after → ((s : ℕ) → reseated s ≡ true → marked' s ≡ true)
    → IsSwept m n amended old (new ++ chain ∷ []) (k + 1) now after marked' reseated
swept-anew {m} {n} {amended} {before} {old} {new} {k} {i} {chain} {labels} {now} {list} {after} swept due done marked' at always =
    let then = turn-retaken due done marked' at in
    record {
      newer = then.newer;
      as_many = then.as_many;
      labels_before = then.before;
      labels_from = then.from;
      own = done.ended.own;
      others = λ s label here high. swept.others s label (done.ended.relabels.others s label here (λ same. omega (arith, same, high))) (omega (arith, high));
      stances = done.stances;
      held = done.held;
      apart = done.apart;
      at_marked = at;
      always = always;
    }
