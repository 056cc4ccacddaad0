-- A turn that is taken anew.
use Rattle.std.proofs.Common.{◌≡◌, inl, inr, refl, ap, sym, subst, ◌∙◌, ℕ, ◌<◌, ◌+◌, ◌==◌, Bool, true, false, ◌&&◌, ◌||◌, not, List, [], ◌∷◌, ◌++◌, length, slice_get, Option, Some, None, Contains, cond, arith}
use Rattle.std.proofs.lemmas.Bool.{cases_Bool, cond-false, cond-true, eqb-true, eq-eqb, false≢true}
use Rattle.std.proofs.lemmas.List.{append-nil, length-map}
use Rattle.std.proofs.lemmas.Option.{same_Some, slice_get_within}
use Rattle.sc_papers.specs.Market.{Market, choices_of, students_of}
use Rattle.sc_papers.specs.WellFormed.{WellFormed}
use Rattle.sc_papers.specs.Log.{next_choice, IsSettled, IsValidLog}
use Rattle.sc_papers.specs.Restriction.{is_among_first, joined}
use Rattle.sc_ledgers.specs.Cohort.{Cohort, cut, has_entered}
use Rattle.sc_papers.specs.declared.rejection.Rejection.{Rejection}
use Rattle.sc_papers.proofs.Cutting.{joined-push}
use Rattle.sc_ledgers.specs.Course.{AreStruck, Begins, Ended, HasNone, IsAfter}
use Rattle.sc_ledgers.specs.Elsewhere.{is_aside, is_same, old_row, AreAtMarked, AreStances, HasDropped, HasPut, HasRows, IsAbsent}
use Rattle.sc_ledgers.specs.Ledger.{log_at, AtTurn, Relabels}
use Rattle.sc_ledgers.specs.Sweep.{is_amended, IsDue, IsRetaken}
use Rattle.sc_ledgers.specs.declared.elsewhere.Stance.{Stance}
use Rattle.sc_ledgers.specs.declared.ledger.Label.{Label}
use Rattle.sc_ledgers.proofs.Changing.{turn-changes}
use Rattle.sc_ledgers.proofs.Beginning.{not-yet}
use Rattle.sc_ledgers.proofs.Entry.{next-first, stances-enter, stances-enter_apart, EntersBoth}
use Rattle.sc_papers.proofs.Subsets.{next-passes}
use Rattle.sc_ledgers.proofs.Siding.{agree-from, aside-here, kept-aside}
use Rattle.sc_ledgers.proofs.Stancing.{same-itself}
use Rattle.sc_ledgers.proofs.Staying.{log-new, log-whole}
use Rattle.sc_ledgers.proofs.Cohorts.{choices-entered, cut-none, entered-same, first-students, lister-entered, run-settled, well-cut}
use Rattle.sc_ledgers.proofs.Struck.{none-left, Strikes}

-- the rows of whoever is not amended
pub rows-beside : (n : Market) (amended : Option ℕ) (before : List ℕ) (j : ℕ) → is_amended amended j ≡ false → old_row n amended before j ≡ choices_of n j
rows-beside n None before j not_amended = refl
rows-beside n (Some i) before j not_amended = cond-false (i == j) before (choices_of n j) not_amended

module _ {m n : Cohort} {amended : Option ℕ} {before : List ℕ} {old new : List (List Rejection)} {k i : ℕ} {labels : ℕ → List Label} {list : List Stance} (due : IsDue m n amended before old new k i labels list) where
  within : k < length old
  within = omega (arith, due.older.one_each, slice_get_within (students_of m.papers) k i due.here_m)

  new-valid : IsValidLog (cut n k) (joined new)
  new-valid = (run-settled n k new due.newer).valid

  pub old-valid : IsValidLog (cut m k) (log_at old k)
  old-valid = (due.older.settled k (omega (arith, within, due.older.one_each))).valid

  pub both-enter : n.enters i ≡ true → EntersBoth m n k i (log_at old k) (joined new)
  both-enter turn = record {
    well_m = due.well_m;
    well_n = due.well_n;
    here_m = due.here_m;
    here_n = due.here_n;
    turn_m = due.all i;
    turn_n = turn;
    valid_m = old-valid;
    valid_n = new-valid;
  }

  -- the labels of the turns before are as they were once those of the turn are struck
  pub begins : (rest : List Rejection) (struck : ℕ → List Label) → n.enters i ≡ true → Strikes m n old new k i rest labels struck (is_amended amended) → Begins n new k struck
  begins rest struck turn strikes = record {
    well = due.well_n;
    within = subst (λ l. k < l) (length-map n.papers.students (λ e. e.0)) (slice_get_within (students_of n.papers) k i due.here_n);
    turn = λ j at. ap n.enters (same_Some j i (sym at ∙ due.here_n)) ∙ turn;
    newer = due.newer;
    as_many = due.as_many;
    before = record {
      exact = λ s label here low. due.labels_before.exact s label (strikes.strikes.only s label here) low;
      standing = λ t j s low stands.
          let found = due.labels_before.standing t j s low stands in
          (found.0, found.1, strikes.strikes.kept s _ found.2 (λ same. omega (arith, same, found.1, low)));
    };
    none = none-left strikes;
    own = λ s label here. due.own s label (strikes.strikes.only s label here);
  }

  -- where they enter no longer, nothing comes of their turn
  pub ends-left : (rest : List Rejection) (struck : ℕ → List Label) → n.enters i ≡ false → Strikes m n old new k i rest labels struck (is_amended amended) → Ended n new k [] struck struck
  ends-left rest struck left strikes =
      let same = cut-none n k i due.here_n left in
      let log : log_at (new ++ [] ∷ []) (k + 1) ≡ log_at new k = log-whole new [] k due.as_many ∙ joined-push new [] ∙ append-nil (joined new) ∙ sym (log-new new k due.as_many) in
      record {
        settled = subst (IsSettled (cut n (k + 1))) (sym (append-nil (joined new))) (subst (λ p. IsSettled p (joined new)) (sym same) (run-settled n k new due.newer));
        relabels = record {
          kept = λ s label here other unless. here;
          others = λ s label here other. here;
          own = λ s label here now. absurd (none-left strikes s label here now);
          noted = λ j s stands unasked. absurd (unasked (inl (ap (λ p. next_choice p (log_at new k) j) (sym same) ∙ ap (λ l. next_choice (cut n (k + 1)) l j) (sym log) ∙ stands)));
        };
        own = λ s label here. due.own s label (strikes.strikes.only s label here);
      }

-- both papers list the same of whoever is not amended, also with the first students alone
rows-cut : {m n : Cohort} {amended : Option ℕ} {before : List ℕ} {old new : List (List Rejection)} {k i : ℕ} {labels : ℕ → List Label} {list : List Stance} → IsDue m n amended before old new k i labels list → (j : ℕ) → is_amended amended j ≡ false → choices_of (cut n (k + 1)) j ≡ choices_of (cut m (k + 1)) j
rows-cut {m} {n} {amended} {before} {k = k} {i = i} due j beside =
    (first-students n (k + 1) due.well_n).choices j
    ∙ ap (λ b. cond b (choices_of n.papers j) []) (entered-same m n (k + 1) j due.students (due.entering j beside ∙ sym (due.all j)))
    ∙ ap (λ xs. cond (has_entered m (k + 1) j) xs []) (sym (due.rows j ∙ rows-beside n.papers amended before j beside))
    ∙ sym ((first-students m (k + 1) due.well_m).choices j)

-- what becomes of the labels in all
pub relabels-struck : (n : Cohort) (new : List (List Rejection)) (chain : List Rejection) (k : ℕ) (labels struck now : ℕ → List Label) → AreStruck k labels struck → Relabels n new chain k struck now → Relabels n new chain k labels now
relabels-struck n new chain k labels struck now strikes relabels = record {
  kept = λ s label here other asked. relabels.kept s label (strikes.kept s label here other) other asked;
  others = λ s label here other. strikes.only s label (relabels.others s label here other);
  own = relabels.own;
  noted = relabels.noted;
}

-- after the turn, whatever schools are marked at which the stances are
pub turn-retaken : {m n : Cohort} {amended : Option ℕ} {before : List ℕ} {old new : List (List Rejection)} {k i : ℕ} {chain : List Rejection} {labels now : ℕ → List Label} {list after : List Stance} → IsDue m n amended before old new k i labels list → IsRetaken m n amended old new k chain labels now after → (marked : ℕ → Bool) → AreAtMarked marked after
    → AtTurn m n old (new ++ chain ∷ []) (k + 1) now marked (is_aside after) (is_amended amended)
turn-retaken {m} {n} {amended} {before} {old} {new} {k} {i} {chain} {labels} {now} {list} {after} due done marked at =
    turn-changes {marked = marked} {aside = is_aside after} (record {
      well = due.well_n;
      here = due.here_n;
      newer = due.newer;
      as_many = due.as_many;
      before = due.labels_before;
      from = due.labels_from;
      settled = done.ended.settled;
      relabels = done.ended.relabels;
    })
    (agree-from (cut m (k + 1)) (cut n (k + 1)) (log_at old (k + 1)) (joined (new ++ chain ∷ [])) after marked (is_amended amended) (well-cut m (k + 1) due.well_m) (well-cut n (k + 1) due.well_n)
    (due.older.settled (k + 1) (omega (arith, due.older.one_each, slice_get_within (students_of m.papers) k i due.here_m))).valid
    (subst (IsValidLog (cut n (k + 1))) (sym (joined-push new chain)) done.ended.settled.valid)
    (rows-cut due) done.held done.stances at)

-- the rows of the run of the old papers, and of the new ones, among the first students
pub has-rows : (p : Cohort) (k : ℕ) (row : ℕ → List ℕ) → WellFormed p.papers → ((j : ℕ) → choices_of p.papers j ≡ row j) → HasRows (cut p k) row
has-rows p k row well rows j s listed = choices-entered p k j well (lister-entered p k j s well listed) ∙ rows j

-- one who has not entered stands nowhere
none-outside : (m : Cohort) (k i : ℕ) → WellFormed m.papers → has_entered m k i ≡ false → (log : List Rejection) → next_choice (cut m k) log i ≡ None
none-outside m k i well outside log = go (next_choice (cut m k) log i) refl
  where
    go : (next : Option ℕ) → next_choice (cut m k) log i ≡ next → next ≡ None
    go None is = refl
    go (Some s) is = absurd (false≢true (sym outside ∙ next-passes (first-students m k well) log i s is))

none-yet : (m : Cohort) (k i : ℕ) → WellFormed m.papers → slice_get (students_of m.papers) k ≡ Some i → (log : List Rejection) → next_choice (cut m k) log i ≡ None
none-yet m k i well here log = none-outside m k i well (not-yet m k i well here) log

none-left_out : (m : Cohort) (k i : ℕ) → WellFormed m.papers → m.enters i ≡ false → (log : List Rejection) → next_choice (cut m k) log i ≡ None
none-left_out m k i well left log = none-outside m k i well (ap (λ b. is_among_first m.papers k i && b) left ∙ none (is_among_first m.papers k i)) log
  where
    none : (b : Bool) → (b && false) ≡ false
    none true = refl
    none false = refl

module _ {m n : Cohort} {amended : Option ℕ} {before : List ℕ} {old new : List (List Rejection)} {k i : ℕ} {labels : ℕ → List Label} {list : List Stance} (due : IsDue m n amended before old new k i labels list) where
  -- and has no stance, unless they are amended
  pub absent-yet : is_amended amended i ≡ false → IsAbsent list i
  absent-yet beside x here same =
      due.apart x here (ap (is_amended amended) same ∙ beside)
      (sym (due.stances.new x here) ∙ ap (next_choice (cut n k) (joined new)) same ∙ none-yet n k i due.well_n due.here_n (joined new)
      ∙ sym (none-yet m k i due.well_m due.here_m (log_at old k)) ∙ ap (next_choice (cut m k) (log_at old k)) (sym same) ∙ due.stances.old x here)

  -- where one who is amended stands first
  pub first-now : (leaves : Bool) → n.enters i ≡ not (leaves && is_amended amended i) → is_amended amended i ≡ true → next_choice (cut n (k + 1)) (joined new) i ≡ cond leaves None (slice_get (choices_of n.papers i) 0)
  first-now true turn is = none-left_out n (k + 1) i due.well_n (turn ∙ ap not is) (joined new)
  first-now false turn is = next-first n k i due.well_n due.here_n turn (joined new) (both-enter due turn).valid_n

  -- the stances once the student has entered
  pub entered : (put : List Stance) (first : Option ℕ) → (is_amended amended i ≡ true → next_choice (cut n (k + 1)) (joined new) i ≡ first) → (is_amended amended i ≡ false → put ≡ list) → (is_amended amended i ≡ true → HasPut list put (record { student = i; old = slice_get before 0; new = first }))
      → AreStances (cut m (k + 1)) (cut n (k + 1)) (log_at old k) (joined new) put × ((j : ℕ) → is_amended amended j ≡ true → is_aside put j ≡ true)
  entered put first stands others theirs = elim (cases_Bool (is_amended amended i)) [
    | inr beside ↦ (
      subst (AreStances (cut m (k + 1)) (cut n (k + 1)) (log_at old k) (joined new)) (sym (others beside))
          (stances-enter m n k i (log_at old k) (joined new) list (both-enter due (due.entering i beside)) (sym (due.rows i ∙ rows-beside n.papers amended before i beside)) (absent-yet beside) due.stances),
      λ j is. ap (λ l. is_aside l j) (others beside) ∙ due.held j is,
    )
    | inl is ↦
        let puts = theirs is in (
          stances-enter_apart m n k i (log_at old k) (joined new) list put (record { student = i; old = slice_get before 0; new = first }) (record { well_m = due.well_m; well_n = due.well_n; here_m = due.here_m; here_n = due.here_n }) refl
              (next-first m k i due.well_m due.here_m (due.all i) (log_at old k) (old-valid due) ∙ ap (λ xs. slice_get xs 0) (due.rows i ∙ row-amended n.papers amended before i is)) (stands is) puts due.stances,
          λ j other. subst (λ x. is_aside put x ≡ true) (only-one amended i j is other) (aside-here put (record { student = i; old = slice_get before 0; new = first }) puts.there),
        )
  ]
    where
      only-one : (o : Option ℕ) (a b : ℕ) → is_amended o a ≡ true → is_amended o b ≡ true → a ≡ b
      only-one None a b is other = absurd (false≢true is)
      only-one (Some x) a b is other = sym (eqb-true x a is) ∙ eqb-true x b other

      row-amended : (n : Market) (o : Option ℕ) (before : List ℕ) (j : ℕ) → is_amended o j ≡ true → old_row n o before j ≡ before
      row-amended n None before j is = absurd (false≢true is)
      row-amended n (Some x) before j is = cond-true (x == j) before (choices_of n j) is

  -- what the turn left in the ledgers is struck
  pub strikes-of : (rest : List Rejection) (struck : ℕ → List Label) → slice_get old k ≡ Some rest → AreStruck k labels struck → ((s : ℕ) → slice_get (choices_of n.papers i) 0 ≡ Some s → HasNone n.papers k i s struck) → ((e : Rejection) (s : ℕ) → Contains rest e → IsAfter n.papers e s → HasNone n.papers k e.student s struck) → Strikes m n old new k i rest labels struck (is_amended amended)
  strikes-of rest struck at strikes first later = record {
    well = due.well_m;
    here = due.here_m;
    older = due.older;
    segment = at;
    from = due.labels_from;
    own = due.own;
    others = due.others;
    rows = λ j beside. sym (due.rows j ∙ rows-beside n.papers amended before j beside);
    strikes = strikes;
    first = first;
    later = later;
  }

-- whoever is left in the list stands elsewhere, but for the one who is amended
pub left-apart : (list kept : List Stance) (amended : Option ℕ) → HasDropped list kept amended → (x : Stance) → Contains kept x → is_amended amended x.student ≡ false → x.new ≡ x.old → ⊥
left-apart list kept amended dropped x here beside alike =
    false≢true (sym (ap (λ o. not (is_same x.old o) || is_same amended (Some x.student)) alike ∙ both (is_same x.old x.old) (is_same amended (Some x.student)) (same-itself x.old) beside) ∙ ap (λ o. not (is_same x.old o) || is_same amended (Some x.student)) refl ∙ dropped.apart x here)
  where
    both : (a b : Bool) → a ≡ true → b ≡ false → (not a || b) ≡ false
    both true b is other = other
    both false b is other = absurd (false≢true is)

-- whoever is amended is left there
pub left-held : (list kept : List Stance) (amended : Option ℕ) → HasDropped list kept amended → ((j : ℕ) → is_amended amended j ≡ true → is_aside list j ≡ true) → (j : ℕ) → is_amended amended j ≡ true → is_aside kept j ≡ true
left-held list kept None dropped held j is = absurd (false≢true is)
left-held list kept (Some i) dropped held j is = subst (λ x. is_aside kept x ≡ true) (eqb-true i j is) (kept-aside list kept i dropped (held i (eq-eqb i i refl)))
