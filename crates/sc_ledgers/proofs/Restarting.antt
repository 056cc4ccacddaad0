-- The turns of a region taken anew: how it begins, and what is known once they were taken.
use Rattle.std.proofs.Common.{◌≡◌, ◌⊎◌, zero, suc, inl, inr, refl, ap, sym, subst, ◌∙◌, ℕ, ◌≤◌, ◌<◌, ◌+◌, Bool, true, false, not, ◌&&◌, List, [], ◌∷◌, length, get_or, nat_eq, position, slice_get, Option, None, Some, Contains, IfSome, arith}
use Rattle.std.proofs.lemmas.Bool.{cases_lt, eqb-true, false≢true}
use Rattle.std.proofs.lemmas.List.{take_all}
use Rattle.std.proofs.lemmas.Option.{same_Some, slice_get-get_or}
use Rattle.sc_papers.specs.Key.{is_ahead, is_before, key_of}
use Rattle.sc_papers.specs.Market.{Market, schools_of, student_at, students_of}
use Rattle.sc_papers.specs.Restriction.{is_among_first, joined}
use Rattle.sc_papers.specs.declared.rejection.Rejection.{Rejection}
use Rattle.sc_papers.proofs.Cutting.{cut-all}
use Rattle.sc_checkpoint.specs.Chains.{logs_in}
use Rattle.sc_checkpoint.proofs.Replacing.{replaced-length}
use Rattle.sc_ledgers.specs.Anew.{is_reseated, EndsAnew, StartsAnew}
use Rattle.sc_ledgers.specs.Cohort.{cohort, cut, has_entered, IsRunTo}
use Rattle.sc_ledgers.specs.Course.{labels_of}
use Rattle.sc_ledgers.specs.Elsewhere.{cohort_of, is_same, still_enters, AreStances}
use Rattle.sc_ledgers.specs.Ends.{AreEndsTo, NamesNone}
use Rattle.sc_ledgers.specs.Ledger.{AreLabelsBefore, AreOwn}
use Rattle.sc_ledgers.specs.Marks.{flag_at, marked_in, FlagsPass, Marking}
use Rattle.sc_ledgers.specs.Opening.{everybody}
use Rattle.sc_ledgers.specs.Renewed.{anew, AreTurnsOf, IsUnderWay, Renewed}
use Rattle.sc_ledgers.specs.Sweep.{first_stances, is_amended, AreAmended, IsThroughout}
use Rattle.sc_ledgers.specs.declared.elsewhere.Stance.{Stance}
use Rattle.sc_ledgers.specs.declared.following.Rows.{Rows}
use Rattle.sc_ledgers.specs.declared.ledger.Label.{Label}
use Rattle.sc_ledgers.specs.declared.opened.Ledgers.{Ledgers}
use Rattle.sc_ledgers.proofs.Along.{IsOver}
use Rattle.sc_ledgers.proofs.Retaking.{rows-beside}
use Rattle.sc_ledgers.proofs.TurnEnds.{ends-beside, turn-entered}
use Rattle.sc_ledgers.proofs.Beginnings.{only-first, starts-at, sweep-starts, Rewinds}
use Rattle.sc_ledgers.proofs.Cohorts.{cut-everybody, entered-now}

-- the school whose seats were changed is at its place
pub reseated-at : (m : Market) (place : Option ℕ) (s : ℕ) → is_reseated m place s ≡ true → (p : ℕ) × (position (nat_eq s) (schools_of m) ≡ Some p) × (place ≡ Some p)
reseated-at m None s is = absurd (false≢true is)
reseated-at m (Some p) s is = (p, same-places (position (nat_eq s) (schools_of m)) (Some p) is, refl)
  where
    same-places : (a b : Option ℕ) → is_same a b ≡ true → a ≡ b
    same-places None None same = refl
    same-places None (Some t) same = absurd (false≢true same)
    same-places (Some s) None same = absurd (false≢true same)
    same-places (Some s) (Some t) same = ap Some (eqb-true s t same)

not-in-none : (p : ℕ) → Contains [] p → ⊥
not-in-none p (k, low, is) = omega (arith, low)

-- students with the same keys are ahead of the same ones
same-ahead : (m n : Market) (s i j : ℕ) → key_of n i s ≡ key_of m i s → key_of n j s ≡ key_of m j s → is_ahead n s i j ≡ is_ahead m s i j
unfolding is_ahead
same-ahead m n s i j one other = ap (λ k. is_before k (key_of n j s)) one ∙ ap (is_before (key_of m i s)) other

module _ {m : Market} {rows : Rows} {test inner : ℕ → Bool} {old : List (List Rejection)} {point : ℕ} {labels started : ℕ → List Label} {kept : List (Option ℕ)} {positions : List ℕ} {place : Option ℕ} (given : StartsAnew m rows test inner old point labels started kept positions place) where
  pub count-of : length old ≡ length (students_of rows.papers.now)
  count-of = given.whole.run.one_each ∙ ap (λ (xs : List ℕ). length xs) (sym given.students)

  pub amended : AreAmended (cohort m everybody) (cohort_of rows) rows.amended rows.before.now (is_reseated rows.papers.now place) old
  amended = record {
    well_m = given.well_formed;
    well_n = given.well_new;
    students = given.students;
    schools = given.schools;
    rows = given.choices;
    seats = given.seats;
    ahead = λ s i j beside apart. same-ahead m rows.papers.now s i j (given.keys i s beside) (given.keys j s apart);
    older = given.whole.run;
    all = λ j. refl;
    entering = λ j beside. enters j beside;
  }
    where
      enters : (j : ℕ) → is_amended rows.amended j ≡ false → still_enters rows j ≡ true
      enters j beside = ap (λ b. not (rows.leaves && b)) beside ∙ ap not (and-false rows.leaves)
        where
          and-false : (b : Bool) → (b && false) ≡ false
          and-false true = refl
          and-false false = refl

  -- the labels that are left are the students' own by the new papers
  pub own-started : AreOwn rows.papers.now started
  own-started s label here = given.whole.own s label (given.only s label here) ∙ sym (given.keys label.key.student s (given.gone s label here))

  -- the papers of all turns are the whole ones
  pub cut-whole : cut (cohort m everybody) (length old) ≡ m
  cut-whole = cut-everybody (cohort m everybody) (length old) given.well_formed (λ j. refl) ∙ cut-all m (length old) (omega (arith, given.whole.run.one_each))

  pub rewinds : Rewinds (cohort m everybody) rows old point labels started
  rewinds = record {
    well_m = given.well_formed;
    well_n = given.well_new;
    students = given.students;
    older = given.whole.run;
    all = λ j. refl;
    within = given.within;
    alike = given.alike;
    first = given.first;
    whole = given.whole.before;
    turns = given.whole.turns;
    kept = given.kept;
    only = given.only;
    keys = given.keys;
  }

  -- no turn before the point names who is amended
  earlier-beside : (t : ℕ) → t < point → t < length old → NamesNone rows.amended (student_at m t) (get_or old t [])
  earlier-beside t early low =
      let first : (j : ℕ) → has_entered (cohort m everybody) (t + 1) j ≡ true → is_amended rows.amended j ≡ false = λ j entered. given.first (t + 1) j (omega (arith, early)) (first-of (is_among_first m (t + 1) j) entered) in
      let here : slice_get (students_of m) t ≡ Some (student_at m t) = slice_get-get_or (students_of m) t 0 (omega (arith, low, given.whole.run.one_each)) in (
        first (student_at m t) (entered-now (cohort m everybody) t (student_at m t) here refl),
        λ p d high. first (get_or (get_or old t []) p d).student (turn-entered (cohort m everybody) (length (students_of m)) old t given.well_formed given.whole.run low p d high),
      )
    where
      first-of : (first : Bool) → (first && true) ≡ true → first ≡ true
      first-of true entered = refl
      first-of false entered = absurd (false≢true entered)

  -- so where each turn ended is told by the new papers, but for those that name them
  pub ended-beside : AreEndsTo rows.papers.now rows.amended old point kept
  ended-beside =
      ends-beside m rows.papers.now rows.amended point old kept given.students given.schools (λ j beside. sym (given.choices j ∙ rows-beside rows.papers.now rows.amended rows.before.now j beside)) earlier-beside given.ended

contains-cases : (first : ℕ) (rest : List ℕ) (p : ℕ) → Contains (first ∷ rest) p → (first ≡ p) ⊎ Contains rest p
contains-cases first rest p (zero, low, is) = inl is
contains-cases first rest p (suc k, low, is) = inr (k, omega (arith, low), is)

-- the school at the place is marked throughout
throughout-at : (m : Market) (place : Option ℕ) (marks : Marking) → marks.always ≡ place → IsThroughout m marks (is_reseated m place)
throughout-at m place marks always s is = let (p, at, there) = reseated-at m place s is in (p, at, always ∙ there)

reseated-marked : (m : Market) (place : ℕ) (flags : List Bool) → get_or flags place false ≡ true → (s : ℕ) → is_reseated m (Some place) s ≡ true → marked_in m flags s ≡ true
reseated-marked m place flags is s reseated = let (p, at, there) = reseated-at m (Some place) s reseated in ap (flag_at flags) at ∙ ap (λ q. get_or flags q false) (sym (same_Some place p there)) ∙ is

reseated-all : (m : Market) (place : Option ℕ) (flags : List Bool) → IfSome place (λ p. get_or flags p false ≡ true) → (s : ℕ) → is_reseated m place s ≡ true → marked_in m flags s ≡ true
reseated-all m None flags at s is = absurd (false≢true is)
reseated-all m (Some p) flags at s is = reseated-marked m p flags at s is

-- the sweep begins
pub begins : {m : Market} {rows : Rows} {test inner : ℕ → Bool} {old : List (List Rejection)} {point : ℕ} {labels : ℕ → List Label} {positions : List ℕ} {place : Option ℕ} (ledgers : Ledgers) (marks : Marking) → StartsAnew m rows test inner old point labels (labels_of rows.papers.now ledgers.schools.items) ledgers.ends positions place
    → marks.always ≡ place → IfSome place (λ p. get_or marks.flags p false ≡ true) → FlagsPass (λ p. inner (get_or (schools_of rows.papers.now) p 0)) marks.flags
    → IsUnderWay (cohort m everybody) rows (is_reseated rows.papers.now place) test inner old (record { positions = []; chains = [] }) ledgers (first_stances rows.amended) marks positions
begins {m} {rows} {test} {inner} {old} {point} {labels} {positions} {place} ledgers marks given always marked passes = (
  point,
  record {
    both = amended given;
    region = given.region;
    swept = sweep-starts rows marks (starts-at (rewinds given) (marked_in rows.papers.now marks.flags)) (own-started given) given.gone (reseated-all rows.papers.now place marks.flags marked);
    ended = ended-beside given;
    throughout = throughout-at rows.papers.now place marks always;
    inside = record {
      among = λ x here. given.region.theirs x.student (first-amended rows.amended x here);
      marked = passes;
      one = subst (λ o. IfSome o (λ p. inner (get_or (schools_of rows.papers.now) p 0) ≡ true)) (sym always) given.inside;
    };
    as_many = refl;
    before = λ p here. absurd (not-in-none p here);
  },
  given.turns,
)
  where
    first-amended : (who : Option ℕ) (x : Stance) → Contains (first_stances who) x → is_amended who x.student ≡ true
    first-amended who x here = (only-first who x here).0

-- and once no turn is left, the segments are those of the new papers
pub ends : {m : Market} {rows : Rows} {test inner : ℕ → Bool} {old : List (List Rejection)} {point : ℕ} {labels started : ℕ → List Label} {kept : List (Option ℕ)} {positions : List ℕ} {place : Option ℕ} {renewed : Renewed} {ledgers : Ledgers} {list : List Stance} {marks : Marking} → StartsAnew m rows test inner old point labels started kept positions place
    → IsOver (cohort m everybody) rows (is_reseated rows.papers.now place) test old renewed ledgers list marks → ((p : ℕ) → Contains renewed.positions p → Contains positions p)
    → EndsAnew m rows test old point renewed (labels_of rows.papers.now ledgers.schools.items) ledgers.ends list
ends {m} {rows} {test} {inner} {old} {point} {labels} {started} {kept} {positions} {place} {renewed} {ledgers} {list} {marks} given over theirs =
    let new = anew old renewed in
    let count : length old ≡ length (students_of rows.papers.now) = count-of given in
    let many : length new ≡ length old = replaced-length old renewed.positions (logs_in renewed.chains) in
    record {
      whole = record {
        run = subst (λ k. IsRunTo (cohort_of rows) k new) count over.swept.newer;
        before = subst (λ k. AreLabelsBefore (cohort_of rows) new k (labels_of rows.papers.now ledgers.schools.items)) (sym many) over.swept.labels_before;
        turns = λ s label here. subst (λ k. label.turn < k) (sym many) (elim (cases_lt label.turn (length old)) [
          | inl low ↦ low
          | inr high ↦ (over.swept.labels_from.exact s label here high).0
        ]);
        own = over.swept.own;
      };
      ended = over.ended;
      one_each = over.one_each;
      later = λ p here. (turns-within rows.papers.now test point (length old) positions given.turns p (theirs p here)).0;
      within = over.below;
      stances = subst (λ p. AreStances p (cut (cohort_of rows) (length old)) (joined old) (joined new) list) (cut-whole given)
          (subst (λ l. AreStances (cut (cohort m everybody) (length old)) (cut (cohort_of rows) (length old)) l (joined new) list) (ap joined (take_all (length old) old (omega arith))) over.swept.stances);
      theirs = over.swept.held;
      among = over.among;
    }
  where
    turns-within : (n : Market) (passing : ℕ → Bool) (from end : ℕ) (turns : List ℕ) → AreTurnsOf n passing from end turns → (p : ℕ) → Contains turns p → (from ≤ p) × (p < end)
    turns-within n passing from end [] are p here = absurd (not-in-none p here)
    turns-within n passing from end (q ∷ turns) (low, high, between, is, rest) p here = elim (contains-cases q turns p here) [
      | inl same ↦ (subst (λ r. from ≤ r) same low, subst (λ r. r < end) same high)
      | inr later ↦ let (more, less) = turns-within n passing (q + 1) end turns rest p later in (omega (arith, low, more), less)
    ]
