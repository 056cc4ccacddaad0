-- A turn is taken, and the marks follow.
use Rattle.std.proofs.Common.{◌≡◌, inl, inr, refl, ap, sym, subst, ◌∙◌, ℕ, ◌<◌, ◌+◌, Bool, not, true, false, List, [], ◌++◌, drop, take, length, get_or, nat_eq, position, slice_get, Option, Some, None, All, Contains, IfSome, arith}
use Rattle.std.proofs.lemmas.Bool.{false≢true}
use Rattle.std.proofs.lemmas.List.{get_or_default, take-append-drop}
use Rattle.std.proofs.lemmas.Option.{get_or_from_slice_get, slice_get_within}
use Rattle.sc_papers.specs.Market.{Market, choices_of, schools_of, students_of}
use Rattle.sc_papers.specs.WellFormed.{WellFormed}
use Rattle.sc_papers.specs.Log.{next_choice, IsSettled, IsValidAfter}
use Rattle.sc_papers.specs.Chain.{InChain}
use Rattle.sc_papers.specs.declared.rejection.Rejection.{Rejection}
use Rattle.sc_papers.proofs.Chain.{chain-begins}
use Rattle.sc_papers.proofs.Positions.{position-there, school-position}
use Rattle.sc_papers.proofs.Students.{choice-known}
use Rattle.sc_papers.proofs.Validity.{next-listed}
use Rattle.sc_ledgers.specs.Cohort.{Cohort, cut, has_entered}
use Rattle.sc_ledgers.specs.Course.{AreTogether}
use Rattle.sc_ledgers.specs.Ends.{place_of}
use Rattle.sc_ledgers.specs.Elsewhere.{is_aside, AreAmong, AreAtMarked, AreStances}
use Rattle.sc_ledgers.specs.Ledger.{log_at, AreMadeToo, HasAskedBy, IsRefusedToo, StandsAt}
use Rattle.sc_ledgers.specs.Marks.{flag_at, marked_in, IsNamed, Marking, MarksFollow}
use Rattle.sc_ledgers.specs.Proposals.{end_of}
use Rattle.sc_papers.specs.Restriction.{entries_of, joined, outside, AreApart}
use Rattle.sc_weave.proofs.Part.{segment-fails}
use Rattle.sc_ledgers.specs.Sweep.{is_amended, AreAmended, IsNext, IsRegion, IsSwept, IsThroughout}
use Rattle.sc_ledgers.specs.declared.elsewhere.Stance.{Stance}
use Rattle.sc_ledgers.specs.declared.ledger.Label.{Label}
use Rattle.sc_ledgers.proofs.Beside.{made-join, unmarked-made}
use Rattle.sc_ledgers.proofs.Cohorts.{choices-entered, cut-entered, cut-one, lister-entered, run-segments, run-settled}
use Rattle.sc_ledgers.proofs.Coursing.{valid-first}
use Rattle.sc_ledgers.proofs.Ending.{came-at-end}
use Rattle.sc_ledgers.proofs.Passing.{none-of}
use Rattle.sc_ledgers.proofs.Retaking.{rows-beside}
use Rattle.sc_ledgers.proofs.Refusing.{before-asking, front-made, IsRefusing, Refuses}
use Rattle.sc_ledgers.proofs.Running.{none-before}
use Rattle.sc_ledgers.proofs.Staying.{has_asked, valid-turn}
use Rattle.sc_ledgers.proofs.Sweeping.{agree-next, alike-cut, not-aside, unamended}
use Rattle.sc_ledgers.proofs.TurnEnds.{end-beside}

-- of a turn's entries the first come of the new run too, and the others name no marked school: all come of it
pub rest-made : {m n : Cohort} {amended : Option ℕ} {before : List ℕ} {reseated marked : ℕ → Bool} {old new : List (List Rejection)} {k : ℕ} {labels : ℕ → List Label} {list : List Stance} → AreAmended m n amended before reseated old → IsSwept m n amended old new k labels list marked reseated → (i : ℕ) (rest : List Rejection) (p : ℕ) → slice_get (students_of n.papers) k ≡ Some i → is_amended amended i ≡ false → slice_get old k ≡ Some rest → All (IsRefusedToo n.papers marked labels k i) (take p rest) → All (λ e. marked e.school ≡ false) (drop p rest) → AreMadeToo (cut n (k + 1)) marked (is_aside list) (joined new) rest
rest-made {m} {n} {amended} {before} {reseated} {marked} {old} {new} {k} {labels} {list} both swept i rest p here beside segment refused later =
    let turn : n.enters i ≡ true = both.entering i beside in
    let front : List Rejection = take p rest in
    let valid : IsValidAfter (cut m (k + 1)) (log_at old k) (front ++ drop p rest) = subst (IsValidAfter (cut m (k + 1)) (log_at old k)) (sym (take-append-drop p rest)) (valid-turn m old k rest both.older segment) in
    let given : Refuses (cut m (k + 1)) n k i labels marked (is_aside list) = record {
      well = both.well_n;
      papers = alike-cut list both swept.held swept.always (k + 1);
      own = swept.own;
      none = none-before n new k i labels both.well_n here swept.newer swept.as_many swept.labels_before;
      beside = not-aside both swept i here beside;
    } in
    let begins : IsRefusing (cut m (k + 1)) n k i labels marked (is_aside list) (log_at old k) (joined new) = record {
      logs = agree-next both swept i rest here beside segment;
      chain = subst (λ x. InChain x (joined new) i) (sym (cut-one n k i here turn)) (chain-begins n.papers (has_entered n k) i (joined new) (subst (λ x. IsSettled x (joined new)) (cut-entered n k) (run-settled n k new swept.newer)));
      asking = before-asking n new k i labels both.well_n here turn swept.newer swept.as_many swept.labels_before;
    } in
    subst (AreMadeToo (cut n (k + 1)) marked (is_aside list) (joined new)) (take-append-drop p rest)
    (made-join (cut n (k + 1)) marked (is_aside list) (joined new) front (drop p rest)
    (front-made given front (log_at old k) (joined new) begins (valid-first (cut m (k + 1)) (log_at old k) front (drop p rest) valid) refused)
    (unmarked-made (cut n (k + 1)) marked (is_aside list) (joined new ++ front) (drop p rest) later))

-- where a turn ended at no marked place, it ended at no marked school
pub unended : (m : Market) (flags : List Bool) (found end : Option ℕ) → end ≡ place_of m found → IfSome end (λ place. get_or flags place false ≡ false) → IfSome found (λ s. marked_in m flags s ≡ false)
unended m flags None end is told = tt
unended m flags (Some s) end is told = go (position (nat_eq s) (schools_of m)) (subst (λ o. IfSome o (λ place. get_or flags place false ≡ false)) is told)
  where
    go : (place : Option ℕ) → IfSome place (λ p. get_or flags p false ≡ false) → flag_at flags place ≡ false
    go None none = refl
    go (Some p) none = none

-- where such a turn ended at no marked school, nobody came to stand at one in it
pub nobody-marked : {m n : Cohort} {amended : Option ℕ} {before : List ℕ} {reseated marked : ℕ → Bool} {old new : List (List Rejection)} {k : ℕ} {labels : ℕ → List Label} {list : List Stance} → AreAmended m n amended before reseated old → IsSwept m n amended old new k labels list marked reseated → (i : ℕ) (rest : List Rejection) (p : ℕ) → slice_get (students_of n.papers) k ≡ Some i → is_amended amended i ≡ false → slice_get old k ≡ Some rest → All (IsRefusedToo n.papers marked labels k i) (take p rest) → All (λ e. marked e.school ≡ false) (drop p rest) → AreMadeToo (cut n (k + 1)) marked (is_aside list) (joined new) rest → IfSome (end_of n.papers i rest) (λ s. marked s ≡ false) → (j s : ℕ) → marked s ≡ true → StandsAt m old (k + 1) j s → HasAskedBy m old k j s
nobody-marked {m} {n} {amended} {before} {reseated} {marked} {old} {new} {k} {labels} {list} both swept i rest p here beside segment refused later made unended j s is stands = elim (has_asked (cut m k) (log_at old k) j s) [
  | inl asked ↦ asked
  | inr unasked ↦
      let here_m : slice_get (students_of m.papers) k ≡ Some i = ap (λ xs. slice_get xs k) (sym both.students) ∙ here in
      let ended : end_of m.papers i rest ≡ Some s = came-at-end m (length (students_of m.papers)) old k i j s rest (take p rest) (drop p rest) both.well_m here_m (both.all i) both.older segment (take-append-drop p rest) (λ q d low. (refused q d low).0) (λ q d low it. false≢true (sym (later q d low) ∙ ap marked it ∙ is)) stands unasked in
      let rows : (x : ℕ) → is_amended amended x ≡ false → choices_of n.papers x ≡ choices_of m.papers x = λ x other. sym (both.rows x ∙ rows-beside n.papers amended before x other) in
      let others = unamended both swept i rest here beside segment made in
      let ends : end_of n.papers i rest ≡ Some s = end-beside m.papers n.papers i rest (rows i beside) (λ q d low. rows (get_or rest q d).student (others q d low)) ∙ ended in
      absurd (false≢true (sym (subst (λ found. IfSome found (λ t. marked t ≡ false)) ends unended) ∙ is))
]

-- where the marks follow, the school that is marked throughout is marked
pub throughout-follow : (m : Market) (list : List Stance) (old new : Marking) (reseated : ℕ → Bool) → MarksFollow m list old new → IsThroughout m old reseated → record { still : IsThroughout m new reseated; always : (s : ℕ) → reseated s ≡ true → marked_in m new.flags s ≡ true }
throughout-follow m list old new reseated follows throughout = record {
  still = λ s is.
      let (p, at, always) = throughout s is in
      (p, at, follows.always ∙ always);
  always = λ s is.
      let (p, at, always) = throughout s is in
      ap (flag_at new.flags) at ∙ subst (λ found. IfSome found (λ q. get_or new.flags q false ≡ true)) always follows.one;
}

-- and the stances stand at marked schools
pub at-marked : (m : Market) (list : List Stance) (old new : Marking) → MarksFollow m list old new → AreAtMarked (marked_in m new.flags) list
at-marked m list old new follows = record {
  old = λ x s here is. follows.named s (x, here, inl is);
  new = λ x s here is. follows.named s (x, here, inr is);
}

-- where a student stands is a school of their list, and of the papers
stands-listed : (m : Cohort) (k : ℕ) (log : List Rejection) (j s : ℕ) → WellFormed m.papers → next_choice (cut m k) log j ≡ Some s → Contains (choices_of m.papers j) s
stands-listed m k log j s well next =
    let listed : Contains (choices_of (cut m k) j) s = next-listed (cut m k) log j s next in
    subst (λ xs. Contains xs s) (choices-entered m k j well (lister-entered m k j s well listed)) listed

stands-known : (m : Cohort) (k : ℕ) (log : List Rejection) (j s : ℕ) → WellFormed m.papers → next_choice (cut m k) log j ≡ Some s → Contains (schools_of m.papers) s
stands-known m k log j s well next =
    let (p, at) = school-position m.papers s (choice-known m.papers well j s (stands-listed m k log j s well next)) in
    let there : slice_get (schools_of m.papers) p ≡ Some s = position-there (schools_of m.papers) s p at in
    (p, slice_get_within (schools_of m.papers) p s there, get_or_from_slice_get (schools_of m.papers) p s s there)

-- so is each school that the stances name
pub named-known : {m n : Cohort} {amended : Option ℕ} {before : List ℕ} {reseated : ℕ → Bool} {old : List (List Rejection)} → AreAmended m n amended before reseated old → (k : ℕ) (log other : List Rejection) (list : List Stance) → AreStances (cut m k) (cut n k) log other list → (s : ℕ) → IsNamed list s → Contains (schools_of n.papers) s
named-known {m} {n} both k log other list stances s (x, here, stands) = elim stands [
  | inl was ↦ subst (λ xs. Contains xs s) (sym both.schools) (stands-known m k log x.student s both.well_m (stances.old x here ∙ was))
  | inr is ↦ stands-known n k other x.student s both.well_n (stances.new x here ∙ is)
]

-- the turn has a student
pub turn-within : {m n : Cohort} {amended : Option ℕ} {before : List ℕ} {reseated : ℕ → Bool} {old new : List (List Rejection)} {k : ℕ} {segment : List Rejection} {labels : ℕ → List Label} {list : List Stance} {marks : Marking} → IsNext m n amended before reseated old new k segment labels list marks → k < length (students_of n.papers)
turn-within {m} {n} {old = old} {k = k} {segment = segment} next = omega (arith, slice_get_within old k segment next.here, next.both.older.one_each, ap length next.both.students)

-- the schools that the stances name are in the region
pub named-inner : {m n : Cohort} {amended : Option ℕ} {before : List ℕ} {reseated test inner : ℕ → Bool} {old : List (List Rejection)} → AreAmended m n amended before reseated old → IsRegion m.papers n.papers amended test inner → (k : ℕ) (log other : List Rejection) (list : List Stance) → AreStances (cut m k) (cut n k) log other list → AreAmong test list → (s p : ℕ) → IsNamed list s → position (nat_eq s) (schools_of n.papers) ≡ Some p → inner (get_or (schools_of n.papers) p 0) ≡ true
named-inner {m} {n} {test = test} {inner = inner} both region k log other list stances among s p (x, here, stands) at =
    ap inner (get_or_from_slice_get (schools_of n.papers) p s 0 (position-there (schools_of n.papers) s p at))
    ∙ elim stands [
      | inl was ↦ region.old x.student s (stands-listed m k log x.student s both.well_m (stances.old x here ∙ was))
      | inr is ↦ region.new x.student s (stands-listed n k other x.student s both.well_n (stances.new x here ∙ is))
    ]
    ∙ among x here

-- the entries of a turn of the region are of its students
pub segment-inside : {m n : Cohort} {amended : Option ℕ} {before : List ℕ} {reseated : ℕ → Bool} {old : List (List Rejection)} (test inner : ℕ → Bool) → AreAmended m n amended before reseated old → AreTogether m.papers test inner → (k i : ℕ) (rest : List Rejection) → slice_get (students_of m.papers) k ≡ Some i → slice_get old k ≡ Some rest → test i ≡ true → All (λ e. test e.student ≡ true) rest
segment-inside {m} {old = old} test inner both together k i rest here segment is j d low =
    let x : Rejection = get_or rest j d in
    not-outside (test x.student) (none-of (outside test) rest none x (j, low, get_or_default rest j x d low))
  where
    not-outside : (b : Bool) → not b ≡ false → b ≡ true
    not-outside true told = refl
    not-outside false told = absurd (false≢true (sym told))

    apart : AreApart m.papers (outside test)
    apart = record {
      none_shared = λ a b s out within first second. false≢true (sym (sided (test a) out) ∙ sym (together a s first) ∙ together b s second ∙ not-outside (test b) within);
    }
      where
        sided : (b : Bool) → not b ≡ true → b ≡ false
        sided true told = absurd (false≢true told)
        sided false told = refl

    none : entries_of (outside test) rest ≡ []
    none = segment-fails m.papers (outside test) old k i rest both.well_m apart (run-segments m old both.well_m both.all both.older) here segment (ap not is)
