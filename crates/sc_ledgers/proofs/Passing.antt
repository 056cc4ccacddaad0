-- A turn of a student outside the region is as it was.
use Rattle.std.proofs.Common.{◌≡◌, inl, inr, refl, ap, sym, subst, ◌∙◌, ℕ, ◌+◌, Bool, true, false, cond, List, [], ◌∷◌, ◌++◌, get_or, length, slice_get, Option, Some, All, Contains, arith}
use Rattle.std.proofs.lemmas.Bool.{false_from_ne_true, false≢true}
use Rattle.std.proofs.lemmas.List.{get_or_default}
use Rattle.std.proofs.lemmas.List.Elements.{All-cons, All-nil}
use Rattle.sc_papers.specs.Market.{students_of}
use Rattle.sc_papers.specs.WellFormed.{WellFormed}
use Rattle.sc_papers.specs.Log.{next_choice, IsValidAfter}
use Rattle.sc_papers.specs.Restriction.{entries_of, joined, AreApart}
use Rattle.sc_ledgers.specs.Cohort.{Cohort, cut}
use Rattle.sc_papers.specs.declared.rejection.Rejection.{Rejection}
use Rattle.sc_papers.proofs.Counting.{contains-cons}
use Rattle.sc_papers.proofs.Validity.{next-listed}
use Rattle.sc_weave.proofs.Part.{segment-fails}
use Rattle.sc_ledgers.specs.Elsewhere.{is_aside}
use Rattle.sc_ledgers.specs.Ledger.{log_at, HasAskedBy, StandsAt}
use Rattle.sc_ledgers.specs.Sweep.{is_amended, AreAmended, AreInside, IsSwept}
use Rattle.sc_ledgers.specs.declared.elsewhere.Stance.{Stance}
use Rattle.sc_ledgers.specs.declared.ledger.Label.{Label}
use Rattle.sc_ledgers.proofs.Beside.{unmarked-made}
use Rattle.sc_ledgers.proofs.Cohorts.{next-without, run-segments}
use Rattle.sc_ledgers.proofs.Coursing.{choices-first}
use Rattle.sc_ledgers.proofs.Entry.{next-unnamed}
use Rattle.sc_ledgers.proofs.Staying.{log-after, valid-turn}
use Rattle.sc_ledgers.proofs.Sweeping.{stays-of, swept-stays}

-- none of the entries is of the region
empty-cond : (b : Bool) (x : Rejection) (ys : List Rejection) → cond b (x ∷ ys) ys ≡ [] → (b ≡ false) × (ys ≡ [])
empty-cond true x ys none = absurd (omega (arith, ap length none))
empty-cond false x ys none = (refl, none)

pub none-of : (test : ℕ → Bool) (rest : List Rejection) → entries_of test rest ≡ [] → (e : Rejection) → Contains rest e → test e.student ≡ false
none-of test [] none e here = absurd (omega (arith, here.1))
none-of test (x ∷ rest) none e here =
    let parts = empty-cond (test x.student) x (entries_of test rest) none in
    elim (contains-cons x rest e here) [
      | inl same ↦ ap (λ (y : Rejection). test y.student) (sym same) ∙ parts.0
      | inr later ↦ none-of test rest parts.1 e later
    ]

-- so none of them names a marked school
names-none : (m : Cohort) (k : ℕ) (log rest : List Rejection) (test marked : ℕ → Bool) → WellFormed m.papers → AreInside m.papers test marked → entries_of test rest ≡ [] → IsValidAfter (cut m k) log rest → All (λ e. marked e.school ≡ false) rest
names-none m k log [] test marked well inside none valid = All-nil (λ e. marked e.school ≡ false)
names-none m k log (e ∷ rest) test marked well inside none valid =
    let parts = empty-cond (test e.student) e (entries_of test rest) none in
    All-cons (λ x. marked x.school ≡ false) e rest
    (false_from_ne_true (marked e.school) (λ is. false≢true (sym parts.0
    ∙ inside e.school e.student is (subst (λ xs. Contains xs e.school) (choices-first m k log e.student e.school well valid.0.next) (next-listed (cut m k) log e.student e.school valid.0.next)))))
    (names-none m k (log ++ e ∷ []) rest test marked well inside parts.1 valid.1)

-- and nobody came to stand at a marked school in the turn
nobody-came : (m : Cohort) (old : List (List Rejection)) (k i : ℕ) (rest : List Rejection) (test marked : ℕ → Bool) → WellFormed m.papers → slice_get (students_of m.papers) k ≡ Some i → slice_get old k ≡ Some rest → AreInside m.papers test marked → test i ≡ false → entries_of test rest ≡ []
    → (j s : ℕ) → marked s ≡ true → StandsAt m old (k + 1) j s → HasAskedBy m old k j s
nobody-came m old k i rest test marked well here segment inside apart none j s is stands =
    let now : next_choice (cut m (k + 1)) (log_at old k ++ rest) j ≡ Some s = subst (λ l. next_choice (cut m (k + 1)) l j ≡ Some s) (log-after old k rest segment) stands in
    let passes : test j ≡ true = inside s j is (subst (λ xs. Contains xs s) (choices-first m (k + 1) (log_at old k ++ rest) j s well now) (next-listed (cut m (k + 1)) (log_at old k ++ rest) j s now)) in
    let before : next_choice (cut m (k + 1)) (log_at old k) j ≡ Some s = sym (next-unnamed (cut m (k + 1)) (log_at old k) rest j (λ p d low same. false≢true (sym (none-of test rest none (get_or rest p d) (p, low, get_or_default rest p _ d low)) ∙ ap test same ∙ passes))) ∙ now in
    inl (next-without m k i well here (log_at old k) j s (λ it. false≢true (sym apart ∙ sym (ap test it) ∙ passes)) before)

-- the next turn begins as this one did
pub swept-passes : {m n : Cohort} {amended : Option ℕ} {before : List ℕ} {reseated marked : ℕ → Bool} {old new : List (List Rejection)} {k i : ℕ} {rest : List Rejection} {labels : ℕ → List Label} {list : List Stance} (test : ℕ → Bool) → AreAmended m n amended before reseated old → IsSwept m n amended old new k labels list marked reseated → AreApart m.papers test → AreInside m.papers test marked → ((j : ℕ) → is_amended amended j ≡ true → test j ≡ true) → slice_get (students_of n.papers) k ≡ Some i → slice_get old k ≡ Some rest → test i ≡ false
    → IsSwept m n amended old (new ++ rest ∷ []) (k + 1) labels list marked reseated
swept-passes {m} {n} {amended} {before} {reseated} {marked} {old} {new} {k} {i} {rest} {list = list} test both swept apart inside theirs here segment outside =
    let here_m : slice_get (students_of m.papers) k ≡ Some i = ap (λ xs. slice_get xs k) (sym both.students) ∙ here in
    let none : entries_of test rest ≡ [] = segment-fails m.papers test old k i rest both.well_m apart (run-segments m old both.well_m both.all both.older) here_m segment outside in
    swept-stays
    (stays-of both swept i rest here (false_from_ne_true (is_amended amended i) (λ is. false≢true (sym outside ∙ theirs i is))) segment
    (unmarked-made (cut n (k + 1)) marked (is_aside list) (joined new) rest (names-none m (k + 1) (log_at old k) rest test marked both.well_m inside none (valid-turn m old k rest both.older segment)))
    (nobody-came m old k i rest test marked both.well_m here_m segment inside outside none))
    swept
