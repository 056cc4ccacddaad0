-- The course of a turn's chain.
use Rattle.std.proofs.Common.{◌≡◌, inr, refl, ap, sym, subst, ◌∙◌, ℕ, ◌<◌, ◌+◌, Bool, true, false, not, List, [], ◌∷◌, ◌++◌, length, slice_get, get_or, position, find, None, Some, Contains, ◌==◌, arith}
use Rattle.std.proofs.lemmas.Bool.{eq-eqb, eqb-true, false_from_ne_true, false≢true}
use Rattle.std.proofs.lemmas.List.{append-nil, append_assoc, length-append}
use Rattle.std.proofs.lemmas.List.Quantifiers.{position-Some}
use Rattle.sc_papers.proofs.Rejections.{find-agree}
use Rattle.std.proofs.lemmas.Bool.Decides.{nat_tests}
use Rattle.std.proofs.lemmas.Grind.{common_steps}
use Rattle.std.proofs.lemmas.List.Sums.{fails_before_first}
use Rattle.std.proofs.lemmas.Option.{get_or_from_slice_get, slice_get_within, slice_get-get_or}
use Rattle.sc_papers.specs.Market.{Market, choices_of, students_of}
use Rattle.sc_papers.specs.WellFormed.{WellFormed}
use Rattle.sc_papers.specs.Log.{is_rejected, next_choice, IsValidAfter, IsValidEntry, IsValidLog}
use Rattle.sc_papers.specs.Progress.{all_choices}
use Rattle.sc_papers.specs.Restriction.{joined}
use Rattle.sc_ledgers.specs.Cohort.{Cohort, cut, has_entered}
use Rattle.sc_papers.specs.declared.rejection.Rejection.{Rejection}
use Rattle.sc_papers.proofs.Progress.{log-bounded}
use Rattle.sc_papers.proofs.Restriction.{Restricts}
use Rattle.sc_papers.proofs.Standings.{next-moves, valid-rest}
use Rattle.sc_papers.proofs.Subsets.{next-passes, valid-grows}
use Rattle.sc_papers.proofs.Validity.{next-listed}
use Rattle.sc_ledgers.specs.Course.{Begins, Came, Course}
use Rattle.sc_ledgers.specs.declared.ledger.Label.{Label}
use Rattle.sc_ledgers.proofs.Running.{asked-nobody, turn-begins}
use Rattle.sc_ledgers.proofs.Staying.{log-new}
use Rattle.sc_ledgers.proofs.Cohorts.{choices-entered, entered-now, first-students, well-cut}

find-all : (xs : List ℕ) → find (λ s. true) xs ≡ slice_get xs 0
find-all [] = refl
find-all (x ∷ xs) = refl

pub first-choice : (m : Market) (log : List Rejection) (i : ℕ) → ((s : ℕ) → is_rejected log i s ≡ false) → next_choice m log i ≡ slice_get (choices_of m i) 0
unfolding next_choice
first-choice m log i none = find-agree (λ s. not (is_rejected log i s)) (λ s. true) (λ s. ap not (none s)) (choices_of m i) ∙ find-all (choices_of m i)

-- a student who has a next choice among the first ones has the same choices there
pub choices-first : (n : Cohort) (k : ℕ) (log : List Rejection) (j s : ℕ) → WellFormed n.papers → next_choice (cut n k) log j ≡ Some s → choices_of (cut n k) j ≡ choices_of n.papers j
choices-first n k log j s well next =
    let small : Restricts (cut n k) n.papers (has_entered n k) = first-students n k well in
    choices-entered n k j well (next-passes small log j s next)

pub course-begins : (n : Cohort) (new : List (List Rejection)) (k i : ℕ) (labels : ℕ → List Label) → Begins n new k labels → slice_get (students_of n.papers) k ≡ Some i → Course n new k (joined new ++ []) i 0 labels labels
course-begins n new k i labels begins here =
    subst (λ log. Course n new k log i 0 labels labels) (sym (append-nil (joined new))) (record {
      turn = turn-begins n new k i labels begins.well here (begins.turn i here) begins.newer begins.as_many begins.before begins.none;
      own = begins.own;
      next = first-choice (cut n (k + 1)) (joined new) i (λ s. false_from_ne_true (is_rejected (joined new) i s) (λ rejected. asked-nobody n new k i begins.well here begins.newer begins.as_many s (inr (subst (λ log. is_rejected log i s ≡ true) (sym (log-new new k begins.as_many)) rejected)))) ∙ ap (λ xs. slice_get xs 0) (choices-entered n (k + 1) i begins.well (entered-now n k i here (begins.turn i here)));
    })

pub valid-first : (m : Market) (log first rest : List Rejection) → IsValidAfter m log (first ++ rest) → IsValidAfter m log first
valid-first m log [] rest valid = tt
valid-first m log (e ∷ first) rest valid = (valid.0, valid-first m (log ++ e ∷ []) first rest valid.1)

-- where a school stands in a list
pub rank-there : (xs : List ℕ) (s rank : ℕ) → position (λ t. t == s) xs ≡ Some rank → slice_get xs rank ≡ Some s
rank-there xs s rank found =
    let parts = position-Some (λ t. t == s) xs rank s found in
    slice_get-get_or xs rank s parts.0 ∙ ap Some (eqb-true (get_or xs rank s) s parts.1)

-- whoever is rejected goes on with the choice after that
pub course-goes : (n : Cohort) (new : List (List Rejection)) (k : ℕ) (chain : List Rejection) (e : Rejection) (i rank : ℕ) (labels now : ℕ → List Label) → Begins n new k labels → Came n new k chain labels now (Some e) → i ≡ e.student → position (λ t. t == e.school) (choices_of n.papers e.student) ≡ Some rank → Course n new k (joined new ++ (chain ++ e ∷ [])) i (rank + 1) labels now
course-goes n new k chain e i rank labels now begins (turn, own, there) same at =
    let m = cut n (k + 1) in
    let log = joined new ++ chain in
    let valid : IsValidLog m (log ++ e ∷ []) = subst (IsValidLog m) (sym (append_assoc (joined new) chain (e ∷ []))) turn.asking.chain.valid in
    let entry : IsValidEntry m log e = (valid-rest m [] log (e ∷ []) valid).0 in
    let choices : choices_of m e.student ≡ choices_of n.papers e.student = choices-first n (k + 1) log e.student e.school begins.well there in
    subst (λ j. Course n new k (joined new ++ (chain ++ e ∷ [])) j (rank + 1) labels now) (sym same) (record {
      turn = turn;
      own = own;
      next = ap (λ l. next_choice m l e.student) (sym (append_assoc (joined new) chain (e ∷ [])))
          ∙ next-moves m (well-cut n (k + 1) begins.well) log e rank (valid-first m [] log (e ∷ []) valid) entry (ap (λ xs. slice_get xs rank) choices ∙ rank-there (choices_of n.papers e.student) e.school rank at)
          ∙ ap (λ xs. slice_get xs (rank + 1)) choices;
    })

-- and lists the school
pub came-listed : (n : Cohort) (new : List (List Rejection)) (k : ℕ) (chain : List Rejection) (e : Rejection) (labels now : ℕ → List Label) → Begins n new k labels → Came n new k chain labels now (Some e) → Contains (choices_of n.papers e.student) e.school
came-listed n new k chain e labels now begins (turn, own, there) =
    subst (λ xs. Contains xs e.school) (choices-first n (k + 1) (joined new ++ chain) e.student e.school begins.well there)
    (next-listed (cut n (k + 1)) (joined new ++ chain) e.student e.school there)

-- all students of the papers
themselves : (m : Market) → Restricts m m (λ j. true)
themselves m = record { choices = λ j. refl; seats = λ s. refl; ahead = λ s i j first second. refl; counts = λ p. refl }

-- a chain is no longer than there are choices
pub chain-bounded : (n : Cohort) (new : List (List Rejection)) (k : ℕ) (chain : List Rejection) (e : Rejection) (labels now : ℕ → List Label) → Begins n new k labels → Came n new k chain labels now (Some e) → length chain < all_choices n.papers
chain-bounded n new k chain e labels now begins (turn, own, there) = omega (
  arith,
  log-bounded n.papers begins.well (joined new ++ (chain ++ e ∷ [])) (valid-grows (first-students n (k + 1) begins.well) (themselves n.papers) (λ j kept. refl) [] (joined new ++ (chain ++ e ∷ [])) turn.asking.chain.valid),
  length-append (joined new) (chain ++ e ∷ []),
  length-append chain (e ∷ []),
)

pub position-none : (test : ℕ → Bool) (xs : List ℕ) (k x : ℕ) → position test xs ≡ None → slice_get xs k ≡ Some x → test x ≡ false
position-none test xs k x none here = grind (arith, nat_tests, common_steps, none, fails_before_first test xs k x, get_or_from_slice_get xs k x x here, slice_get_within xs k x here)

pub rank-found : (xs : List ℕ) (s : ℕ) → Contains xs s → position (λ t. t == s) xs ≡ None → ⊥
rank-found xs s (k, low, is) none =
    false≢true (sym (position-none (λ t. t == s) xs k s none (slice_get-get_or xs k s low ∙ ap Some is)) ∙ eq-eqb s s refl)
