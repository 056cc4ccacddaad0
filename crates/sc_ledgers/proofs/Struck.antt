-- Once what a turn left is struck, no label of it is left.
use Rattle.std.proofs.Common.{◌≡◌, ◌⊎◌, inl, inr, refl, ap, sym, subst, ◌∙◌, ℕ, ◌≤◌, ◌+◌, Bool, false, List, [], ◌∷◌, ◌++◌, length, slice_get, position, Option, None, Some, Contains, ◌==◌, arith}
use Rattle.std.proofs.lemmas.Bool.{cases_eq, false_from_ne_true, false≢true}
use Rattle.std.proofs.lemmas.List.{append_assoc, append-nil}
use Rattle.sc_papers.specs.Market.{Market, choices_of, students_of}
use Rattle.sc_papers.specs.WellFormed.{WellFormed}
use Rattle.sc_papers.specs.Key.{key_of}
use Rattle.sc_papers.specs.Log.{is_rejected, next_choice, IsValidAfter, IsValidEntry, IsValidLog}
use Rattle.sc_ledgers.specs.Cohort.{Cohort, cut, has_entered, IsRunTo}
use Rattle.sc_papers.specs.declared.rejection.Rejection.{Rejection}
use Rattle.sc_papers.proofs.Counting.{contains-head, contains-tail}
use Rattle.sc_papers.proofs.Rejections.{next-same, rejected-push_cases}
use Rattle.sc_papers.proofs.Standings.{next-moves}
use Rattle.sc_papers.proofs.Restriction.{Restricts}
use Rattle.sc_papers.proofs.Subsets.{next-passes}
use Rattle.sc_papers.proofs.Validity.{next-listed, valid-push}
use Rattle.sc_ledgers.specs.Course.{AreStruck, HasNone, IsAfter}
use Rattle.sc_ledgers.specs.Ledger.{log_at, AreLabelsFrom, AreOwn, HasAsked, HasAskedBy, IsExact}
use Rattle.sc_ledgers.specs.declared.ledger.Label.{Label}
use Rattle.std.proofs.lemmas.Option.{slice_get_within}
use Rattle.sc_ledgers.proofs.Coursing.{choices-first, first-choice, rank-found, rank-there, valid-first}
use Rattle.sc_ledgers.proofs.Staying.{log-after, valid-turn}
use Rattle.sc_ledgers.proofs.Cohorts.{choices-entered, first-students, next-without, well-cut}
use Rattle.sc_ledgers.proofs.Beginning.{not-yet}
use Rattle.sc_ledgers.proofs.Others.{rejected-kept}

-- a rejection, and the next choice after it
after-entry : (m : Market) → WellFormed m → (log : List Rejection) (e : Rejection) (s : ℕ) → IsValidLog m log → IsValidEntry m log e → next_choice m (log ++ e ∷ []) e.student ≡ Some s → IsAfter m e s
after-entry m well log e s valid entry next = go (position (λ t. t == e.school) (choices_of m e.student)) refl
  where
    go : (found : Option ℕ) → position (λ t. t == e.school) (choices_of m e.student) ≡ found → IsAfter m e s
    go None none = absurd (rank-found (choices_of m e.student) e.school (next-listed m log e.student e.school entry.next) none)
    go (Some rank) at = (rank, at, sym (next-moves m well log e rank valid entry (rank-there (choices_of m e.student) e.school rank at)) ∙ next)

-- whoever has asked a school by the end of a log had asked it before, or asks it after an entry
pub asked-split : (m : Market) → WellFormed m → (log rest : List Rejection) (j s : ℕ) → IsValidLog m log → IsValidAfter m log rest → HasAsked m (log ++ rest) j s → HasAsked m log j s ⊎ ((e : Rejection) × Contains rest e × (e.student ≡ j) × IsAfter m e s)
asked-split m well log [] j s valid after asked = inl (subst (λ l. HasAsked m l j s) (append-nil log) asked)
asked-split m well log (e ∷ rest) j s valid after asked = elim (asked-split m well (log ++ e ∷ []) rest j s (valid-push m [] log e valid after.0) after.1 (subst (λ l. HasAsked m l j s) (sym (append_assoc log (e ∷ []) rest)) asked)) [
  | inr (f, here, same, next) ↦ inr (f, contains-tail e rest f here, same, next)
  | inl before ↦ elim (cases_eq e.student j) [
    | inr other ↦ inl (elim before [
      | inl next ↦ inl (sym (next-same m log e j other) ∙ next)
      | inr rejected ↦ elim (rejected-push_cases log e j s rejected) [
        | inl earlier ↦ inr earlier
        | inr (same, school) ↦ absurd (other same)
      ]
    ])
    | inl same ↦ elim before [
      | inl next ↦ inr (e, contains-head e rest, same, after-entry m well log e s valid after.0 (ap (next_choice m (log ++ e ∷ [])) same ∙ next))
      | inr rejected ↦ inl (elim (rejected-push_cases log e j s rejected) [
        | inl earlier ↦ inr earlier
        | inr (student, school) ↦ inl (ap (next_choice m log) (sym student) ∙ after.0.next ∙ ap Some school)
      ])
    ]
  ]
]

-- a student who has asked a school is among the first ones, and has the same choices there
pub choices-asked : (n : Cohort) (k : ℕ) (log : List Rejection) (j s : ℕ) → WellFormed n.papers → IsValidLog (cut n k) log → HasAsked (cut n k) log j s → choices_of (cut n k) j ≡ choices_of n.papers j
choices-asked n k log j s well valid asked =
    let small : Restricts (cut n k) n.papers (has_entered n k) = first-students n k well in
    choices-entered n k j well (elim asked [
      | inl next ↦ next-passes small log j s next
      | inr rejected ↦ rejected-kept small log valid j s rejected
    ])

-- what is known of a turn before what it left is struck, and what striking it does
pub record Strikes (m n : Cohort) (old new : List (List Rejection)) (k i : ℕ) (rest : List Rejection) (labels struck : ℕ → List Label) (amended : ℕ → Bool) : Type 0 where
  pub well : WellFormed m.papers
  pub here : slice_get (students_of m.papers) k ≡ Some i
  pub older : IsRunTo m (length (students_of m.papers)) old
  pub segment : slice_get old k ≡ Some rest
  pub from : AreLabelsFrom m n old new k amended labels
  pub own : AreOwn n.papers labels
  pub others : (s : ℕ) (label : Label) → Contains (labels s) label → k ≤ label.turn → amended label.key.student ≡ false
  pub rows : (j : ℕ) → amended j ≡ false → choices_of n.papers j ≡ choices_of m.papers j
  pub strikes : AreStruck k labels struck
  pub first : (s : ℕ) → slice_get (choices_of n.papers i) 0 ≡ Some s → HasNone n.papers k i s struck
  pub later : (e : Rejection) (s : ℕ) → Contains rest e → IsAfter n.papers e s → HasNone n.papers k e.student s struck

pub none-left : {m n : Cohort} {old new : List (List Rejection)} {k i : ℕ} {rest : List Rejection} {labels struck : ℕ → List Label} {amended : ℕ → Bool} → Strikes m n old new k i rest labels struck amended → (s : ℕ) (label : Label) → Contains (struck s) label → label.turn ≡ k → ⊥
none-left {m} {n} {old} {new} {k} {i} {rest} {labels} {struck} {amended} given s label at same =
    let j : ℕ = label.key.student in
    let before : Contains (labels s) label = given.strikes.only s label at in
    let exact : IsExact m old s label = (given.from.exact s label before (omega (arith, same))).1 in
    let beside : amended j ≡ false = given.others s label before (omega (arith, same)) in
    let own : label.key ≡ key_of n.papers j s = given.own s label before in
    let unasked : HasAskedBy m old k j s → ⊥ = λ asked. exact.not_before (subst (λ t. HasAskedBy m old t j s) (sym same) asked) in
    let asked : HasAsked (cut m (k + 1)) (log_at old k ++ rest) j s = subst (λ l. HasAsked (cut m (k + 1)) l j s) (log-after old k rest given.segment) (subst (λ t. HasAskedBy m old (t + 1) j s) same exact.asked) in
    let whole : IsValidLog (cut m (k + 1)) (log_at old k ++ rest) = subst (IsValidLog (cut m (k + 1))) (log-after old k rest given.segment) (given.older.settled (k + 1) (omega (arith, given.older.one_each, slice_get_within old k rest given.segment))).valid in
    let valid : IsValidLog (cut m (k + 1)) (log_at old k) = valid-first (cut m (k + 1)) [] (log_at old k) rest whole in
    elim (asked-split (cut m (k + 1)) (well-cut m (k + 1) given.well) (log_at old k) rest j s valid (valid-turn m old k rest given.older given.segment) asked) [
      | inl (inr rejected) ↦ unasked (inr rejected)
      | inl (inl next) ↦ elim (cases_eq j i) [
        | inr other ↦ unasked (inl (next-without m k i given.well given.here (log_at old k) j s other next))
        | inl it ↦
            given.first s (ap (λ xs. slice_get xs 0) (ap (choices_of n.papers) (sym it) ∙ given.rows j beside ∙ ap (choices_of m.papers) it) ∙ ap (λ xs. slice_get xs 0) (sym (choices-first m (k + 1) (log_at old k) i s given.well (ap (next_choice (cut m (k + 1)) (log_at old k)) (sym it) ∙ next)))
            ∙ sym (first-choice (cut m (k + 1)) (log_at old k) i (λ t. false_from_ne_true (is_rejected (log_at old k) i t) (λ rejected. false≢true (sym (not-yet m k i given.well given.here) ∙ rejected-kept (first-students m k given.well) (log_at old k) (given.older.settled k (omega (arith, given.older.one_each, slice_get_within old k rest given.segment))).valid i t rejected))))
            ∙ ap (next_choice (cut m (k + 1)) (log_at old k)) (sym it) ∙ next) label at same (own ∙ ap (λ x. key_of n.papers x s) it)
      ]
      | inr (e, here, student, after) ↦ given.later e s here (subst (λ xs. (rank : ℕ) × (position (λ t. t == e.school) xs ≡ Some rank) × (slice_get xs (rank + 1) ≡ Some s)) (ap (choices_of (cut m (k + 1))) student ∙ choices-asked m (k + 1) (log_at old k ++ rest) j s given.well whole asked ∙ sym (given.rows j beside) ∙ ap (choices_of n.papers) (sym student)) after) label at same (own ∙ ap (λ x. key_of n.papers x s) (sym student))
    ]
