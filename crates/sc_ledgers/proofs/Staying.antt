-- A segment that stays: the next turn begins as this one did.
use Rattle.std.proofs.Common.{◌≡◌, ◌⊎◌, inl, inr, refl, ap, sym, subst, ◌∙◌, ℕ, ◌≤◌, ◌<◌, ◌+◌, ◌==◌, Bool, true, false, not, ◌||◌, List, [], ◌∷◌, ◌++◌, length, take, slice_get, Some, All, Contains, append_assoc, append-nil, arith}
use Rattle.std.proofs.lemmas.Bool.{cases_Bool, cases_eq, cases_lt, and_from, false≢true, eq-eqb}
use Rattle.std.proofs.lemmas.Option.{same_Some, slice_get_within, get_or_from_slice_get}
use Rattle.std.proofs.lemmas.List.{length_push, take-append-le, take_all, take_more}
use Rattle.std.proofs.lemmas.List.Elements.{All-cons, All-head, All-nil, All-tail}
use Rattle.sc_papers.specs.Market.{Market, choices_of, students_of}
use Rattle.sc_papers.specs.Key.{key_of}
use Rattle.sc_papers.specs.Matching.{has}
use Rattle.sc_papers.specs.WellFormed.{WellFormed}
use Rattle.sc_papers.specs.Log.{is_rejected, matching_of, next_choice, IsSettled, IsValidAfter, IsValidEntry, IsValidLog}
use Rattle.sc_papers.specs.Restriction.{joined}
use Rattle.sc_ledgers.specs.Cohort.{Cohort, cut, has_entered, IsRunTo}
use Rattle.sc_papers.specs.declared.rejection.Rejection.{Rejection}
use Rattle.sc_papers.proofs.Choices.{first-found}
use Rattle.sc_papers.proofs.Cutting.{joined-push}
use Rattle.sc_papers.proofs.Rejections.{has-some, has-true, is_of, next-same, rejected-push, rejected-push_cases}
use Rattle.sc_papers.proofs.Standings.{valid-rest}
use Rattle.sc_ledgers.specs.Ledger.{log_at, AgreeBeside, AreLabelsBefore, AreLabelsFrom, AtTurn, AlikeBeside, AreMadeToo, HasAsked, HasAskedBy, IsExact, StandsAt, Stays}
use Rattle.sc_ledgers.specs.declared.ledger.Label.{Label}
use Rattle.sc_ledgers.proofs.Cohorts.{entered-more, first-students, next-with, next-without, run-more}
use Rattle.sc_ledgers.proofs.Beside.{agree-after, made-own, next-beside, segment-beside, segment-stays, still-aside}

-- whoever is not aside has asked the same schools
pub asked-beside : {m n : Market} {log other : List Rejection} {marked aside : ℕ → Bool} → AlikeBeside m n marked aside → AgreeBeside m n log other marked aside → (j s : ℕ) → aside j ≡ false → HasAsked m log j s → HasAsked n other j s
asked-beside papers logs j s beside (inl next) = inl (next-beside papers logs j beside ∙ next)
asked-beside papers logs j s beside (inr rejected) = inr (logs.alike j s beside ∙ rejected)

pub asked-back : {m n : Market} {log other : List Rejection} {marked aside : ℕ → Bool} → AlikeBeside m n marked aside → AgreeBeside m n log other marked aside → (j s : ℕ) → aside j ≡ false → HasAsked n other j s → HasAsked m log j s
asked-back papers logs j s beside (inl next) = inl (sym (next-beside papers logs j beside) ∙ next)
asked-back papers logs j s beside (inr rejected) = inr (sym (logs.alike j s beside) ∙ rejected)

-- who has asked a school has asked it after one more entry, and after a valid log
pub asked-push : (m : Market) (log : List Rejection) (e : Rejection) (j s : ℕ) → IsValidEntry m log e → HasAsked m log j s → HasAsked m (log ++ e ∷ []) j s
asked-push m log e j s valid (inr rejected) = inr (rejected-push log e j s ∙ ap (λ b. b || is_of e j s) rejected)
asked-push m log e j s valid (inl next) = elim (cases_eq e.student j) [
  | inr apart ↦ inl (next-same m log e j apart ∙ next)
  | inl same ↦
      let school : e.school ≡ s = same_Some e.school s (sym valid.next ∙ ap (next_choice m log) same ∙ next) in
      inr (rejected-push log e j s ∙ or-right (is_rejected log j s) (is_of e j s) (and_from (e.student == j) (e.school == s) (eq-eqb e.student j same) (eq-eqb e.school s school)))
]
  where
    or-right : (a b : Bool) → b ≡ true → (a || b) ≡ true
    or-right true b holds = refl
    or-right false b holds = holds

pub asked-more : (m : Market) (log rest : List Rejection) (j s : ℕ) → IsValidAfter m log rest → HasAsked m log j s → HasAsked m (log ++ rest) j s
asked-more m log [] j s valid asked = subst (λ l. HasAsked m l j s) (sym (append-nil log)) asked
asked-more m log (e ∷ rest) j s valid asked =
    subst (λ l. HasAsked m l j s) (append_assoc log (e ∷ []) rest) (asked-more m (log ++ e ∷ []) rest j s valid.1 (asked-push m log e j s valid.0 asked))

-- whoever the entries don't name has asked no more
pub asked-less : (m : Market) (log rest : List Rejection) (j s : ℕ) → All (λ e. e.student ≡ j → ⊥) rest → HasAsked m (log ++ rest) j s → HasAsked m log j s
asked-less m log [] j s apart asked = subst (λ l. HasAsked m l j s) (append-nil log) asked
asked-less m log (e ∷ rest) j s apart asked =
    let first = All-head (λ x. x.student ≡ j → ⊥) e rest apart in
    elim (asked-less m (log ++ e ∷ []) rest j s (All-tail (λ x. x.student ≡ j → ⊥) e rest apart) (subst (λ l. HasAsked m l j s) (sym (append_assoc log (e ∷ []) rest)) asked)) [
      | inl next ↦ inl (sym (next-same m log e j first) ∙ next)
      | inr rejected ↦ elim (rejected-push_cases log e j s rejected) [
        | inl before ↦ inr before
        | inr (same_student, same_school) ↦ absurd (first same_student)
      ]
    ]

-- the logs agree once the student has entered
pub agree-entered : (m n : Cohort) (k i : ℕ) (log other : List Rejection) (marked aside : ℕ → Bool) → WellFormed m.papers → WellFormed n.papers → slice_get (students_of m.papers) k ≡ Some i → slice_get (students_of n.papers) k ≡ Some i → aside i ≡ false → AgreeBeside (cut m k) (cut n k) log other marked aside → AgreeBeside (cut m (k + 1)) (cut n (k + 1)) log other marked aside
agree-entered m n k i log other marked aside well_m well_n here_m here_n enters logs =
    let apart : (j : ℕ) → aside j ≡ true → j ≡ i → ⊥ = λ j is same. false≢true (sym (ap aside same ∙ enters) ∙ is) in
    record {
      alike = logs.alike;
      old = λ j s is next. logs.old j s is (next-without m k i well_m here_m log j s (apart j is) next);
      new = λ j s is next. logs.new j s is (next-without n k i well_n here_n other j s (apart j is) next);
    }

-- a school that has rejected a student is not their next choice
pub next-untried : (m : Market) (log : List Rejection) (j s : ℕ) → next_choice m log j ≡ Some s → is_rejected log j s ≡ false
unfolding next_choice
next-untried m log j s next = not-true (is_rejected log j s) (first-found (λ t. not (is_rejected log j t)) (choices_of m j) s next).passes
  where
    not-true : (b : Bool) → not b ≡ true → b ≡ false
    not-true true holds = absurd (false≢true holds)
    not-true false holds = refl

-- and stays so
pub rejected-more : (log rest : List Rejection) (j s : ℕ) → is_rejected log j s ≡ true → is_rejected (log ++ rest) j s ≡ true
rejected-more log [] j s rejected = ap (λ l. is_rejected l j s) (append-nil log) ∙ rejected
rejected-more log (e ∷ rest) j s rejected =
    ap (λ l. is_rejected l j s) (sym (append_assoc log (e ∷ []) rest))
    ∙ rejected-more (log ++ e ∷ []) rest j s (rejected-push log e j s ∙ ap (λ b. b || is_of e j s) rejected)

-- the log after the turn
pub log-after : (old : List (List Rejection)) (k : ℕ) (rest : List Rejection) → slice_get old k ≡ Some rest → log_at old (k + 1) ≡ log_at old k ++ rest
log-after old k rest here =
    ap joined (take_more old k rest (slice_get_within old k rest here) ∙ ap (λ r. take k old ++ r ∷ []) (get_or_from_slice_get old k rest rest here))
    ∙ joined-push (take k old) rest

-- whether a student has asked a school
pub has_asked : (m : Market) (log : List Rejection) (j s : ℕ) → HasAsked m log j s ⊎ (HasAsked m log j s → ⊥)
has_asked m log j s = elim (cases_Bool (has (matching_of m log) s j)) [
  | inl stands ↦ inl (inl (has-true (matching_of m log) s j stands))
  | inr elsewhere ↦ elim (cases_Bool (is_rejected log j s)) [
    | inl rejected ↦ inl (inr rejected)
    | inr untried ↦ inr (λ asked. elim asked [
      | inl next ↦ false≢true (sym elsewhere ∙ has-some (matching_of m log) s j next)
      | inr rejected ↦ false≢true (sym untried ∙ rejected)
    ])
  ]
]

-- the new log of the first k
pub log-new : (new : List (List Rejection)) (k : ℕ) → length new ≡ k → log_at new k ≡ joined new
log-new new k as_many = ap joined (take_all k new (omega (arith, as_many)))

-- the valid log of the turn, in the old run
pub valid-turn : {to : ℕ} (m : Cohort) (old : List (List Rejection)) (k : ℕ) (rest : List Rejection) → IsRunTo m to old → slice_get old k ≡ Some rest → IsValidAfter (cut m (k + 1)) (log_at old k) rest
valid-turn m old k rest older here =
    let within = slice_get_within old k rest here in
    valid-rest (cut m (k + 1)) [] (log_at old k) rest (subst (IsValidLog (cut m (k + 1))) (log-after old k rest here) (older.settled (k + 1) (omega (arith, within, older.one_each))).valid)

-- the logs agree as the student enters
pub agree-now : {m n : Cohort} {old new : List (List Rejection)} {k i : ℕ} {rest : List Rejection} {labels : ℕ → List Label} {marked aside amended : ℕ → Bool} → Stays m n old new k i rest labels marked aside amended → AgreeBeside (cut m (k + 1)) (cut n (k + 1)) (log_at old k) (joined new) marked aside
agree-now {m} {n} {old} {new} {k} {i} {rest} {labels} {marked} {aside} given =
    agree-entered m n k i (log_at old k) (joined new) marked aside given.well_m given.well_n given.here_m given.here_n given.enters given.logs

-- and after the turn
pub agree-then : {m n : Cohort} {old new : List (List Rejection)} {k i : ℕ} {rest : List Rejection} {labels : ℕ → List Label} {marked aside amended : ℕ → Bool} → Stays m n old new k i rest labels marked aside amended → AgreeBeside (cut m (k + 1)) (cut n (k + 1)) (log_at old (k + 1)) (joined (new ++ rest ∷ [])) marked aside
agree-then {m} {n} {old} {new} {k} {i} {rest} {labels} {marked} {aside} given =
    subst (λ l. AgreeBeside (cut m (k + 1)) (cut n (k + 1)) l (joined (new ++ rest ∷ [])) marked aside) (sym (log-after old k rest given.segment))
    (subst (λ l. AgreeBeside (cut m (k + 1)) (cut n (k + 1)) (log_at old k ++ rest) l marked aside) (sym (joined-push new rest))
    (segment-beside (given.papers (k + 1)) (agree-now given) rest given.made_too (valid-turn m old k rest given.older given.segment)).1)

-- the new log is settled after the turn
settled-then : {m n : Cohort} {old new : List (List Rejection)} {k i : ℕ} {rest : List Rejection} {labels : ℕ → List Label} {marked aside amended : ℕ → Bool} → Stays m n old new k i rest labels marked aside amended → IsSettled (cut n (k + 1)) (joined new ++ rest)
settled-then {m} {n} {old} {new} {k} {i} {rest} {labels} {marked} {aside} {amended} given =
    let within = slice_get_within old k rest given.segment in
    let small = first-students n k given.well_n in
    let large = first-students n (k + 1) given.well_n in
    let wider : (j : ℕ) → has_entered n k j ≡ true → has_entered n (k + 1) j ≡ true = λ j kept. entered-more n k i j given.here_n kept in
    let logs = agree-now given in
    segment-stays small large wider
    (subst (IsSettled (cut n k)) (log-new new k given.as_many) (given.newer.settled k (omega arith)))
    (record {
      papers = given.papers (k + 1);
      logs = logs;
      old = subst (IsSettled (cut m (k + 1))) (log-after old k rest given.segment) (given.older.settled (k + 1) (omega (arith, within, given.older.one_each)));
      made_too = given.made_too;
      stood = λ j s is_marked beside next. elim (given.nobody j s is_marked (subst (λ l. next_choice (cut m (k + 1)) l j ≡ Some s) (sym (log-after old k rest given.segment)) next)) [
        | inl stands ↦ next-beside (given.papers k) given.logs j beside ∙ stands
        | inr rejected ↦ absurd (false≢true (sym (next-untried (cut m (k + 1)) (log_at old k ++ rest) j s next) ∙ rejected-more (log_at old k) rest j s rejected))
      ];
      apart = λ j s is next. next-without n k i given.well_n given.here_n (joined new) j s (λ same. false≢true (sym (ap aside same ∙ given.enters) ∙ is)) next;
    })

-- the segments with one more, up to before it
pub log-kept : (new : List (List Rejection)) (rest : List Rejection) (t : ℕ) → t ≤ length new → log_at (new ++ rest ∷ []) t ≡ log_at new t
log-kept new rest t within = ap joined (take-append-le t new (rest ∷ []) within)

pub log-whole : (new : List (List Rejection)) (rest : List Rejection) (k : ℕ) → length new ≡ k → log_at (new ++ rest ∷ []) (k + 1) ≡ joined (new ++ rest ∷ [])
log-whole new rest k as_many = log-new (new ++ rest ∷ []) (k + 1) (length_push new rest ∙ omega (arith, as_many))

-- no entry names one who is aside
pub none-named : {m n : Market} {log other : List Rejection} {marked aside : ℕ → Bool} → AgreeBeside m n log other marked aside → (rest : List Rejection) → AreMadeToo n marked aside other rest → IsValidAfter m log rest → (j : ℕ) → aside j ≡ true → All (λ e. e.student ≡ j → ⊥) rest
none-named logs [] made valid j is = All-nil (λ e. e.student ≡ j → ⊥)
none-named {aside = aside} logs (e ∷ rest) made valid j is =
    let own : aside e.student ≡ false = made-own logs e made.0 valid.0 in
    All-cons (λ x. x.student ≡ j → ⊥) e rest
    (λ same. false≢true (sym (ap aside (sym same) ∙ own) ∙ is))
    (none-named (agree-after logs e own) rest made.1 valid.1 j is)

-- whoever is aside has asked no more in the old run
aside-asked : {m n : Cohort} {old new : List (List Rejection)} {k i : ℕ} {rest : List Rejection} {labels : ℕ → List Label} {marked aside amended : ℕ → Bool} → Stays m n old new k i rest labels marked aside amended → (j s : ℕ) → aside j ≡ true → HasAskedBy m old (k + 1) j s → HasAskedBy m old k j s
aside-asked {m} {n} {old} {new} {k} {i} {rest} {labels} {marked} {aside} given j s is asked =
    elim (asked-less (cut m (k + 1)) (log_at old k) rest j s (none-named (agree-now given) rest given.made_too (valid-turn m old k rest given.older given.segment) j is)
    (subst (λ l. HasAsked (cut m (k + 1)) l j s) (log-after old k rest given.segment) asked)) [
      | inl next ↦ inl (next-without m k i given.well_m given.here_m (log_at old k) j s (λ same. false≢true (sym (ap aside same ∙ given.enters) ∙ is)) next)
      | inr rejected ↦ inr rejected
    ]

-- the labels of this turn are of the new run
exact-then : {m n : Cohort} {old new : List (List Rejection)} {k i : ℕ} {rest : List Rejection} {labels : ℕ → List Label} {marked aside amended : ℕ → Bool} → Stays m n old new k i rest labels marked aside amended → (s : ℕ) (label : Label) → label.turn ≡ k → IsExact m old s label → IsExact n (new ++ rest ∷ []) s label
exact-then {m} {n} {old} {new} {k} {i} {rest} {labels} {marked} {aside} given s label now exact =
    let j : ℕ = label.key.student in
    let asked : HasAskedBy m old (k + 1) j s = subst (λ t. HasAskedBy m old (t + 1) j s) now exact.asked in
    let not_before : HasAskedBy m old k j s → ⊥ = λ before. exact.not_before (subst (λ t. HasAskedBy m old t j s) (sym now) before) in
    elim (cases_Bool (aside j)) [
      | inl is ↦ absurd (not_before (aside-asked given j s is asked))
      | inr beside ↦ record {
        asked = subst (λ t. HasAskedBy n (new ++ rest ∷ []) (t + 1) j s) (sym now)
            (subst (λ l. HasAsked (cut n (k + 1)) l j s) (sym (log-whole new rest k given.as_many)) (asked-beside (given.papers (k + 1)) (agree-then given) j s beside asked));
        not_before = λ before. not_before (asked-back (given.papers k) given.logs j s beside
            (subst (λ l. HasAsked (cut n k) l j s) (log-kept new rest k (omega (arith, given.as_many)) ∙ log-new new k given.as_many) (subst (λ t. HasAskedBy n (new ++ rest ∷ []) t j s) now before)));
      }
    ]

-- who stands after the turn has a label
standing-then : {m n : Cohort} {old new : List (List Rejection)} {k i : ℕ} {rest : List Rejection} {labels : ℕ → List Label} {marked aside amended : ℕ → Bool} → Stays m n old new k i rest labels marked aside amended → (j s : ℕ) → next_choice (cut n (k + 1)) (joined (new ++ rest ∷ [])) j ≡ Some s → (turn : ℕ) × (turn < k + 1) × Contains (labels s) (record { key = key_of n.papers j s; turn = turn })
standing-then {m} {n} {old} {new} {k} {i} {rest} {labels} {marked} {aside} {amended} given j s next =
    let valid = valid-turn m old k rest given.older given.segment in
    let stood : next_choice (cut n k) (joined new) j ≡ Some s → (turn : ℕ) × (turn < k + 1) × Contains (labels s) (record { key = key_of n.papers j s; turn = turn }) = λ before.
    let found = given.before.standing k j s (omega arith) (subst (λ l. next_choice (cut n k) l j ≡ Some s) (sym (log-new new k given.as_many)) before) in
    (found.0, omega (arith, found.1), found.2) in
    let after : next_choice (cut n (k + 1)) (joined new ++ rest) j ≡ Some s = subst (λ l. next_choice (cut n (k + 1)) l j ≡ Some s) (joined-push new rest) next in
    elim (cases_Bool (aside j)) [
      | inl is ↦ stood (next-without n k i given.well_n given.here_n (joined new) j s (λ same. false≢true (sym (ap aside same ∙ given.enters) ∙ is)) (sym (still-aside (agree-now given) rest given.made_too valid j is) ∙ after))
      | inr beside ↦ elim (has_asked (cut n k) (joined new) j s) [
        | inl asked ↦ elim asked [
          | inl before ↦ stood before
          | inr rejected ↦ absurd (false≢true (sym (next-untried (cut n (k + 1)) (joined new ++ rest) j s after) ∙ rejected-more (joined new) rest j s rejected))
        ]
        | inr not_new ↦
            let others : amended j ≡ false = elim (cases_Bool (amended j)) [
              | inl is ↦ absurd (false≢true (sym beside ∙ given.amended_aside j is))
              | inr other ↦ other
            ] in (
              k,
              omega arith,
              given.from.complete k j s (omega arith) (slice_get_within old k rest given.segment) others
                  (λ asked. not_new (subst (λ l. HasAsked (cut n k) l j s) (log-new new k given.as_many) asked))
                  (sym (next-beside (given.papers (k + 1)) (agree-then given) j beside) ∙ next)
                  (λ asked. not_new (asked-beside (given.papers k) given.logs j s beside asked)),
            )
      ]
    ]

-- the new run's labels up to the turn
before-then : {m n : Cohort} {old new : List (List Rejection)} {k i : ℕ} {rest : List Rejection} {labels : ℕ → List Label} {marked aside amended : ℕ → Bool} → Stays m n old new k i rest labels marked aside amended → AreLabelsBefore n (new ++ rest ∷ []) (k + 1) labels
before-then {m} {n} {old} {new} {k} {i} {rest} {labels} given = record {
  exact = λ s label here low. elim (cases_lt label.turn k) [
    | inl earlier ↦
        let found = given.before.exact s label here earlier in
        record {
          asked = subst (λ l. HasAsked (cut n (label.turn + 1)) l label.key.student s) (sym (log-kept new rest (label.turn + 1) (omega (arith, earlier, given.as_many)))) found.asked;
          not_before = λ asked. found.not_before (subst (λ l. HasAsked (cut n label.turn) l label.key.student s) (log-kept new rest label.turn (omega (arith, earlier, given.as_many))) asked);
        }
    | inr now ↦
        let same : label.turn ≡ k = omega (arith, low, now) in
        exact-then given s label same (given.from.exact s label here (omega (arith, same))).1
  ];
  standing = λ t j s low stands. elim (cases_lt t (k + 1)) [
    | inl earlier ↦ given.before.standing t j s (omega (arith, earlier)) (subst (λ l. next_choice (cut n t) l j ≡ Some s) (log-kept new rest t (omega (arith, earlier, given.as_many))) stands)
    | inr now ↦
        let same : t ≡ k + 1 = omega (arith, low, now) in
        let found = standing-then given j s (subst (λ l. next_choice (cut n (k + 1)) l j ≡ Some s) (log-whole new rest k given.as_many) (subst (λ u. StandsAt n (new ++ rest ∷ []) u j s) same stands)) in
        (found.0, omega (arith, found.1, same), found.2)
  ];
}

-- the old run's labels behind the turn
from-then : {m n : Cohort} {old new : List (List Rejection)} {k i : ℕ} {rest : List Rejection} {labels : ℕ → List Label} {marked aside amended : ℕ → Bool} → Stays m n old new k i rest labels marked aside amended → AreLabelsFrom m n old (new ++ rest ∷ []) (k + 1) amended labels
from-then {m} {n} {old} {new} {k} {i} {rest} {labels} {marked} {aside} {amended} given = record {
  exact = λ s label here high. given.from.exact s label here (omega (arith, high));
  complete = λ t j s high within other not_new stands not_yet.
      given.from.complete t j s (omega (arith, high)) within other
      (λ asked. not_new (subst (λ l. HasAsked (cut n (k + 1)) l j s) (sym (log-whole new rest k given.as_many ∙ joined-push new rest))
      (asked-more (cut n (k + 1)) (joined new) rest j s
      (segment-beside (given.papers (k + 1)) (agree-now given) rest given.made_too (valid-turn m old k rest given.older given.segment)).0
      (with j s (subst (λ l. HasAsked (cut n k) l j s) (log-new new k given.as_many) asked)))))
      stands not_yet;
}
  where
    with : (j s : ℕ) → HasAsked (cut n k) (joined new) j s → HasAsked (cut n (k + 1)) (joined new) j s
    with j s (inl next) = inl (next-with n k i given.well_n given.here_n (joined new) j s next)
    with j s (inr rejected) = inr rejected

-- a turn whose segment stays: what is known before the next one
pub turn-stays : {m n : Cohort} {old new : List (List Rejection)} {k i : ℕ} {rest : List Rejection} {labels : ℕ → List Label} {marked aside amended : ℕ → Bool} → Stays m n old new k i rest labels marked aside amended → AtTurn m n old (new ++ rest ∷ []) (k + 1) labels marked aside amended
turn-stays {m} {n} {old} {new} {k} {i} {rest} given = record {
  newer = run-more n k new rest given.newer (settled-then given);
  as_many = omega (arith, length_push new rest, given.as_many);
  logs = agree-then given;
  before = before-then given;
  from = from-then given;
}
