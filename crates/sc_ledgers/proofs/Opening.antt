-- The labels of a whole run, turn by turn.
use Rattle.std.proofs.Common.{◌≡◌, inl, inr, refl, ap, sym, subst, ◌∙◌, ℕ, ◌<◌, ◌+◌, ◌==◌, ◌&&◌, ◌||◌, Bool, true, false, List, [], ◌∷◌, ◌++◌, length, nat_eq, slice_get, slice_set, position, Option, Some, Contains, append_assoc, arith}
use Rattle.std.proofs.lemmas.Bool.{and_from, cases_eq, cases_lt, eq-eqb, false≢true, or_left, or_right}
use Rattle.std.proofs.lemmas.List.Folds.{list_any-append}
use Rattle.std.specs.List.{list_any}
use Rattle.std.proofs.lemmas.Option.{same_Some, slice_get_within}
use Rattle.std.proofs.lemmas.List.Elements.{Contains-append_left, Contains-append_right, Contains-push_cases}
use Rattle.sc_papers.specs.Market.{Market, choices_of, schools_of, students_of}
use Rattle.sc_papers.specs.WellFormed.{WellFormed}
use Rattle.sc_papers.specs.Key.{key_of}
use Rattle.sc_papers.specs.Log.{is_rejected, next_choice, IsValidAfter, IsValidEntry, IsValidLog}
use Rattle.sc_papers.specs.declared.rejection.Rejection.{Rejection}
use Rattle.sc_papers.proofs.Counting.{contains-cons, contains-head}
use Rattle.sc_papers.proofs.Progress.{rejected-here}
use Rattle.sc_papers.proofs.Standings.{next-moves}
use Rattle.sc_papers.proofs.Validity.{next-listed, valid-push}
use Rattle.sc_ledgers.specs.Cohort.{Cohort, cut, IsRunTo}
use Rattle.sc_ledgers.specs.Course.{labels_of, IsAfter}
use Rattle.sc_ledgers.specs.Ledger.{log_at, HasAsked, HasAskedBy, IsExact, StandsAt}
use Rattle.sc_ledgers.specs.Opening.{AreNoted, AreNotedTo, AsksIn, IsNotedAt, RejectsIn}
use Rattle.sc_ledgers.specs.declared.ledger.Label.{Label}
use Rattle.sc_ledgers.proofs.Beginning.{not-yet}
use Rattle.sc_ledgers.proofs.Cohorts.{choices-entered, first-students, next-with, next-without, well-cut}
use Rattle.sc_ledgers.proofs.Coursing.{rank-there, valid-first}
use Rattle.sc_ledgers.proofs.Entry.{next-first}
use Rattle.sc_ledgers.proofs.Others.{rejected-kept}
use Rattle.sc_ledgers.proofs.Proposing.{set-here, set-other}
use Rattle.sc_ledgers.proofs.Staying.{asked-more, asked-push, has_asked, log-after, next-untried, rejected-more, valid-turn}
use Rattle.sc_ledgers.proofs.Struck.{asked-split, choices-asked}
use Rattle.sc_papers.proofs.Subsets.{next-passes}

-- whoever is rejected has the choice after that one
next-after : (m : Market) → WellFormed m → (log : List Rejection) (e : Rejection) (s : ℕ) → IsValidLog m log → IsValidEntry m log e → IsAfter m e s → next_choice m (log ++ e ∷ []) e.student ≡ Some s
next-after m well log e s valid entry (rank, at, there) = next-moves m well log e rank valid entry (rank-there (choices_of m e.student) e.school rank at) ∙ there

-- and asks it then, and not before
asked-then : (m : Market) → WellFormed m → (log rest : List Rejection) (e : Rejection) (s : ℕ) → IsValidLog m log → IsValidAfter m log rest → Contains rest e → IsAfter m e s → HasAsked m (log ++ rest) e.student s × (HasAsked m log e.student s → ⊥)
asked-then m well log [] e s valid after here is = absurd (omega (arith, here.1))
asked-then m well log (x ∷ rest) e s valid after here is = elim (contains-cons x rest e here) [
  | inr later ↦
      let more = asked-then m well (log ++ x ∷ []) rest e s (valid-push m [] log x valid after.0) after.1 later is in (
        subst (λ l. HasAsked m l e.student s) (append_assoc log (x ∷ []) rest) more.0,
        λ asked. more.1 (asked-push m log x e.student s after.0 asked),
      )
  | inl same ↦
      let entry : IsValidEntry m log e = subst (IsValidEntry m log) same after.0 in
      let next : next_choice m (log ++ e ∷ []) e.student ≡ Some s = next-after m well log e s valid entry is in
      let now : HasAsked m (log ++ x ∷ []) e.student s = subst (λ y. HasAsked m (log ++ y ∷ []) e.student s) (sym same) (inl next) in (
        subst (λ l. HasAsked m l e.student s) (append_assoc log (x ∷ []) rest) (asked-more m (log ++ x ∷ []) rest e.student s after.1 now),
        λ asked. elim asked [
          | inl stood ↦ false≢true (sym (next-untried m (log ++ e ∷ []) e.student s next) ∙ subst (λ t. is_rejected (log ++ e ∷ []) e.student t ≡ true) (same_Some e.school s (sym entry.next ∙ stood)) (rejected-here log e))
          | inr rejected ↦ false≢true (sym (next-untried m (log ++ e ∷ []) e.student s next) ∙ rejected-more log (e ∷ []) e.student s rejected)
        ],
      )
]

own-key : (m : Market) (j s : ℕ) → key_of m j s ≡ key_of m (key_of m j s).student s
unfolding key_of
own-key m j s = refl

exact-of : (n : Cohort) (old : List (List Rejection)) (k j s : ℕ) → HasAskedBy n old (k + 1) j s × (HasAskedBy n old k j s → ⊥) → IsExact n old s (record { key = key_of n.papers j s; turn = k })
unfolding key_of
exact-of n old k j s both = record { asked = both.0; not_before = both.1 }

-- whom an entry of the log names is rejected there
rejects-rejected : (log rest : List Rejection) (j s : ℕ) → RejectsIn rest j s → is_rejected (log ++ rest) j s ≡ true
rejects-rejected log rest j s here =
    list_any-append (λ e. e.student == j && e.school == s) log rest
    ∙ ap (λ b. list_any (λ e. e.student == j && e.school == s) log || b) (found rest here)
    ∙ or-true (list_any (λ e. e.student == j && e.school == s) log)
  where
    or-true : (b : Bool) → (b || true) ≡ true
    or-true true = refl
    or-true false = refl

    found : (entries : List Rejection) → RejectsIn entries j s → list_any (λ e. e.student == j && e.school == s) entries ≡ true
    found [] at = absurd (omega (arith, at.1))
    found (e ∷ entries) at = elim (contains-cons e entries (record { student = j; school = s }) at) [
      | inl same ↦ or_left (e.student == j && e.school == s) (list_any (λ x. x.student == j && x.school == s) entries) (and_from (e.student == j) (e.school == s) (eq-eqb e.student j (ap (λ (x : Rejection). x.student) same)) (eq-eqb e.school s (ap (λ (x : Rejection). x.school) same)))
      | inr later ↦ or_right (e.student == j && e.school == s) (list_any (λ x. x.student == j && x.school == s) entries) (found entries later)
    ]

-- what is known of a turn of a run
pub record Opens (n : Cohort) (old : List (List Rejection)) (to k i : ℕ) (rest : List Rejection) (labels noted : ℕ → List Label) : Type 0 where
  pub well : WellFormed n.papers
  pub run : IsRunTo n to old
  pub here : slice_get (students_of n.papers) k ≡ Some i
  pub turn : n.enters i ≡ true
  pub segment : slice_get old k ≡ Some rest
  pub earlier : AreNotedTo n old k labels
  pub notes : AreNoted n.papers k i rest rest labels noted

module _ {n : Cohort} {old : List (List Rejection)} {to k i : ℕ} {rest : List Rejection} {labels noted : ℕ → List Label} (given : Opens n old to k i rest labels noted) where
  low : k < to
  low = omega (arith, slice_get_within old k rest given.segment, given.run.one_each)

  valid-before : IsValidLog (cut n k) (log_at old k)
  valid-before = (given.run.settled k (omega (arith, low))).valid

  whole : IsValidLog (cut n (k + 1)) (log_at old k ++ rest)
  whole = subst (IsValidLog (cut n (k + 1))) (log-after old k rest given.segment) (given.run.settled (k + 1) (omega (arith, low))).valid

  none-rejected : (s : ℕ) → is_rejected (log_at old k) i s ≡ true → ⊥
  none-rejected s rejected = false≢true (sym (not-yet n k i given.well given.here) ∙ rejected-kept (first-students n k given.well) (log_at old k) valid-before i s rejected)

  -- who asks in the turn has asked by its end, and not before it
  asks-now : (j s : ℕ) → AsksIn n.papers i rest j s → HasAskedBy n old (k + 1) j s × (HasAskedBy n old k j s → ⊥)
  asks-now j s (inl (same, first)) = (
    subst (λ l. HasAsked (cut n (k + 1)) l j s) (sym (log-after old k rest given.segment))
        (asked-more (cut n (k + 1)) (log_at old k) rest j s (valid-turn n old k rest given.run given.segment)
        (inl (ap (next_choice (cut n (k + 1)) (log_at old k)) same ∙ next-first n k i given.well given.here given.turn (log_at old k) valid-before ∙ first))),
    λ asked. elim (subst (λ x. HasAskedBy n old k x s) same asked) [
      | inl next ↦ false≢true (sym (not-yet n k i given.well given.here) ∙ next-passes (first-students n k given.well) (log_at old k) i s next)
      | inr rejected ↦ none-rejected s rejected
    ],
  )
  asks-now j s (inr (e, here, student, after)) =
      let valid : IsValidLog (cut n (k + 1)) (log_at old k) = first-valid in
      let listed : choices_of (cut n (k + 1)) e.student ≡ choices_of n.papers e.student = entry-choices rest (log_at old k) (valid-turn n old k rest given.run given.segment) e here in
      let is : IsAfter (cut n (k + 1)) e s = subst (λ xs. (rank : ℕ) × (position (λ t. t == e.school) xs ≡ Some rank) × (slice_get xs (rank + 1) ≡ Some s)) (sym listed) after in
      let both = asked-then (cut n (k + 1)) (well-cut n (k + 1) given.well) (log_at old k) rest e s valid (valid-turn n old k rest given.run given.segment) here is in (
        subst (λ x. HasAskedBy n old (k + 1) x s) student (subst (λ l. HasAsked (cut n (k + 1)) l e.student s) (sym (log-after old k rest given.segment)) both.0),
        λ asked. both.1 (elim (subst (λ x. HasAskedBy n old k x s) (sym student) asked) [
          | inl next ↦ inl (next-with n k i given.well given.here (log_at old k) e.student s next)
          | inr rejected ↦ inr rejected
        ]),
      )
    where
      first-valid : IsValidLog (cut n (k + 1)) (log_at old k)
      first-valid = valid-first (cut n (k + 1)) [] (log_at old k) rest whole

      entry-choices : (more log : List Rejection) → IsValidAfter (cut n (k + 1)) log more → (x : Rejection) → Contains more x → choices_of (cut n (k + 1)) x.student ≡ choices_of n.papers x.student
      entry-choices [] log valid x at = absurd (omega (arith, at.1))
      entry-choices (y ∷ more) log valid x at = elim (contains-cons y more x at) [
        | inl same ↦ subst (λ (z : Rejection). choices_of (cut n (k + 1)) z.student ≡ choices_of n.papers z.student) same (choices-entered n (k + 1) y.student given.well (next-passes (first-students n (k + 1) given.well) log y.student y.school valid.0.next))
        | inr later ↦ entry-choices more (log ++ y ∷ []) valid.1 x later
      ]

  -- whoever has asked by its end, and not before it, asks in it
  asks-in : (j s : ℕ) → HasAskedBy n old (k + 1) j s → (HasAskedBy n old k j s → ⊥) → AsksIn n.papers i rest j s
  asks-in j s asked unasked =
      let log = log_at old k in
      let now : HasAsked (cut n (k + 1)) (log ++ rest) j s = subst (λ l. HasAsked (cut n (k + 1)) l j s) (log-after old k rest given.segment) asked in
      elim (asked-split (cut n (k + 1)) (well-cut n (k + 1) given.well) log rest j s (valid-first (cut n (k + 1)) [] log rest whole) (valid-turn n old k rest given.run given.segment) now) [
        | inl (inr rejected) ↦ absurd (unasked (inr rejected))
        | inl (inl next) ↦ elim (cases_eq j i) [
          | inr other ↦ absurd (unasked (inl (next-without n k i given.well given.here log j s other next)))
          | inl same ↦ inl (same, sym (next-first n k i given.well given.here given.turn log valid-before) ∙ ap (next_choice (cut n (k + 1)) log) (sym same) ∙ next)
        ]
        | inr (e, here, student, after) ↦ inr (
          e,
          here,
          student,
          subst (λ xs. (rank : ℕ) × (position (λ t. t == e.school) xs ≡ Some rank) × (slice_get xs (rank + 1) ≡ Some s))
              (ap (choices_of (cut n (k + 1))) student ∙ choices-asked n (k + 1) (log ++ rest) j s given.well whole now ∙ ap (choices_of n.papers) (sym student)) after,
        )
      ]

  -- the labels of one turn more
  pub opened : AreNotedTo n old (k + 1) noted
  opened = record {
    before = record {
      exact = λ s label here under. elim (given.notes.only s label here) [
        | inl was ↦ given.earlier.before.exact s label was (given.earlier.turns s label was)
        | inr (j, asks, is) ↦ subst (IsExact n old s) (sym is) (exact-of n old k j s (asks-now j s asks))
      ];
      standing = λ t j s under stands. elim (cases_lt t (k + 1)) [
        | inl earlier ↦
            let found = given.earlier.before.standing t j s (omega (arith, earlier)) stands in
            (found.0, found.1, given.notes.kept s (record { key = key_of n.papers j s; turn = found.0 }) found.2)
        | inr now ↦
            let same : t ≡ k + 1 = omega (arith, under, now) in
            let there : StandsAt n old (k + 1) j s = subst (λ u. StandsAt n old u j s) same stands in
            elim (has_asked (cut n k) (log_at old k) j s) [
              | inl (inl next) ↦
                  let found = given.earlier.before.standing k j s (omega arith) next in
                  (found.0, omega (arith, found.1, same), given.notes.kept s (record { key = key_of n.papers j s; turn = found.0 }) found.2)
              | inl (inr rejected) ↦ absurd (false≢true (sym (next-untried (cut n (k + 1)) (log_at old (k + 1)) j s there) ∙ ap (λ l. is_rejected l j s) (log-after old k rest given.segment) ∙ rejected-more (log_at old k) rest j s rejected))
              | inr unasked ↦ (
                k,
                omega (arith, same),
                given.notes.there j s (asks-in j s (inl there) unasked)
                    (λ rejects. false≢true (sym (next-untried (cut n (k + 1)) (log_at old (k + 1)) j s there) ∙ ap (λ l. is_rejected l j s) (log-after old k rest given.segment) ∙ rejects-rejected (log_at old k) rest j s rejects)),
              )
            ]
      ];
    };
    turns = λ s label here. elim (given.notes.only s label here) [
      | inl was ↦ omega (arith, given.earlier.turns s label was)
      | inr (j, asks, is) ↦ omega (arith, ap (λ l. l.turn) is)
    ];
    own = λ s label here. elim (given.notes.only s label here) [
      | inl was ↦ given.earlier.own s label was
      | inr (j, asks, is) ↦ subst (λ (l : Label). l.key ≡ key_of n.papers l.key.student s) (sym is) (own-key n.papers j s)
    ];
  }

-- a label at the end of one school's
pub notes-choice : (m : Market) (lists : List (List Label)) (k j s place : ℕ) (choice : Option ℕ) (turn : List Rejection) (before noted : List Label) → choice ≡ Some s → position (nat_eq s) (schools_of m) ≡ Some place → length lists ≡ length m.schools → before ≡ labels_of m lists s → noted ≡ before ++ record { key = key_of m j s; turn = k } ∷ [] → IsNotedAt m k j choice turn (labels_of m lists) (labels_of m (slice_set lists place noted))
notes-choice m lists k j s place choice turn before noted chosen at one_each is pushed = record {
  kept = λ t label here. elim (cases_eq t s) [
    | inl same ↦ subst (λ l. Contains l label) (sym (ap (labels_of m (slice_set lists place noted)) same ∙ now)) (Contains-append_left (labels_of m lists s) (one ∷ []) label (subst (λ u. Contains (labels_of m lists u) label) same here))
    | inr other ↦ subst (λ l. Contains l label) (sym (set-other m lists s t place noted at other)) here
  ];
  there = λ t is fresh. subst (λ u. Contains (labels_of m (slice_set lists place noted) u) (record { key = key_of m j u; turn = k })) (same_Some s t (sym chosen ∙ is))
      (subst (λ l. Contains l one) (sym now) (Contains-append_right (labels_of m lists s) (one ∷ []) one (contains-head one [])));
  only = λ t label here. elim (cases_eq t s) [
    | inr other ↦ inl (subst (λ l. Contains l label) (set-other m lists s t place noted at other) here)
    | inl same ↦ elim (Contains-push_cases (labels_of m lists s) one label (subst (λ l. Contains l label) (ap (labels_of m (slice_set lists place noted)) same ∙ now) here)) [
      | inl was ↦ inl (subst (λ u. Contains (labels_of m lists u) label) (sym same) was)
      | inr it ↦ inr (chosen ∙ ap Some (sym same), subst (λ u. label ≡ record { key = key_of m j u; turn = k }) (sym same) (sym it))
    ]
  ];
}
  where
    one : Label
    one = record { key = key_of m j s; turn = k }

    now : labels_of m (slice_set lists place noted) s ≡ labels_of m lists s ++ one ∷ []
    now = set-here m lists s place noted at one_each ∙ pushed ∙ ap (λ l. l ++ one ∷ []) is

-- who enters asks the first of their choices
pub notes-first : (m : Market) (k i : ℕ) (whole : List Rejection) (labels noted : ℕ → List Label) → IsNotedAt m k i (slice_get (choices_of m i) 0) whole labels noted → AreNoted m k i [] whole labels noted
notes-first m k i whole labels noted at = record {
  kept = at.kept;
  there = λ j s asks fresh. elim asks [
    | inl (same, first) ↦ subst (λ x. Contains (noted s) (record { key = key_of m x s; turn = k })) (sym same) (at.there s first (λ rejects. fresh (subst (λ x. RejectsIn whole x s) (sym same) rejects)))
    | inr (e, here, student, after) ↦ absurd (omega (arith, here.1))
  ];
  only = λ s label here. elim (at.only s label here) [
    | inl was ↦ inl was
    | inr (is, it) ↦ inr (i, inl (refl, is), it)
  ];
}

-- and whoever is rejected the choice after that one
pub notes-more : (m : Market) (k i : ℕ) (segment whole : List Rejection) (labels now noted : ℕ → List Label) (e : Rejection) (rank : ℕ) → AreNoted m k i segment whole labels now → position (λ t. t == e.school) (choices_of m e.student) ≡ Some rank → IsNotedAt m k e.student (slice_get (choices_of m e.student) (rank + 1)) whole now noted → AreNoted m k i (segment ++ e ∷ []) whole labels noted
notes-more m k i segment whole labels now noted e rank before at note = record {
  kept = λ s label here. note.kept s label (before.kept s label here);
  there = λ j s asks fresh. elim asks [
    | inl first ↦ note.kept s (record { key = key_of m j s; turn = k }) (before.there j s (inl first) fresh)
    | inr (x, here, student, after) ↦ elim (Contains-push_cases segment e x here) [
      | inl was ↦ note.kept s (record { key = key_of m j s; turn = k }) (before.there j s (inr (x, was, student, after)) fresh)
      | inr same ↦ subst (λ y. Contains (noted s) (record { key = key_of m y s; turn = k })) (ap (λ y. y.student) same ∙ student) (note.there s (choice-of s (subst (λ y. IsAfter m y s) (sym same) after)) (λ rejects. fresh (subst (λ y. RejectsIn whole y s) (ap (λ y. y.student) same ∙ student) rejects)))
    ]
  ];
  only = λ s label here. elim (note.only s label here) [
    | inr (is, it) ↦ inr (e.student, inr (e, Contains-append_right segment (e ∷ []) e (contains-head e []), refl, (rank, at, is)), it)
    | inl was ↦ elim (before.only s label was) [
      | inl first ↦ inl first
      | inr (j, asks, it) ↦ inr (j, wider j s asks, it)
    ]
  ];
}
  where
    choice-of : (s : ℕ) → IsAfter m e s → slice_get (choices_of m e.student) (rank + 1) ≡ Some s
    choice-of s (place, found, there) = ap (λ r. slice_get (choices_of m e.student) (r + 1)) (same_Some rank place (sym at ∙ found)) ∙ there

    wider : (j s : ℕ) → AsksIn m i segment j s → AsksIn m i (segment ++ e ∷ []) j s
    wider j s (inl first) = inl first
    wider j s (inr (x, here, student, after)) = inr (x, Contains-append_left segment (e ∷ []) x here, student, after)

-- before the first turn nobody stands anywhere
pub opened-none : (n : Cohort) (old : List (List Rejection)) (labels : ℕ → List Label) → WellFormed n.papers → ((s : ℕ) (label : Label) → Contains (labels s) label → ⊥) → AreNotedTo n old 0 labels
opened-none n old labels well empty = record {
  before = record {
    exact = λ s label here low. absurd (empty s label here);
    standing = λ t j s low stands.
        let first : StandsAt n old 0 j s = subst (λ u. StandsAt n old u j s) (omega (arith, low)) stands in
        absurd (false≢true (next-passes (first-students n 0 well) (log_at old 0) j s first));
  };
  turns = λ s label here. absurd (empty s label here);
  own = λ s label here. absurd (empty s label here);
}

-- whoever an entry names lists the school
pub entries-listed : (n : Cohort) (k : ℕ) → WellFormed n.papers → (more log : List Rejection) → IsValidAfter (cut n k) log more → (x : Rejection) → Contains more x → Contains (choices_of n.papers x.student) x.school
entries-listed n k well [] log valid x at = absurd (omega (arith, at.1))
entries-listed n k well (y ∷ more) log valid x at = elim (contains-cons y more x at) [
  | inl same ↦ subst (λ (z : Rejection). Contains (choices_of n.papers z.student) z.school) same
      (subst (λ xs. Contains xs y.school) (choices-entered n k y.student well (next-passes (first-students n k well) log y.student y.school valid.0.next)) (next-listed (cut n k) log y.student y.school valid.0.next))
  | inr later ↦ entries-listed n k well more (log ++ y ∷ []) valid.1 x later
]
