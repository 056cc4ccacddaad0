-- The chain of a turn, by the ledgers of all schools.
use Rattle.std.proofs.Common.{◌≡◌, inl, inr, ap, sym, subst, ◌∙◌, ℕ, ◌<◌, ◌+◌, true, List, [], ◌∷◌, ◌++◌, length, slice_get, None, Some, Contains, arith}
use Rattle.std.proofs.lemmas.Bool.{cases_eq, false≢true}
use Rattle.std.proofs.lemmas.Option.{none-some, same_Some}
use Rattle.sc_papers.specs.Market.{students_of}
use Rattle.sc_papers.specs.WellFormed.{WellFormed}
use Rattle.sc_papers.specs.Key.{key_of}
use Rattle.sc_papers.specs.Log.{is_rejected, next_choice}
use Rattle.sc_papers.specs.Chain.{PutsOut}
use Rattle.sc_papers.specs.Restriction.{joined}
use Rattle.sc_ledgers.specs.Cohort.{Cohort, cut, IsRunTo}
use Rattle.sc_papers.specs.declared.rejection.Rejection.{Rejection}
use Rattle.sc_papers.proofs.Chain.{put-out-valid}
use Rattle.sc_papers.proofs.Progress.{rejected-here}
use Rattle.sc_papers.proofs.Rejections.{next-same}
use Rattle.sc_papers.proofs.Subsets.{next-passes}
use Rattle.sc_ledgers.specs.Ledger.{AreLabelsBefore, HasAsked, HasAskedBy, InTurn, IsExact, IsNoted, Relabels, StandsAt}
use Rattle.sc_ledgers.specs.declared.ledger.Label.{Label}
use Rattle.sc_ledgers.proofs.Asking.{refused-step, seated-step}
use Rattle.sc_ledgers.proofs.Beginning.{asked-by, begins-asking, key-first, not-yet, not_now}
use Rattle.sc_ledgers.proofs.Others.{rejected-kept}
use Rattle.sc_ledgers.proofs.Staying.{asked-push, log-kept, log-new, log-whole, next-untried, rejected-more}
use Rattle.sc_ledgers.proofs.Cohorts.{first-students, next-with, next-without, run-settled}
use Rattle.sc_papers.proofs.Cutting.{joined-push}

-- the student of a turn has asked nobody before it
pub asked-nobody : (n : Cohort) (new : List (List Rejection)) (k i : ℕ) → WellFormed n.papers → slice_get (students_of n.papers) k ≡ Some i → IsRunTo n k new → length new ≡ k → (s : ℕ) → HasAskedBy n new k i s → ⊥
asked-nobody n new k i well here newer as_many s asked =
    false≢true (sym (not-yet n k i well here) ∙ elim (subst (λ l. HasAsked (cut n k) l i s) (log-new new k as_many) asked) [
      | inl next ↦ next-passes (first-students n k well) (joined new) i s next
      | inr rejected ↦ rejected-kept (first-students n k well) (joined new) (run-settled n k new newer).valid i s rejected
    ])

-- so no label of a turn before is theirs
pub none-before : (n : Cohort) (new : List (List Rejection)) (k i : ℕ) (labels : ℕ → List Label) → WellFormed n.papers → slice_get (students_of n.papers) k ≡ Some i → IsRunTo n k new → length new ≡ k → AreLabelsBefore n new k labels → (s : ℕ) (label : Label) → Contains (labels s) label → label.turn < k → label.key.student ≡ i → ⊥
none-before n new k i labels well here newer as_many before s label at earlier same =
    asked-nobody n new k i well here newer as_many s (subst (λ j. HasAskedBy n new k j s) same (asked-by n new k i labels well here newer as_many before s label at earlier))

pub turn-begins : (n : Cohort) (new : List (List Rejection)) (k i : ℕ) (labels : ℕ → List Label) → WellFormed n.papers → slice_get (students_of n.papers) k ≡ Some i → n.enters i ≡ true → IsRunTo n k new → length new ≡ k → AreLabelsBefore n new k labels → ((s : ℕ) (label : Label) → Contains (labels s) label → label.turn ≡ k → ⊥) → InTurn n new k (joined new) i labels labels
turn-begins n new k i labels well here turn newer as_many before none = record {
  asking = begins-asking n new k i labels well here turn newer as_many before none;
  since = λ j s asked. elim (subst (λ l. HasAsked (cut n k) l j s) (log-new new k as_many) asked) [
    | inl next ↦ inl (next-with n k i well here (joined new) j s next)
    | inr rejected ↦ inr rejected
  ];
  moved = λ s asked. absurd (asked-nobody n new k i well here newer as_many s asked);
  behind = λ s label at low same.
      absurd (none-before n new k i labels well here newer as_many before s label at (not_now label.turn k (none s label at) low) same);
  kept = λ s label at. inl at;
  others = λ s label at other. at;
  own = λ s label at same. absurd (none s label at same);
  noted = λ j s next other unasked. absurd (unasked (inl (subst (λ l. next_choice (cut n k) l j ≡ Some s) (sym (log-new new k as_many)) (next-without n k i well here (joined new) j s other next))));
}

-- the one in hand is refused
pub turn-refuses : (n : Cohort) (new : List (List Rejection)) (k : ℕ) (log : List Rejection) (labels now : ℕ → List Label) (e : Rejection) → WellFormed (cut n (k + 1)) → InTurn n new k log e.student labels now → PutsOut (cut n (k + 1)) log e.student e.school e.student → InTurn n new k (log ++ e ∷ []) e.student labels now
turn-refuses n new k log labels now e well turn puts =
    let m = cut n (k + 1) in
    let valid = put-out-valid m well log e.student e puts in
    record {
      asking = refused-step m well log k now e turn.asking puts;
      since = λ j s asked. asked-push m log e j s valid (turn.since j s asked);
      moved = λ s asked. rejected-more log (e ∷ []) e.student s (turn.moved s asked);
      behind = λ s label at low same. rejected-more log (e ∷ []) e.student s (turn.behind s label at low same);
      kept = λ s label at. elim (turn.kept s label at) [
        | inl stays ↦ inl stays
        | inr (asked, unasked) ↦ inr (asked-push m log e label.key.student s valid asked, unasked)
      ];
      others = turn.others;
      own = λ s label at same.
          let found = turn.own s label at same in
          (asked-push m log e label.key.student s valid found.0, found.1);
      noted = λ j s next other unasked. turn.noted j s (sym (next-same m log e j (λ same. other (sym same))) ∙ next) other unasked;
    }

-- the one in hand asks a school that they had not asked before
unasked-yet : (n : Cohort) (new : List (List Rejection)) (k : ℕ) (log : List Rejection) (hand s : ℕ) (labels now : ℕ → List Label) → InTurn n new k log hand labels now → next_choice (cut n (k + 1)) log hand ≡ Some s → HasAskedBy n new k hand s → ⊥
unasked-yet n new k log hand s labels now turn next asked = false≢true (sym (next-untried (cut n (k + 1)) log hand s next) ∙ turn.moved s asked)

-- another one is put out
pub turn-puts_out : (n : Cohort) (new : List (List Rejection)) (k : ℕ) (log : List Rejection) (hand : ℕ) (labels now noted : ℕ → List Label) (e : Rejection) → WellFormed n.papers → WellFormed (cut n (k + 1)) → InTurn n new k log hand labels now → PutsOut (cut n (k + 1)) log hand e.school e.student → (hand ≡ e.student → ⊥) → IsNoted (key_of n.papers hand e.school) k e.school now noted → InTurn n new k (log ++ e ∷ []) e.student labels noted
unfolding key_of
turn-puts_out n new k log hand labels now noted e whole well turn puts other notes =
    let m = cut n (k + 1) in
    let valid = put-out-valid m well log hand e puts in
    let key : key_of m hand e.school ≡ key_of n.papers hand e.school = key-first n (k + 1) hand e.school e.school log whole puts.proposes in
    let next_stays : next_choice m (log ++ e ∷ []) hand ≡ Some e.school = next-same m log e hand (λ same. other (sym same)) ∙ puts.proposes in
    let fresh : HasAskedBy n new k hand e.school → ⊥ = unasked-yet n new k log hand e.school labels now turn puts.proposes in
    let out : (s : ℕ) → HasAsked m log e.student s → is_rejected (log ++ e ∷ []) e.student s ≡ true = λ s asked. elim asked [
      | inl next ↦ subst (λ t. is_rejected (log ++ e ∷ []) e.student t ≡ true) (same_Some e.school s (sym puts.there ∙ next)) (rejected-here log e)
      | inr rejected ↦ rejected-more log (e ∷ []) e.student s rejected
    ] in
    let other_key : (label : Label) → (label.key.student ≡ hand → ⊥) → label.key ≡ key_of n.papers hand e.school → ⊥ = λ label apart same. apart (ap (λ x. x.student) same) in
    record {
      asking = seated-step m well log hand k now noted e turn.asking puts other (subst (λ x. IsNoted x k e.school now noted) (sym key) notes);
      since = λ j s asked. asked-push m log e j s valid (turn.since j s asked);
      moved = λ s asked. out s (turn.since e.student s asked);
      behind = λ s label at low same. elim (notes.only s label at) [
        | inl before ↦ out s (subst (λ j. HasAsked m log j s) same (turn.asking.asked s label before low))
        | inr (school, is) ↦ absurd (other (sym (ap (λ l. l.key.student) is) ∙ same))
      ];
      kept = λ s label at. elim (turn.kept s label at) [
        | inr (asked, unasked) ↦ inr (asked-push m log e label.key.student s valid asked, unasked)
        | inl stays ↦ elim (cases_eq label.key.student hand) [
          | inr apart ↦ inl (notes.kept s label stays (inl (other_key label apart)))
          | inl same ↦ elim (cases_eq s e.school) [
            | inr elsewhere ↦ inl (notes.kept s label stays (inr elsewhere))
            | inl school ↦
                inr (
                  subst (λ j. HasAsked m (log ++ e ∷ []) j s) (sym same) (inl (next_stays ∙ ap Some (sym school))),
                  λ asked. fresh (subst (λ t. HasAskedBy n new k hand t) school (subst (λ j. HasAskedBy n new k j s) same asked)),
                )
          ]
        ]
      ];
      others = λ s label at apart. elim (notes.only s label at) [
        | inl before ↦ turn.others s label before apart
        | inr (school, is) ↦ absurd (apart (ap (λ l. l.turn) is))
      ];
      own = λ s label at same. elim (notes.only s label at) [
        | inl before ↦
            let found = turn.own s label before same in
            (asked-push m log e label.key.student s valid found.0, found.1)
        | inr (school, is) ↦
            let student : label.key.student ≡ hand = ap (λ l. l.key.student) is in (
              subst (λ j. HasAsked m (log ++ e ∷ []) j s) (sym student) (inl (next_stays ∙ ap Some (sym school))),
              λ asked. fresh (subst (λ t. HasAskedBy n new k hand t) school (subst (λ j. HasAskedBy n new k j s) student asked)),
            )
      ];
      noted = λ j s next apart unasked. elim (cases_eq j hand) [
        | inl same ↦
            let school : e.school ≡ s = same_Some e.school s (sym next_stays ∙ ap (next_choice m (log ++ e ∷ [])) (sym same) ∙ next) in
            subst (λ t. Contains (noted t) (record { key = key_of n.papers j t; turn = k })) school
            (subst (λ i. Contains (noted e.school) (record { key = key_of n.papers i e.school; turn = k })) (sym same) notes.there)
        | inr others ↦
            notes.kept s (record { key = key_of n.papers j s; turn = k })
            (turn.noted j s (sym (next-same m log e j (λ same. apart (sym same))) ∙ next) others unasked)
            (inl (λ same. others (ap (λ x. x.student) same)))
      ];
    }

-- who has asked a school by the end of the turn, in the words of a run
by_now : (n : Cohort) (new : List (List Rejection)) (k : ℕ) (chain : List Rejection) → length new ≡ k → (j s : ℕ) → HasAsked (cut n (k + 1)) (joined new ++ chain) j s → HasAskedBy n (new ++ chain ∷ []) (k + 1) j s
by_now n new k chain as_many j s asked = subst (λ l. HasAsked (cut n (k + 1)) l j s) (sym (log-whole new chain k as_many ∙ joined-push new chain)) asked

and_back : (n : Cohort) (new : List (List Rejection)) (k : ℕ) (chain : List Rejection) → length new ≡ k → (j s : ℕ) → StandsAt n (new ++ chain ∷ []) (k + 1) j s → next_choice (cut n (k + 1)) (joined new ++ chain) j ≡ Some s
and_back n new k chain as_many j s stands = subst (λ l. next_choice (cut n (k + 1)) l j ≡ Some s) (log-whole new chain k as_many ∙ joined-push new chain) stands

-- a label of the turn is exact
exact-now : (n : Cohort) (new : List (List Rejection)) (k : ℕ) (chain : List Rejection) → length new ≡ k → (s : ℕ) (label : Label) → label.turn ≡ k → HasAsked (cut n (k + 1)) (joined new ++ chain) label.key.student s → (HasAskedBy n new k label.key.student s → ⊥) → IsExact n (new ++ chain ∷ []) s label
exact-now n new k chain as_many s label same asked unasked = record {
  asked = subst (λ t. HasAskedBy n (new ++ chain ∷ []) (t + 1) label.key.student s) (sym same) (by_now n new k chain as_many label.key.student s asked);
  not_before = λ before.
      let at : HasAskedBy n (new ++ chain ∷ []) k label.key.student s = subst (λ t. HasAskedBy n (new ++ chain ∷ []) t label.key.student s) same before in
      unasked (subst (λ l. HasAsked (cut n k) l label.key.student s) (log-kept new chain k (omega (arith, as_many))) at);
}

-- the one in hand has no choice left
pub turn-ends_out : (n : Cohort) (new : List (List Rejection)) (k : ℕ) (chain : List Rejection) (hand : ℕ) (labels now : ℕ → List Label) → length new ≡ k → InTurn n new k (joined new ++ chain) hand labels now → next_choice (cut n (k + 1)) (joined new ++ chain) hand ≡ None → Relabels n new chain k labels now
turn-ends_out n new k chain hand labels now as_many turn none = record {
  kept = λ s label at other unless. elim (turn.kept s label at) [
    | inl stays ↦ stays
    | inr (asked, unasked) ↦ absurd (unasked (unless (by_now n new k chain as_many label.key.student s asked)))
  ];
  others = turn.others;
  own = λ s label at same.
      let found = turn.own s label at same in
      exact-now n new k chain as_many s label same found.0 found.1;
  noted = λ j s stands unasked.
      let next = and_back n new k chain as_many j s stands in
      turn.noted j s next (λ same. none-some s (sym none ∙ ap (next_choice (cut n (k + 1)) (joined new ++ chain)) (sym same) ∙ next)) unasked;
}

-- the one in hand is seated
pub turn-ends_seated : (n : Cohort) (new : List (List Rejection)) (k : ℕ) (chain : List Rejection) (hand school : ℕ) (labels now noted : ℕ → List Label) → length new ≡ k → InTurn n new k (joined new ++ chain) hand labels now → next_choice (cut n (k + 1)) (joined new ++ chain) hand ≡ Some school → IsNoted (key_of n.papers hand school) k school now noted → Relabels n new chain k labels noted
unfolding key_of
turn-ends_seated n new k chain hand school labels now noted as_many turn next notes =
    let m = cut n (k + 1) in
    let log = joined new ++ chain in
    let fresh : HasAskedBy n new k hand school → ⊥ = unasked-yet n new k log hand school labels now turn next in
    let asked_now : (s j : ℕ) → s ≡ school → j ≡ hand → HasAsked m log j s = λ s j same_s same_j. inl (ap (next_choice m log) same_j ∙ next ∙ ap Some (sym same_s)) in
    let not_before : (s j : ℕ) → s ≡ school → j ≡ hand → HasAskedBy n new k j s → ⊥ = λ s j same_s same_j asked. fresh (subst (λ t. HasAskedBy n new k hand t) same_s (subst (λ i. HasAskedBy n new k i s) same_j asked)) in
    record {
      kept = λ s label at other unless. elim (turn.kept s label at) [
        | inr (asked, unasked) ↦ absurd (unasked (unless (by_now n new k chain as_many label.key.student s asked)))
        | inl stays ↦ elim (cases_eq label.key.student hand) [
          | inr apart ↦ notes.kept s label stays (inl (λ same. apart (ap (λ x. x.student) same)))
          | inl same ↦ elim (cases_eq s school) [
            | inr elsewhere ↦ notes.kept s label stays (inr elsewhere)
            | inl is ↦ absurd (not_before s label.key.student is same (unless (by_now n new k chain as_many label.key.student s (asked_now s label.key.student is same))))
          ]
        ]
      ];
      others = λ s label at apart. elim (notes.only s label at) [
        | inl before ↦ turn.others s label before apart
        | inr (is, that) ↦ absurd (apart (ap (λ l. l.turn) that))
      ];
      own = λ s label at same. elim (notes.only s label at) [
        | inl before ↦
            let found = turn.own s label before same in
            exact-now n new k chain as_many s label same found.0 found.1
        | inr (is, that) ↦
            let student : label.key.student ≡ hand = ap (λ l. l.key.student) that in
            exact-now n new k chain as_many s label same (asked_now s label.key.student is student) (not_before s label.key.student is student)
      ];
      noted = λ j s stands unasked.
          let there = and_back n new k chain as_many j s stands in
          elim (cases_eq j hand) [
            | inl same ↦
                let is : school ≡ s = same_Some school s (sym next ∙ ap (next_choice m log) (sym same) ∙ there) in
                subst (λ t. Contains (noted t) (record { key = key_of n.papers j t; turn = k })) is
                (subst (λ i. Contains (noted school) (record { key = key_of n.papers i school; turn = k })) (sym same) notes.there)
            | inr others ↦ notes.kept s (record { key = key_of n.papers j s; turn = k }) (turn.noted j s there others unasked) (inl (λ same. others (ap (λ x. x.student) same)))
          ];
    }
