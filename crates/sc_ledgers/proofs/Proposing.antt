-- A proposal, by the ledger of its school.
use Rattle.std.proofs.Common.{◌≡◌, ◌⊎◌, inl, inr, refl, ap, sym, subst, ◌∙◌, ℕ, ◌+◌, List, [], ◌∷◌, ◌++◌, length, slice_get, slice_set, get_or, nat_eq, position, Option, None, Some, Contains, arith}
use Rattle.std.proofs.lemmas.Bool.{cases_eq, cases_lt}
use Rattle.std.proofs.lemmas.List.{append_assoc, length-map, get_or_default, get_or-set_same, get_or-set_other}
use Rattle.std.proofs.lemmas.Option.{same_Some}
use Rattle.sc_papers.specs.Market.{Market, choices_of, schools_of, seats_of}
use Rattle.sc_papers.specs.Key.{key_of}
use Rattle.sc_papers.specs.declared.key.Key.{Key}
use Rattle.sc_papers.specs.Log.{next_choice}
use Rattle.sc_papers.specs.Restriction.{joined}
use Rattle.sc_ledgers.specs.Cohort.{Cohort, cut}
use Rattle.sc_papers.specs.declared.rejection.Rejection.{Rejection}
use Rattle.sc_papers.proofs.Chain.{chain-ends}
use Rattle.std.specs.Option.{option_map, unwrap_or}
use Rattle.sc_papers.proofs.Positions.{position-at, position-one, position-there}
use Rattle.sc_ledgers.specs.Course.{labels_at, labels_of, AreGone, AreStruck, IsUnkeyed, Begins, Came, Course, Ended}
use Rattle.sc_ledgers.specs.Known.{IsAnswer, IsByKey}
use Rattle.sc_ledgers.specs.Ledger.{AreOwn, InTurn, IsNoted, MeansStep}
use Rattle.sc_ledgers.specs.declared.ledger.Answer.{Answer}
use Rattle.sc_ledgers.specs.declared.ledger.Answer.TheVariants.{PutsOut, Refused, Seated}
use Rattle.sc_ledgers.specs.declared.ledger.Label.{Label}
use Rattle.sc_ledgers.proofs.Answering.{answered}
use Rattle.sc_ledgers.proofs.Cohorts.{well-cut}
use Rattle.sc_ledgers.proofs.Running.{turn-ends_out, turn-ends_seated, turn-puts_out, turn-refuses}

-- one ledger in the place of another
pub set-here : (m : Market) (ledgers : List (List Label)) (s place : ℕ) (noted : List Label) → position (nat_eq s) (schools_of m) ≡ Some place → length ledgers ≡ length m.schools → labels_of m (slice_set ledgers place noted) s ≡ noted
set-here m ledgers s place noted at one_each = ap (labels_at (slice_set ledgers place noted)) at ∙ get_or-set_same ledgers place noted [] (omega (arith, (position-at (schools_of m) s place at).0, one_each, length-map m.schools (λ e. e.0)))

pub set-other : (m : Market) (ledgers : List (List Label)) (s t place : ℕ) (noted : List Label) → position (nat_eq s) (schools_of m) ≡ Some place → (t ≡ s → ⊥) → labels_of m (slice_set ledgers place noted) t ≡ labels_of m ledgers t
set-other m ledgers s t place noted at other = go (position (nat_eq t) (schools_of m)) refl
  where
    go : (found : Option ℕ) → position (nat_eq t) (schools_of m) ≡ found → labels_of m (slice_set ledgers place noted) t ≡ labels_of m ledgers t
    go None is = ap (labels_at (slice_set ledgers place noted)) is ∙ sym (ap (labels_at ledgers) is)
    go (Some q) is =
        ap (labels_at (slice_set ledgers place noted)) is
        ∙ get_or-set_other ledgers place q noted [] (λ same. other (position-one (schools_of m) s t place at (is ∙ ap Some same)))
        ∙ sym (ap (labels_at ledgers) is)

-- the ledger of one school has changed
pub noted-at : (m : Market) (ledgers : List (List Label)) (s place k : ℕ) (key : Key) (before noted : List Label) → position (nat_eq s) (schools_of m) ≡ Some place → length ledgers ≡ length m.schools → before ≡ labels_of m ledgers s → Contains noted (record { key = key; turn = k }) → ((label : Label) → Contains before label → (label.key ≡ key → ⊥) → Contains noted label) → ((label : Label) → Contains noted label → Contains before label ⊎ (label ≡ record { key = key; turn = k })) → IsNoted key k s (labels_of m ledgers) (labels_of m (slice_set ledgers place noted))
noted-at m ledgers s place k key before noted at one_each is there kept only = record {
  there = subst (λ l. Contains l (record { key = key; turn = k })) (sym here) there;
  kept = λ t label old apart. elim (cases_eq t s) [
    | inl same ↦
        subst (λ l. Contains l label) (sym (ap (labels_of m (slice_set ledgers place noted)) same ∙ here))
        (kept label (subst (λ l. Contains l label) (ap (labels_of m ledgers) same ∙ sym is) old)
        (elim apart [ inl other ↦ other | inr elsewhere ↦ absurd (elsewhere same) ]))
    | inr other ↦ subst (λ l. Contains l label) (sym (others t other)) old
  ];
  only = λ t label after. elim (cases_eq t s) [
    | inl same ↦ elim (only label (subst (λ l. Contains l label) (ap (labels_of m (slice_set ledgers place noted)) same ∙ here) after)) [
      | inl old ↦ inl (subst (λ l. Contains l label) (is ∙ sym (ap (labels_of m ledgers) same)) old)
      | inr it ↦ inr (same, it)
    ]
    | inr other ↦ inl (subst (λ l. Contains l label) (others t other) after)
  ];
}
  where
    here : labels_of m (slice_set ledgers place noted) s ≡ noted
    here = set-here m ledgers s place noted at one_each

    others : (t : ℕ) → (t ≡ s → ⊥) → labels_of m (slice_set ledgers place noted) t ≡ labels_of m ledgers t
    others t other = set-other m ledgers s t place noted at other

-- there is no choice left
pub ends-out : (n : Cohort) (new : List (List Rejection)) (k : ℕ) (chain : List Rejection) (i rank : ℕ) (labels now : ℕ → List Label) → Begins n new k labels → Course n new k (joined new ++ chain) i rank labels now → slice_get (choices_of n.papers i) rank ≡ None → Ended n new k chain labels now
ends-out n new k chain i rank labels now begins course none =
    let out : next_choice (cut n (k + 1)) (joined new ++ chain) i ≡ None = course.next ∙ none in
    record {
      settled = chain-ends (cut n (k + 1)) (well-cut n (k + 1) begins.well) (joined new ++ chain) i course.turn.asking.chain (inl out);
      relabels = turn-ends_out n new k chain i labels now begins.as_many course.turn out;
      own = course.own;
    }

own-noted : (n : Market) (k hand s : ℕ) (now noted : ℕ → List Label) → AreOwn n now → IsNoted (key_of n hand s) k s now noted → AreOwn n noted
unfolding key_of
own-noted n k hand s now noted own notes t label at = elim (notes.only t label at) [
  | inl before ↦ own t label before
  | inr (same, it) ↦ ap (λ l. l.key) it ∙ ap (key_of n hand) (sym same) ∙ ap (λ j. key_of n j t) (sym (ap (λ l. l.key.student) it))
]

-- what comes of a proposal at a school, by its answer
pub comes : (n : Cohort) (new : List (List Rejection)) (k : ℕ) (chain : List Rejection) (i rank s seats : ℕ) (labels now : ℕ → List Label) (key : Key) (answer : Answer) → Begins n new k labels → Course n new k (joined new ++ chain) i rank labels now → slice_get (choices_of n.papers i) rank ≡ Some s → IsByKey (now s) → seats ≡ seats_of n.papers s → key ≡ key_of n.papers i s → IsAnswer k (now s) seats key answer → MeansStep (cut n (k + 1)) (joined new ++ chain) i s answer
comes n new k chain i rank s seats labels now key answer begins course listed sorted same is told =
    answered n new k (joined new ++ chain) i s seats labels now key answer begins.well (well-cut n (k + 1) begins.well) course.turn course.own sorted (course.next ∙ listed) same is told

pub ends-seated : (n : Cohort) (new : List (List Rejection)) (k : ℕ) (chain : List Rejection) (i rank s : ℕ) (labels now noted : ℕ → List Label) (key : Key) → Begins n new k labels → Course n new k (joined new ++ chain) i rank labels now → slice_get (choices_of n.papers i) rank ≡ Some s → key ≡ key_of n.papers i s → IsNoted key k s now noted → MeansStep (cut n (k + 1)) (joined new ++ chain) i s Seated → Ended n new k chain labels noted
ends-seated n new k chain i rank s labels now noted key begins course listed is notes room =
    let next : next_choice (cut n (k + 1)) (joined new ++ chain) i ≡ Some s = course.next ∙ listed in
    let noting : IsNoted (key_of n.papers i s) k s now noted = subst (λ x. IsNoted x k s now noted) is notes in
    record {
      settled = chain-ends (cut n (k + 1)) (well-cut n (k + 1) begins.well) (joined new ++ chain) i course.turn.asking.chain (inr (s, next, room));
      relabels = turn-ends_seated n new k chain i s labels now noted begins.as_many course.turn next noting;
      own = own-noted n.papers k i s now noted course.own noting;
    }

pub goes-refused : (n : Cohort) (new : List (List Rejection)) (k : ℕ) (chain : List Rejection) (i rank s : ℕ) (labels now : ℕ → List Label) → Begins n new k labels → Course n new k (joined new ++ chain) i rank labels now → slice_get (choices_of n.papers i) rank ≡ Some s → MeansStep (cut n (k + 1)) (joined new ++ chain) i s Refused → Came n new k chain labels now (Some (record { student = i; school = s }))
goes-refused n new k chain i rank s labels now begins course listed out = (
  subst (λ log. InTurn n new k log i labels now) (append_assoc (joined new) chain (record { student = i; school = s } ∷ []))
      (turn-refuses n new k (joined new ++ chain) labels now (record { student = i; school = s }) (well-cut n (k + 1) begins.well) course.turn out),
  course.own,
  course.next ∙ listed,
)

pub goes-put_out : (n : Cohort) (new : List (List Rejection)) (k : ℕ) (chain : List Rejection) (i rank s : ℕ) (labels now noted : ℕ → List Label) (key last : Key) → Begins n new k labels → Course n new k (joined new ++ chain) i rank labels now → slice_get (choices_of n.papers i) rank ≡ Some s → key ≡ key_of n.papers i s → IsNoted key k s now noted → MeansStep (cut n (k + 1)) (joined new ++ chain) i s (PutsOut last) → Came n new k chain labels noted (Some (record { student = last.student; school = s }))
goes-put_out n new k chain i rank s labels now noted key last begins course listed is notes (out, other) =
    let noting : IsNoted (key_of n.papers i s) k s now noted = subst (λ x. IsNoted x k s now noted) is notes in
    let e : Rejection = record { student = last.student; school = s } in (
      subst (λ log. InTurn n new k log last.student labels noted) (append_assoc (joined new) chain (e ∷ []))
          (turn-puts_out n new k (joined new ++ chain) i labels now noted e begins.well (well-cut n (k + 1) begins.well) course.turn out other noting),
      own-noted n.papers k i s now noted course.own noting,
      out.there,
    )

-- the ledger and the seats of a school at a position
pub ledger-here : (m : Market) (ledgers : List (List Label)) (s place : ℕ) (d : List Label) → position (nat_eq s) (schools_of m) ≡ Some place → length ledgers ≡ length m.schools → d ≡ get_or ledgers place d → d ≡ labels_of m ledgers s
ledger-here m ledgers s place d at one_each is =
    is ∙ get_or_default ledgers place d [] (omega (arith, (position-at (schools_of m) s place at).0, one_each, length-map m.schools (λ e. e.0))) ∙ sym (ap (labels_at ledgers) at)

pub seats-here : (m : Market) (s place : ℕ) (found : Option ℕ) → position (nat_eq s) (schools_of m) ≡ Some place → found ≡ option_map (seats_of m) (slice_get (schools_of m) place) → unwrap_or found 0 ≡ seats_of m s
seats-here m s place found at is = ap (λ o. unwrap_or o 0) (is ∙ ap (option_map (seats_of m)) (position-there (schools_of m) s place at))

-- some labels of one school have been struck
pub struck-at : (m : Market) (ledgers : List (List Label)) (s place k : ℕ) (key : Key) (before struck : List Label) → position (nat_eq s) (schools_of m) ≡ Some place → length ledgers ≡ length m.schools → before ≡ labels_of m ledgers s → ((label : Label) → Contains before label → (label.key ≡ key → label.turn ≡ k → ⊥) → Contains struck label) → ((label : Label) → Contains struck label → Contains before label × (label.key ≡ key → label.turn ≡ k → ⊥)) → AreStruck k (labels_of m ledgers) (labels_of m (slice_set ledgers place struck))
struck-at m ledgers s place k key before struck at one_each is kept only = record {
  kept = λ t label old other. elim (cases_eq t s) [
    | inl same ↦
        subst (λ l. Contains l label) (sym (ap (labels_of m (slice_set ledgers place struck)) same ∙ set-here m ledgers s place struck at one_each))
        (kept label (subst (λ l. Contains l label) (ap (labels_of m ledgers) same ∙ sym is) old) (λ one turn. other turn))
    | inr apart ↦ subst (λ l. Contains l label) (sym (set-other m ledgers s t place struck at apart)) old
  ];
  only = λ t label after. elim (cases_eq t s) [
    | inl same ↦ subst (λ l. Contains l label) (is ∙ sym (ap (labels_of m ledgers) same)) (only label (subst (λ l. Contains l label) (ap (labels_of m (slice_set ledgers place struck)) same ∙ set-here m ledgers s place struck at one_each) after)).0
    | inr apart ↦ subst (λ l. Contains l label) (set-other m ledgers s t place struck at apart) after
  ];
}

-- the label of a key of one school has been struck
pub unkeyed-at : (m : Market) (ledgers : List (List Label)) (s place : ℕ) (key : Key) (before struck : List Label) → position (nat_eq s) (schools_of m) ≡ Some place → length ledgers ≡ length m.schools → before ≡ labels_of m ledgers s → ((label : Label) → Contains before label → (label.key ≡ key → ⊥) → Contains struck label) → ((label : Label) → Contains struck label → Contains before label × (label.key ≡ key → ⊥)) → IsUnkeyed key s (labels_of m ledgers) (labels_of m (slice_set ledgers place struck))
unkeyed-at m ledgers s place key before struck at one_each is kept only = record {
  kept = λ t label old apart. elim (cases_eq t s) [
    | inl same ↦
        subst (λ l. Contains l label) (sym (ap (labels_of m (slice_set ledgers place struck)) same ∙ set-here m ledgers s place struck at one_each))
        (kept label (subst (λ l. Contains l label) (ap (labels_of m ledgers) same ∙ sym is) old) (elim apart [ inl other ↦ other | inr elsewhere ↦ absurd (elsewhere same) ]))
    | inr other ↦ subst (λ l. Contains l label) (sym (set-other m ledgers s t place struck at other)) old
  ];
  only = λ t label after. elim (cases_eq t s) [
    | inl same ↦
        let found = only label (subst (λ l. Contains l label) (ap (labels_of m (slice_set ledgers place struck)) same ∙ set-here m ledgers s place struck at one_each) after) in
        (subst (λ l. Contains l label) (is ∙ sym (ap (labels_of m ledgers) same)) found.0, λ it. found.1)
    | inr other ↦ (subst (λ l. Contains l label) (set-other m ledgers s t place struck at other) after, λ it. absurd (other it))
  ];
}

-- one more of a student's labels is gone
pub gone-more : (m : Market) (i rank s : ℕ) (labels now struck : ℕ → List Label) → slice_get (choices_of m i) rank ≡ Some s → AreGone m i rank labels now → IsUnkeyed (key_of m i s) s now struck → AreGone m i (rank + 1) labels struck
unfolding key_of
gone-more m i rank s labels now struck listed before one = record {
  kept = λ t label here apart. one.kept t label (before.kept t label here apart) (inl (λ same. apart (ap (λ k. k.student) same)));
  only = λ t label here. before.only t label (one.only t label here).0;
  none = λ r t label low at here same. elim (cases_lt r rank) [
    | inl earlier ↦ before.none r t label earlier at (one.only t label here).0 same
    | inr now ↦
        let it : t ≡ s = same_Some t s (sym at ∙ ap (slice_get (choices_of m i)) (omega (arith, low, now)) ∙ listed) in
        (one.only t label here).1 it (same ∙ ap (key_of m i) it)
  ];
}
