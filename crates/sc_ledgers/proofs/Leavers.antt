-- A student who has not entered leaves the papers: the run goes on without their turn.
use Rattle.std.proofs.Common.{◌≡◌, inl, inr, refl, ap, sym, subst, ◌∙◌, ℕ, zero, suc, ◌≤◌, ◌<◌, ◌+◌, ◌-◌, ◌==◌, true, false, not, List, [], ◌∷◌, ◌++◌, length, drop, get_or, map, nat_eq, remove, take, slice_get, position as position_of, Option, None, Some, Contains, add-one, append-nil, arith}
use Rattle.std.proofs.lemmas.Bool.{and_parts, cases_lt, eq-eqb}
use Rattle.std.proofs.lemmas.Bool.Decides.{nat_tests}
use Rattle.std.proofs.lemmas.List.{drop_all, length-append, length-take-le, take_all, take-append-le, take-take}
use Rattle.std.proofs.lemmas.List.Edits.{length-remove}
use Rattle.std.proofs.lemmas.Option.{slice_get-get_or, slice_get_within}
use Rattle.sc_papers.specs.Market.{Market, schools_of, students_of}
use Rattle.sc_papers.specs.WellFormed.{WellFormed}
use Rattle.sc_papers.specs.Key.{key_of}
use Rattle.sc_papers.specs.Log.{next_choice, IsSettled}
use Rattle.sc_papers.specs.Restriction.{is_among_first, joined}
use Rattle.sc_papers.specs.Verdict.{after, without_student}
use Rattle.sc_papers.specs.declared.amendment.Amendment.TheVariants.{Withdraw}
use Rattle.sc_papers.specs.declared.rejection.Rejection.{Rejection}
use Rattle.sc_papers.proofs.Counting.{contains-cons, contains-head, contains-tail}
use Rattle.sc_papers.proofs.Progress.{same-length}
use Rattle.sc_ledgers.specs.Cohort.{Cohort, cohort, cut}
use Rattle.sc_ledgers.specs.Course.{labels_at, labels_of}
use Rattle.sc_ledgers.specs.Ledger.{log_at, HasAskedBy, IsExact, StandsAt}
use Rattle.sc_ledgers.specs.Left.{label_without, turn_without, AreWithout}
use Rattle.sc_ledgers.specs.Opening.{everybody}
use Rattle.sc_ledgers.specs.Whole.{AreWhole}
use Rattle.sc_ledgers.specs.declared.ledger.Label.{Label}
use Rattle.sc_ledgers.proofs.Beginning.{key-within, not_now}
use Rattle.sc_ledgers.proofs.Cohorts.{cut-none, well-cut}
use Rattle.sc_ledgers.proofs.Sharing.{asked-entered, asked-shared}
use Rattle.sc_ledgers.proofs.Staying.{log-after}
use Rattle.sc_ledgers.proofs.Without.{but, cut-before, cut-behind, joined-behind, students-without, without-restricted}

-- once a loop has passed all items, each was changed
pub map-over-all : {X : Type 0} (f : X → X) (xs ys : List X) (at : ℕ) → length xs ≤ at → ys ≡ map f (take at xs) ++ drop at xs → ys ≡ map f xs
map-over-all f xs ys at past is = is ∙ ap (λ l. map f (take at xs) ++ l) (drop_all at xs past) ∙ append-nil (map f (take at xs)) ∙ ap (map f) (take_all at xs past)

-- the labels of each school, by the list of all ledgers
pub labels-without : (m : Market) (position : ℕ) (ledgers left : List (List Label)) → left ≡ map (map (label_without position)) ledgers → AreWithout position (labels_of m ledgers) (labels_of m left)
labels-without m position ledgers left is s = ap (λ all. labels_of m all s) is ∙ go (position_of (nat_eq s) (schools_of m))
  where
    there : (all : List (List Label)) (place : ℕ) → get_or (map (map (label_without position)) all) place [] ≡ map (label_without position) (get_or all place [])
    there [] place = refl
    there (labels ∷ all) zero = refl
    there (labels ∷ all) (suc place) = there all place

    go : (found : Option ℕ) → labels_at (map (map (label_without position)) ledgers) found ≡ map (label_without position) (labels_at ledgers found)
    go None = refl
    go (Some place) = there ledgers place

-- a label that is left was there
contains-map : {X Y : Type 0} (f : X → Y) (xs : List X) (y : Y) → Contains (map f xs) y → (x : X) × Contains xs x × (y ≡ f x)
contains-map f [] y here = absurd (omega (arith, here.1))
contains-map f (x ∷ xs) y here = elim (contains-cons (f x) (map f xs) y here) [
  | inl same ↦ (x, contains-head x xs, sym same)
  | inr later ↦ let found = contains-map f xs y later in (found.0, contains-tail x xs found.0 found.1, found.2)
]

map-contains : {X Y : Type 0} (f : X → Y) (xs : List X) (x : X) → Contains xs x → Contains (map f xs) (f x)
map-contains f [] x here = absurd (omega (arith, here.1))
map-contains f (z ∷ xs) x here = elim (contains-cons z xs x here) [
  | inl same ↦ subst (λ y. Contains (map f (z ∷ xs)) (f y)) same (contains-head (f z) (map f xs))
  | inr later ↦ contains-tail (f z) (map f xs) (f x) (map-contains f xs x later)
]

-- turns before the one at the position stay, and those behind go down
turn-before : (position turn : ℕ) → turn ≤ position → turn_without position turn ≡ turn
turn-before position turn low = grind (arith, nat_tests)

turn-behind : (position turn : ℕ) → position < turn → turn_without position turn ≡ turn - 1
turn-behind position turn high = grind (arith, nat_tests)

-- what settles the same papers after a settled log is nothing
nothing-more : (m : Market) → WellFormed m → (log rest : List Rejection) → IsSettled m log → IsSettled m (log ++ rest) → rest ≡ []
nothing-more m well log [] before after = refl
nothing-more m well log (e ∷ rest) before after = absurd (omega (arith, same-length m well log (log ++ e ∷ rest) before after, length-append log (e ∷ rest)))

-- the segments without the one at a position: up to it the log is the same
log-before : (segments : List (List Rejection)) (position t : ℕ) → position ≤ length segments → t ≤ position → log_at (remove segments position) t ≡ log_at segments t
log-before segments position t within low =
    ap joined (take-append-le t (take position segments) (drop (suc position) segments) (omega (arith, low, length-take-le position segments within)) ∙ take-take t position segments low)

-- the papers without a student, of whom everybody enters
abbrev pub all_but : Cohort → ℕ → Cohort
all_but c i = cohort (without_student c.papers i) everybody

module _ (c : Cohort) (position i : ℕ) (segments : List (List Rejection)) (labels : ℕ → List Label) (well : WellFormed c.papers) (here : slice_get (students_of c.papers) position ≡ Some i) (others : (j : ℕ) → c.enters j ≡ but i j) (given : AreWhole c segments labels) where
  within : position < length segments
  within = omega (arith, slice_get_within (students_of c.papers) position i here, given.run.one_each)

  outside : c.enters i ≡ false
  outside = others i ∙ ap not (eq-eqb i i refl)

  same-papers : cut c (position + 1) ≡ cut c position
  same-papers = cut-none c position i here outside

  -- nothing came of their turn
  pub segment-empty : slice_get segments position ≡ Some []
  segment-empty =
      let rest = get_or segments position [] in
      let there : slice_get segments position ≡ Some rest = slice_get-get_or segments position [] within in
      there ∙ ap Some (nothing-more (cut c position) (well-cut c position well) (log_at segments position) rest
      (given.run.settled position (omega (arith, within, given.run.one_each)))
      (subst (IsSettled (cut c position)) (log-after segments position rest there)
      (subst (λ p. IsSettled p (log_at segments (position + 1))) same-papers (given.run.settled (position + 1) (omega (arith, within, given.run.one_each))))))

  -- the papers and the log of as many turns up to the position are the same as before
  asked-before : (t j s : ℕ) → t ≤ position → HasAskedBy c segments t j s → HasAskedBy (all_but c i) (remove segments position) t j s
  asked-before t j s low asked =
      asked-shared (cut-before c position i t well here others low) (log-before segments position t (omega (arith, within)) low) j s asked

  before-asked : (t j s : ℕ) → t ≤ position → HasAskedBy (all_but c i) (remove segments position) t j s → HasAskedBy c segments t j s
  before-asked t j s low asked =
      asked-shared (sym (cut-before c position i t well here others low)) (sym (log-before segments position t (omega (arith, within)) low)) j s asked

  -- behind it they are those of one turn more
  log-behind : (t : ℕ) → position ≤ t → log_at (remove segments position) t ≡ log_at segments (t + 1)
  log-behind t high = joined-behind segments position t segment-empty high ∙ ap (log_at segments) (sym (add-one t))

  papers-behind : (t : ℕ) → position ≤ t → t < length segments → cut (all_but c i) t ≡ cut c (t + 1)
  papers-behind t high low = cut-behind c position i t well here others high (omega (arith, low, given.run.one_each))

  asked-behind : (t j s : ℕ) → position ≤ t → t < length segments → HasAskedBy c segments (t + 1) j s → HasAskedBy (all_but c i) (remove segments position) t j s
  asked-behind t j s high low asked = asked-shared (papers-behind t high low) (log-behind t high) j s asked

  behind-asked : (t j s : ℕ) → position ≤ t → t < length segments → HasAskedBy (all_but c i) (remove segments position) t j s → HasAskedBy c segments (t + 1) j s
  behind-asked t j s high low asked = asked-shared (sym (papers-behind t high low)) (sym (log-behind t high)) j s asked

  settled-without : (t : ℕ) → t < length segments → IsSettled (cut (all_but c i) t) (log_at (remove segments position) t)
  settled-without t low = elim (cases_lt t position) [
    | inl earlier ↦
        subst (λ p. IsSettled p (log_at (remove segments position) t)) (sym (cut-before c position i t well here others (omega (arith, earlier))))
        (subst (IsSettled (cut c t)) (sym (log-before segments position t (omega (arith, within)) (omega (arith, earlier)))) (given.run.settled t (omega (arith, low, given.run.one_each))))
    | inr later ↦
        subst (λ p. IsSettled p (log_at (remove segments position) t)) (sym (papers-behind t later low))
        (subst (IsSettled (cut c (t + 1))) (sym (log-behind t later)) (given.run.settled (t + 1) (omega (arith, low, given.run.one_each))))
  ]

  many-without : length (remove segments position) + 1 ≡ length segments
  many-without = length-remove segments position within

  -- no label is of their turn
  none-theirs : (s : ℕ) (label : Label) → Contains (labels s) label → label.turn ≡ position → ⊥
  none-theirs s label at same =
      let exact = given.before.exact s label at (given.turns s label at) in
      let log : log_at segments (position + 1) ≡ log_at segments position = log-after segments position [] segment-empty ∙ append-nil (log_at segments position) in
      exact.not_before (subst (λ t. HasAskedBy c segments t label.key.student s) (sym same)
      (asked-shared (sym same-papers) (sym log) label.key.student s (subst (λ t. HasAskedBy c segments (t + 1) label.key.student s) same exact.asked)))

  exact-without : (s : ℕ) (label : Label) → Contains (labels s) label → IsExact (all_but c i) (remove segments position) s (label_without position label)
  exact-without s label at =
      let j : ℕ = label.key.student in
      let low : label.turn < length segments = given.turns s label at in
      let exact = given.before.exact s label at low in
      elim (cases_lt label.turn position) [
        | inl earlier ↦
            let same = turn-before position label.turn (omega (arith, earlier)) in
            record {
              asked = subst (λ t. HasAskedBy (all_but c i) (remove segments position) (t + 1) j s) (sym same) (asked-before (label.turn + 1) j s (omega (arith, earlier)) exact.asked);
              not_before = λ asked. exact.not_before (before-asked label.turn j s (omega (arith, earlier)) (subst (λ t. HasAskedBy (all_but c i) (remove segments position) t j s) same asked));
            }
        | inr later ↦
            let behind : position < label.turn = not_now position label.turn (λ same. none-theirs s label at (sym same)) later in
            let same = turn-behind position label.turn behind in
            let next : label.turn - 1 + 1 ≡ label.turn = omega (arith, behind) in
            record {
              asked = subst (λ t. HasAskedBy (all_but c i) (remove segments position) (t + 1) j s) (sym same)
                  (subst (λ t. HasAskedBy (all_but c i) (remove segments position) t j s) (sym next) (asked-behind label.turn j s later low exact.asked));
              not_before = λ asked. exact.not_before (subst (λ t. HasAskedBy c segments t j s) next
                  (behind-asked (label.turn - 1) j s (omega (arith, behind)) (omega (arith, behind, low)) (subst (λ t. HasAskedBy (all_but c i) (remove segments position) t j s) same asked)));
            }
      ]

  -- whoever has asked a school has the same key there
  key-without : (j s : ℕ) → c.enters j ≡ true → key_of (without_student c.papers i) j s ≡ key_of c.papers j s
  key-without j s enters = ap (λ p. key_of p j s) (without-restricted c.papers i well) ∙ key-within c.papers (but i) j s (sym (others j) ∙ enters)

  asked-enters : (t j s : ℕ) → t ≤ length segments → HasAskedBy c segments t j s → c.enters j ≡ true
  asked-enters t j s low asked =
      (and_parts (is_among_first c.papers t j) (c.enters j)
      (asked-entered c t j s (log_at segments t) well (given.run.settled t (omega (arith, low, given.run.one_each))).valid asked)).1

  -- their label is left
  label-left : (left : ℕ → List Label) → AreWithout position labels left → (j s turn : ℕ) → c.enters j ≡ true → Contains (labels s) (record { key = key_of c.papers j s; turn = turn }) → Contains (left s) (record { key = key_of (without_student c.papers i) j s; turn = turn_without position turn })
  label-left left without j s turn enters at =
      subst (λ key. Contains (left s) (record { key = key; turn = turn_without position turn })) (sym (key-without j s enters))
      (subst (λ l. Contains l (record { key = key_of c.papers j s; turn = turn_without position turn })) (sym (without s))
      (map-contains (label_without position) (labels s) (record { key = key_of c.papers j s; turn = turn }) at))

  -- and of a turn before as many turns as before, but for the one
  turn-low : (turn t : ℕ) → (turn ≡ position → ⊥) → position ≤ t → turn < t + 1 → turn_without position turn < t
  turn-low turn t other high low = elim (cases_lt turn position) [
    | inl earlier ↦ omega (arith, turn-before position turn (omega (arith, earlier)), earlier, high)
    | inr later ↦ omega (arith, turn-behind position turn (not_now position turn (λ same. other (sym same)) later), not_now position turn (λ same. other (sym same)) later, low)
  ]

  standing-without : (left : ℕ → List Label) → AreWithout position labels left → (t j s : ℕ) → t < length segments → StandsAt (all_but c i) (remove segments position) t j s → (turn : ℕ) × (turn < t) × Contains (left s) (record { key = key_of (without_student c.papers i) j s; turn = turn })
  standing-without left without t j s low stands = elim (cases_lt t position) [
    | inl earlier ↦
        let stood : StandsAt c segments t j s =
        ap (λ p. next_choice p (log_at segments t) j) (sym (cut-before c position i t well here others (omega (arith, earlier))))
        ∙ ap (λ l. next_choice (cut (all_but c i) t) l j) (sym (log-before segments position t (omega (arith, within)) (omega (arith, earlier)))) ∙ stands in
        let found = given.before.standing t j s (omega (arith, low)) stood in (
          turn_without position found.0,
          omega (arith, turn-before position found.0 (omega (arith, found.1, earlier)), found.1),
          label-left left without j s found.0 (asked-enters t j s (omega (arith, low)) (inl stood)) found.2,
        )
    | inr later ↦
        let stood : StandsAt c segments (t + 1) j s =
        ap (λ p. next_choice p (log_at segments (t + 1)) j) (sym (papers-behind t later low))
        ∙ ap (λ l. next_choice (cut (all_but c i) t) l j) (sym (log-behind t later)) ∙ stands in
        let found = given.before.standing (t + 1) j s (omega (arith, low)) stood in (
          turn_without position found.0,
          turn-low found.0 t (none-theirs s (record { key = key_of c.papers j s; turn = found.0 }) found.2) later found.1,
          label-left left without j s found.0 (asked-enters (t + 1) j s (omega (arith, low)) (inl stood)) found.2,
        )
  ]

  many-students : length (remove segments position) ≡ length (students_of (without_student c.papers i))
  many-students =
      let low : position < length (students_of c.papers) = slice_get_within (students_of c.papers) position i here in
      omega (arith, many-without, given.run.one_each, ap length (students-without c.papers position i well here), length-remove (students_of c.papers) position low)

  -- the labels are those of the whole run without the student
  pub whole-without : (left : ℕ → List Label) → AreWithout position labels left → AreWhole (all_but c i) (remove segments position) left
  whole-without left without = record {
    run = record {
      one_each = many-students;
      settled = λ t under. settled-without t (omega (arith, under, many-students, many-without));
    };
    before = record {
      exact = λ s label at under.
          let (was, there, is) = contains-map (label_without position) (labels s) label (subst (λ l. Contains l label) (without s) at) in
          subst (IsExact (all_but c i) (remove segments position) s) (sym is) (exact-without s was there);
      standing = λ t j s under stands. standing-without left without t j s (omega (arith, under, many-without)) stands;
    };
    turns = λ s label at.
        let (was, there, is) = contains-map (label_without position) (labels s) label (subst (λ l. Contains l label) (without s) at) in
        let low : was.turn < length segments = given.turns s was there in
        omega (arith, ap (λ l. l.turn) is, turn-low was.turn (length (remove segments position)) (none-theirs s was there) (omega (arith, within, many-without)) (omega (arith, low, many-without)));
    own = λ s label at.
        let (was, there, is) = contains-map (label_without position) (labels s) label (subst (λ l. Contains l label) (without s) at) in
        let exact = given.before.exact s was there (given.turns s was there) in
        ap (λ l. l.key) is ∙ given.own s was there
        ∙ sym (key-without was.key.student s (asked-enters (was.turn + 1) was.key.student s (omega (arith, given.turns s was there)) exact.asked))
        ∙ ap (λ l. key_of (without_student c.papers i) l.key.student s) (sym is);
  }

-- and so those of the papers after the withdrawal
pub whole-withdrawn : (c : Cohort) (n : Market) (position i : ℕ) (segments : List (List Rejection)) (labels left : ℕ → List Label) → WellFormed c.papers → slice_get (students_of c.papers) position ≡ Some i → n ≡ after c.papers (Withdraw i) → ((j : ℕ) → c.enters j ≡ not (i == j)) → AreWhole c segments labels → AreWithout position labels left → AreWhole (cohort n everybody) (remove segments position) left
whole-withdrawn c n position i segments labels left well here papers others given without =
    subst (λ p. AreWhole (cohort p everybody) (remove segments position) left) (sym papers) (whole-without c position i segments labels well here others given left without)
