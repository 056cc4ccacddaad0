-- Well-formed papers have a settled log: each student in turn enters by a chain, and a chain ends,
-- since each of its rejections uses up a choice.
use Rattle.std.proofs.Common.{◌≡◌, ◌⊎◌, inl, inr, refl, ap, sym, subst, ◌∙◌, ℕ, zero, suc, ◌+◌, ◌≤◌, ◌==◌, Bool, true, false, List, [], ◌∷◌, ◌++◌, length, Option, Some, None, Contains, filter, is_some, arith}
use Rattle.std.specs.Map.{keys_of}
use Rattle.std.proofs.lemmas.List.{length_push}
use Rattle.std.proofs.lemmas.Bool.{cases_Bool, cases_eq, cases_lt, or_left, or_right, eq-eqb, false≢true, cond-true}
use Rattle.sc_papers.specs.Market.{Market, students_of, seats_of}
use Rattle.sc_papers.specs.Key.{is_ahead}
use Rattle.sc_papers.specs.WellFormed.{WellFormed}
use Rattle.sc_papers.specs.Matching.{Matching, has, IsStudentOptimal}
use Rattle.sc_papers.specs.Log.{next_choice, matching_of, IsSettled}
use Rattle.sc_papers.specs.Restriction.{restricted}
use Rattle.sc_papers.specs.Chain.{and_one, held_by_others, InChain, PutsOut, IsChain}
use Rattle.sc_papers.specs.Progress.{all_choices, placed}
use Rattle.sc_papers.specs.declared.rejection.Rejection.{Rejection}
use Rattle.sc_papers.proofs.Counting.{contains-cons, contains-head, contains-tail}
use Rattle.sc_papers.proofs.Priority.{ahead-trans, ahead-total}
use Rattle.sc_papers.proofs.Rejections.{has-true, has-some}
use Rattle.sc_papers.proofs.Students.{how_many-lt, how_many-none}
use Rattle.sc_papers.proofs.Restriction.{restricted-restricts}
use Rattle.sc_papers.proofs.Validity.{next-among}
use Rattle.sc_papers.proofs.Subsets.{well-restricted}
use Rattle.sc_papers.proofs.Chain.{chain-begins, chain-puts-out, chain-settles}
use Rattle.sc_papers.proofs.Progress.{log-bounded}
use Rattle.sc_papers.proofs.Optimality.{settled-optimal}

-- of those in the list who pass, all others are ahead of this one
record IsLast (p : ℕ → Bool) (ahead : ℕ → ℕ → Bool) (xs : List ℕ) (out : ℕ) : Type 0 where
  passes : p out ≡ true
  behind : (j : ℕ) → Contains xs j → p j ≡ true → (j ≡ out → ⊥) → ahead j out ≡ true

-- somebody in the list is the last who pass, or nobody passes
last-of : (p : ℕ → Bool) (ahead : ℕ → ℕ → Bool) → ((i j k : ℕ) → ahead i j ≡ true → ahead j k ≡ true → ahead i k ≡ true) → ((i j : ℕ) → (i ≡ j → ⊥) → (ahead i j ≡ true) ⊎ (ahead j i ≡ true)) → (xs : List ℕ) → ((out : ℕ) × IsLast p ahead xs out) ⊎ ((j : ℕ) → Contains xs j → p j ≡ false)
last-of p ahead trans total [] = inr (λ j (k, low, at). absurd (omega (arith, low)))
last-of p ahead trans total (x ∷ xs) =
    elim (cases_Bool (p x)) [
      | inl passes ↦ elim (last-of p ahead trans total xs) [
        | inl (out, last) ↦ inl (last-with p ahead trans total x xs passes out last)
        | inr none ↦ inl (
          x,
          record {
            passes = passes;
            behind = λ j among also apart. elim (contains-cons x xs j among) [
              | inl at ↦ absurd (apart (sym at))
              | inr in_rest ↦ absurd (false≢true (sym (none j in_rest) ∙ also))
            ];
          },
        )
      ]
      | inr fails ↦ elim (last-of p ahead trans total xs) [
        | inl (out, last) ↦ inl (
          out,
          record {
            passes = last.passes;
            behind = λ j among also apart. elim (contains-cons x xs j among) [
              | inl at ↦ absurd (false≢true (sym fails ∙ ap p at ∙ also))
              | inr in_rest ↦ last.behind j in_rest also apart
            ];
          },
        )
        | inr none ↦ inr (λ j among. elim (contains-cons x xs j among) [ inl at ↦ ap p (sym at) ∙ fails | inr in_rest ↦ none j in_rest ])
      ]
    ]
  where
    -- one more who passes is last, or the last stays so
    last-with : (p : ℕ → Bool) (ahead : ℕ → ℕ → Bool) → ((i j k : ℕ) → ahead i j ≡ true → ahead j k ≡ true → ahead i k ≡ true) → ((i j : ℕ) → (i ≡ j → ⊥) → (ahead i j ≡ true) ⊎ (ahead j i ≡ true)) → (x : ℕ) (xs : List ℕ) → p x ≡ true → (out : ℕ) → IsLast p ahead xs out → (last : ℕ) × IsLast p ahead (x ∷ xs) last
    last-with p ahead trans total x xs passes out last =
        elim (cases_eq x out) [
          | inl same ↦ (
            out,
            record {
              passes = last.passes;
              behind = λ j among also apart. elim (contains-cons x xs j among) [ inl at ↦ absurd (apart (sym at ∙ same)) | inr in_rest ↦ last.behind j in_rest also apart ];
            },
          )
          | inr differ ↦ elim (total x out differ) [
            | inl before ↦ (
              out,
              record {
                passes = last.passes;
                behind = λ j among also apart. elim (contains-cons x xs j among) [ inl at ↦ subst (λ y. ahead y out ≡ true) at before | inr in_rest ↦ last.behind j in_rest also apart ];
              },
            )
            | inr after ↦ (
              x,
              record {
                passes = passes;
                behind = λ j among also apart. elim (contains-cons x xs j among) [
                  | inl at ↦ absurd (apart (sym at))
                  | inr in_rest ↦ elim (cases_eq j out) [
                    | inl same ↦ subst (λ y. ahead y x ≡ true) (sym same) after
                    | inr other ↦ trans j out x (last.behind j in_rest also other) after
                  ]
                ];
              },
            )
          ]
        ]

-- a full school puts somebody out
puts-out-exists : (m : Market) (log : List Rejection) (hand s : ℕ) → next_choice m log hand ≡ Some s → seats_of m s ≤ held_by_others m log hand s → (out : ℕ) × PutsOut m log hand s out
puts-out-exists m log hand s next full =
    elim (last-of (has (matching_of m log) s) (is_ahead m s) (ahead-trans m s) (ahead-total m s) (students_of m)) [
      | inl (out, last) ↦ (
        out,
        record {
          proposes = next;
          full = full;
          there = has-true (matching_of m log) s out last.passes;
          last = λ j there apart. last.behind j (next-among m log j s there) (has-some (matching_of m log) s j there) apart;
        },
      )
      | inr none ↦ absurd (false≢true (sym (none hand (next-among m log hand s next)) ∙ has-some (matching_of m log) s hand next))
    ]

-- who has a next choice is placed
one-placed : (m : Market) (log : List Rejection) (i s : ℕ) → next_choice m log i ≡ Some s → 1 ≤ placed m (matching_of m log)
one-placed m log i s next =
    omega (arith, how_many-lt m (λ j. false) (λ j. is_some (next_choice m log j)) (λ j never. absurd (false≢true never)) i (next-among m log i s next) refl (ap is_some next))

-- the rest of a chain, once a student is put out
chain-goes-on : (m : Market) (log : List Rejection) (hand s : ℕ) → (out : ℕ) → PutsOut m log hand s out → (rest : List Rejection) × IsChain m (log ++ (record { student = out; school = s }) ∷ []) out rest → (all : List Rejection) × IsChain m log hand all
chain-goes-on m log hand s out puts (rest, steps) = ((record { student = out; school = s }) ∷ rest, (puts, steps))

-- a chain goes on to its end, where fuel allows for the choices that are left
chain-exists : (m : Market) → WellFormed m → (fuel : ℕ) (log : List Rejection) (hand : ℕ) → all_choices m ≤ length log + fuel → InChain m log hand → (next : Option ℕ) → next_choice m log hand ≡ next → (rest : List Rejection) × IsChain m log hand rest
chain-exists m well fuel log hand enough chain None is = ([], inl is)
chain-exists m well zero log hand enough chain (Some s) is =
    absurd (omega (arith, enough, log-bounded m well log chain.valid, one-placed m log hand s is))
chain-exists m well (suc fuel) log hand enough chain (Some s) is =
    elim (cases_lt (held_by_others m log hand s) (seats_of m s)) [
      | inl room ↦ ([], inr (s, is, room))
      | inr full ↦
          let (out, puts) = puts-out-exists m log hand s is full in
          let e : Rejection = record { student = out; school = s } in
          chain-goes-on m log hand s out puts
          (chain-exists m well fuel (log ++ e ∷ []) out (omega (arith, enough, length_push log e)) (chain-puts-out m well log hand e chain puts) (next_choice m (log ++ e ∷ []) out) refl)
    ]

-- who has entered when a list of students has
with_all : (ℕ → Bool) → List ℕ → ℕ → Bool
with_all entered [] = entered
with_all entered (i ∷ rest) = with_all (and_one entered i) rest

with_all-kept : (entered : ℕ → Bool) (xs : List ℕ) (i : ℕ) → entered i ≡ true → with_all entered xs i ≡ true
unfolding with_all
with_all-kept entered [] i before = before
with_all-kept entered (x ∷ xs) i before = with_all-kept (and_one entered x) xs i (or_left (entered i) (i == x) before)

with_all-each : (entered : ℕ → Bool) (xs : List ℕ) (i : ℕ) → Contains xs i → with_all entered xs i ≡ true
unfolding with_all
with_all-each entered [] i (k, low, at) = absurd (omega (arith, low))
with_all-each entered (x ∷ xs) i among =
    elim (contains-cons x xs i among) [
      | inl at ↦ with_all-kept (and_one entered x) xs i (or_right (entered i) (i == x) (eq-eqb i x (sym at)))
      | inr in_rest ↦ with_all-each (and_one entered x) xs i in_rest
    ]

-- the students of a list enter one after another
all-enter : (m : Market) → WellFormed m → (entered : ℕ → Bool) (log : List Rejection) (xs : List ℕ) → IsSettled (restricted m entered) log → (after : List Rejection) × IsSettled (restricted m (with_all entered xs)) after
unfolding with_all
all-enter m well entered log [] settled = (log, settled)
all-enter m well entered log (i ∷ xs) settled =
    let n : Market = restricted m (and_one entered i) in
    let n_well : WellFormed n = well-restricted m (and_one entered i) well in
    let (rest, steps) = chain-exists n n_well (all_choices n) log i (omega arith) (chain-begins m entered i log settled) (next_choice n log i) refl in
    all-enter m well (and_one entered i) (log ++ rest) xs (chain-settles m well entered i log rest settled steps)

-- where nobody has entered, the empty log is settled
none-entered : (m : Market) → IsSettled (restricted m (λ i. false)) []
none-entered m = record {
  valid = tt;
  within_seats = λ s. omega (arith, (restricted-restricts m (λ i. false)).counts (has (matching_of (restricted m (λ i. false)) []) s), how_many-none m (λ i. false) (λ i among. refl));
}

restricted-all : (m : Market) (test : ℕ → Bool) → ((i : ℕ) → Contains (students_of m) i → test i ≡ true) → restricted m test ≡ m
unfolding restricted
restricted-all m test all = λ t. record m { students = keep-all test m.students all t }
  where
    keep-all : {X : Type 0} (test : ℕ → Bool) (es : List (ℕ × X)) → ((i : ℕ) → Contains (keys_of es) i → test i ≡ true) → filter (λ e. test e.0) es ≡ es
    keep-all test [] all = refl
    keep-all test (e ∷ es) all =
        cond-true (test e.0) (e ∷ filter (λ f. test f.0) es) (filter (λ f. test f.0) es) (all e.0 (contains-head e.0 (keys_of es)))
        ∙ ap (λ fs. e ∷ fs) (keep-all test es (λ i in_rest. all i (contains-tail e.0 (keys_of es) i in_rest)))

pub settled-exists : (m : Market) → WellFormed m → (log : List Rejection) × IsSettled m log
settled-exists m well =
    let (log, settled) = all-enter m well (λ i. false) [] (students_of m) (none-entered m) in
    (log, subst (λ n. IsSettled n log) (restricted-all m (with_all (λ i. false) (students_of m)) (with_all-each (λ i. false) (students_of m))) settled)

pub optimal-exists : (m : Market) → WellFormed m → (a : Matching) × IsStudentOptimal m a
optimal-exists m well = let (log, settled) = settled-exists m well in (matching_of m log, settled-optimal m well log settled)
