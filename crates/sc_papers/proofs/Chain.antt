-- What the steps of a chain keep.
use Rattle.std.proofs.Common.{◌≡◌, ◌⊎◌, inl, inr, refl, ap, sym, subst, ◌∙◌, ℕ, ◌+◌, ◌≤◌, ◌==◌, Bool, true, false, cond, not, ◌&&◌, List, [], ◌∷◌, ◌++◌, Some, Contains, append_assoc, append-nil, arith}
use Rattle.std.proofs.lemmas.Bool.{cases_Bool, cases_eq, cond-true, cond-false, and_left, and_parts, and_from, or_cases, or_left, false≢true, eqb-true, eq-eqb, ne_eqb}
use Rattle.std.proofs.lemmas.Option.{same_Some, none-some}
use Rattle.sc_papers.specs.Market.{Market, students_of, seats_of}
use Rattle.sc_papers.specs.Key.{is_ahead}
use Rattle.sc_papers.specs.WellFormed.{WellFormed}
use Rattle.sc_papers.specs.Matching.{how_many, has, held}
use Rattle.sc_papers.specs.Log.{next_choice, matching_of, IsValidEntry, IsSettled}
use Rattle.sc_papers.specs.Restriction.{restricted}
use Rattle.sc_papers.specs.Chain.{and_one, held_by_others, InChain, PutsOut, Ends, IsChain}
use Rattle.sc_papers.specs.declared.rejection.Rejection.{Rejection}
use Rattle.sc_papers.proofs.Counting.{count-split}
use Rattle.sc_papers.proofs.Rejections.{next-same, has-true, has-some, has-agree}
use Rattle.sc_papers.proofs.Students.{how_many-agree, how_many-le}
use Rattle.sc_papers.proofs.Restriction.{Restricts, restricted-restricts, next-kept}
use Rattle.sc_papers.proofs.Validity.{valid-push, next-among}
use Rattle.sc_papers.proofs.Subsets.{well-restricted, valid-grows}

pub how_many-split : (m : Market) → WellFormed m → (p : ℕ → Bool) (y : ℕ) → Contains (students_of m) y → p y ≡ true → how_many m p ≡ 1 + how_many m (λ x. p x && not (x == y))
unfolding how_many
how_many-split m well p y among passes = count-split p (students_of m) y well.students_differ among passes

-- those who pass two tests, by one who passes the second and the others
pub how_many-split_both : (m : Market) → WellFormed m → (p q : ℕ → Bool) (y : ℕ) → Contains (students_of m) y → q y ≡ true → how_many m (λ j. p j && q j) ≡ cond (p y) 1 0 + how_many m (λ j. p j && (q j && not (j == y)))
how_many-split_both m well p q y among stands =
    elim (cases_Bool (p y)) [
      | inl passes ↦ omega (
        arith,
        cond-true {A = ℕ} (p y) 1 0 passes,
        how_many-split m well (λ j. p j && q j) y among (and_from (p y) (q y) passes stands),
        how_many-agree m (λ j. (p j && q j) && not (j == y)) (λ j. p j && (q j && not (j == y))) (λ j. and-assoc (p j) (q j) (not (j == y))),
      )
      | inr fails ↦ omega (
        arith,
        cond-false {A = ℕ} (p y) 1 0 fails,
        how_many-agree m (λ j. p j && q j) (λ j. p j && (q j && not (j == y))) (λ j. without j (cases_eq j y) fails),
      )
    ]
  where
    and-assoc : (a b c : Bool) → ((a && b) && c) ≡ (a && (b && c))
    and-assoc true b c = refl
    and-assoc false b c = refl

    same : (a b c : Bool) → c ≡ true → (a && b) ≡ (a && (b && c))
    same a true true holds = refl
    same a true false holds = absurd (false≢true holds)
    same a false c holds = refl

    without : (j : ℕ) → (j ≡ y) ⊎ (j ≡ y → ⊥) → p y ≡ false → (p j && q j) ≡ (p j && (q j && not (j == y)))
    without j (inl same) fails = and_left (p j) (q j) (ap p same ∙ fails) ∙ sym (and_left (p j) (q j && not (j == y)) (ap p same ∙ fails))
    without j (inr apart) fails = same (p j) (q j) (not (j == y)) (ap not (ne_eqb j y apart))

-- a member that stands apart passes a test that leaves one out
apart-passes : (j hand : ℕ) → (j ≡ hand → ⊥) → not (j == hand) ≡ true
apart-passes j hand apart = ap not (ne_eqb j hand apart)

passes-apart : (j hand : ℕ) → not (j == hand) ≡ true → j ≡ hand → ⊥
passes-apart j hand passes same = false≢true (sym (ap not (eq-eqb j hand same)) ∙ passes)

-- the school of one's next choice is held by one more than the others
held-split : (m : Market) → WellFormed m → (log : List Rejection) (i s : ℕ) → next_choice m log i ≡ Some s → held m (matching_of m log) s ≡ 1 + held_by_others m log i s
held-split m well log i s next =
    how_many-split m well (has (matching_of m log) s) i (next-among m log i s next) (has-some (matching_of m log) s i next)

-- any other school is held by others alone
held-apart : (m : Market) (log : List Rejection) (i t : ℕ) → (next_choice m log i ≡ Some t → ⊥) → held m (matching_of m log) t ≤ held_by_others m log i t
held-apart m log i t apart =
    how_many-le m (has (matching_of m log) t) (λ j. has (matching_of m log) t j && not (j == i))
    (λ j holds. and_from (has (matching_of m log) t j) (not (j == i)) holds
    (apart-passes j i (λ same. apart (ap (next_choice m log) (sym same) ∙ has-true (matching_of m log) t j holds))))

-- others are no more than all
others-le : (m : Market) (log : List Rejection) (i t : ℕ) → held_by_others m log i t ≤ held m (matching_of m log) t
others-le m log i t =
    how_many-le m (λ j. has (matching_of m log) t j && not (j == i)) (has (matching_of m log) t)
    (λ j holds. (and_parts (has (matching_of m log) t j) (not (j == i)) holds).0)

-- the one put out and the one in hand leave as many others
others-same : (m : Market) → WellFormed m → (log : List Rejection) (hand s out : ℕ) → PutsOut m log hand s out → held_by_others m log out s ≡ held_by_others m log hand s
others-same m well log hand s out puts =
    omega (arith, held-split m well log hand s puts.proposes, held-split m well log out s puts.there)

-- the rejection is valid
pub put-out-valid : (m : Market) → WellFormed m → (log : List Rejection) (hand : ℕ) (e : Rejection) → PutsOut m log hand e.school e.student → IsValidEntry m log e
put-out-valid m well log hand e puts =
    let s : ℕ = e.school in
    let out : ℕ = e.student in
    let ahead : (j : ℕ) → (has (matching_of m log) s j && not (j == out)) ≡ true → (has (matching_of m log) s j && is_ahead m s j out) ≡ true = λ j other.
    let parts = and_parts (has (matching_of m log) s j) (not (j == out)) other in
    and_from (has (matching_of m log) s j) (is_ahead m s j out) parts.0 (puts.last j (has-true (matching_of m log) s j parts.0) (passes-apart j out parts.1)) in
    record {
      next = puts.there;
      full = omega (
        arith,
        puts.full,
        others-same m well log hand s out puts,
        how_many-le m (λ j. has (matching_of m log) s j && not (j == out)) (λ j. has (matching_of m log) s j && is_ahead m s j out) ahead,
      );
    }

-- the rejection changes no other's next choice
others-kept : (m : Market) (log : List Rejection) (e : Rejection) (t : ℕ) → held_by_others m (log ++ e ∷ []) e.student t ≤ held_by_others m log e.student t
others-kept m log e t =
    how_many-le m (λ j. has (matching_of m (log ++ e ∷ [])) t j && not (j == e.student)) (λ j. has (matching_of m log) t j && not (j == e.student))
    (λ j other.
    let parts = and_parts (has (matching_of m (log ++ e ∷ [])) t j) (not (j == e.student)) other in
    ap (λ b. b && not (j == e.student)) (sym (has-agree (matching_of m (log ++ e ∷ [])) (matching_of m log) t j (next-same m log e j (λ same. passes-apart j e.student parts.1 (sym same))))) ∙ other)

-- every school is within its seats when the one put out isn't counted
others-within : (m : Market) → WellFormed m → (log : List Rejection) (hand : ℕ) (e : Rejection) → InChain m log hand → PutsOut m log hand e.school e.student → (t : ℕ) → held_by_others m log e.student t ≤ seats_of m t
others-within m well log hand e chain puts t =
    elim (cases_eq e.school t) [
      | inl same ↦ subst (λ u. held_by_others m log e.student u ≤ seats_of m u) same
          (omega (arith, others-same m well log hand e.school e.student puts, chain.others_within e.school))
      | inr apart ↦ omega (
        arith,
        others-le m log e.student t,
        chain.others_within t,
        held-apart m log hand t (λ next. apart (same_Some e.school t (sym puts.proposes ∙ next))),
      )
    ]

-- a step that puts a student out
pub chain-puts-out : (m : Market) → WellFormed m → (log : List Rejection) (hand : ℕ) (e : Rejection) → InChain m log hand → PutsOut m log hand e.school e.student → InChain m (log ++ e ∷ []) e.student
chain-puts-out m well log hand e chain puts = record {
  valid = valid-push m [] log e chain.valid (put-out-valid m well log hand e puts);
  others_within = λ t. omega (arith, others-kept m log e t, others-within m well log hand e chain puts t);
}

-- the end
pub chain-ends : (m : Market) → WellFormed m → (log : List Rejection) (hand : ℕ) → InChain m log hand → Ends m log hand → IsSettled m log
chain-ends m well log hand chain ends = record {
  valid = chain.valid;
  within_seats = λ t. elim ends [
    | inl none ↦ omega (arith, chain.others_within t, held-apart m log hand t (λ next. none-some t (sym none ∙ next)))
    | inr (s, proposes, room) ↦ elim (cases_eq s t) [
      | inl same ↦ subst (λ u. held m (matching_of m log) u ≤ seats_of m u) same (omega (arith, room, held-split m well log hand s proposes))
      | inr apart ↦ omega (arith, chain.others_within t, held-apart m log hand t (λ next. apart (same_Some s t (sym proposes ∙ next))))
    ]
  ];
}

-- who entered, has entered with one more
wider : (entered : ℕ → Bool) (i j : ℕ) → entered j ≡ true → and_one entered i j ≡ true
wider entered i j before = or_left (entered j) (j == i) before

-- the beginning: one more student enters
pub chain-begins : (m : Market) (entered : ℕ → Bool) (i : ℕ) (log : List Rejection) → IsSettled (restricted m entered) log → InChain (restricted m (and_one entered i)) log i
chain-begins m entered i log settled =
    let n : Market = restricted m entered in
    let n' : Market = restricted m (and_one entered i) in
    let few : Restricts n m entered = restricted-restricts m entered in
    let many : Restricts n' m (and_one entered i) = restricted-restricts m (and_one entered i) in
    record {
      valid = valid-grows few many (wider entered i) [] log settled.valid;
      others_within = λ s.
          let before : (j : ℕ) → (and_one entered i j && (has (matching_of n' log) s j && not (j == i))) ≡ true → (entered j && has (matching_of n log) s j) ≡ true = λ j other.
          let outer = and_parts (and_one entered i j) (has (matching_of n' log) s j && not (j == i)) other in
          let inner = and_parts (has (matching_of n' log) s j) (not (j == i)) outer.1 in
          let kept : entered j ≡ true = elim (or_cases (entered j) (j == i) outer.0) [ inl entered_j ↦ entered_j | inr same ↦ absurd (passes-apart j i inner.1 (eqb-true j i same)) ] in
          let next : next_choice n log j ≡ next_choice n' log j = next-kept few log j kept ∙ sym (next-kept many log j outer.0) in
          and_from (entered j) (has (matching_of n log) s j) kept (has-agree (matching_of n log) (matching_of n' log) s j next ∙ inner.0) in
          omega (
            arith,
            settled.within_seats s,
            few.seats s,
            many.seats s,
            few.counts (has (matching_of n log) s),
            many.counts (λ j. has (matching_of n' log) s j && not (j == i)),
            how_many-le m (λ j. and_one entered i j && (has (matching_of n' log) s j && not (j == i))) (λ j. entered j && has (matching_of n log) s j) before,
          );
    }

-- a whole chain
chain-settles-from : (m : Market) → WellFormed m → (log : List Rejection) (hand : ℕ) (rest : List Rejection) → InChain m log hand → IsChain m log hand rest → IsSettled m (log ++ rest)
chain-settles-from m well log hand [] chain ends = subst (IsSettled m) (sym (append-nil log)) (chain-ends m well log hand chain ends)
chain-settles-from m well log hand (e ∷ rest) chain steps =
    subst (IsSettled m) (append_assoc log (e ∷ []) rest)
    (chain-settles-from m well (log ++ e ∷ []) e.student rest (chain-puts-out m well log hand e chain steps.0) steps.1)

pub chain-settles : (m : Market) → WellFormed m → (entered : ℕ → Bool) (i : ℕ) (log chain : List Rejection) → IsSettled (restricted m entered) log → IsChain (restricted m (and_one entered i)) log i chain → IsSettled (restricted m (and_one entered i)) (log ++ chain)
chain-settles m well entered i log chain settled steps =
    chain-settles-from (restricted m (and_one entered i)) (well-restricted m (and_one entered i) well) log i chain (chain-begins m entered i log settled) steps
