-- A school that has rejected a student stays full of others who are ahead, through the steps of a chain.
use Rattle.std.proofs.Common.{◌≡◌, inl, inr, ap, sym, subst, ◌∙◌, ℕ, ◌≤◌, ◌+◌, ◌==◌, Bool, true, false, not, ◌&&◌, List, [], ◌∷◌, ◌++◌, Some, arith}
use Rattle.std.proofs.lemmas.Bool.{cases_Bool, cases_eq, and_parts, and_from, false≢true, ne_eqb, eq-eqb}
use Rattle.std.proofs.lemmas.Option.{same_Some}
use Rattle.sc_papers.specs.Market.{Market, seats_of}
use Rattle.sc_papers.specs.Key.{is_ahead}
use Rattle.sc_papers.specs.WellFormed.{WellFormed}
use Rattle.sc_papers.specs.Matching.{how_many, has}
use Rattle.sc_papers.specs.Log.{is_rejected, next_choice, matching_of, IsValidLog}
use Rattle.sc_papers.specs.Chain.{held_by_others, PutsOut}
use Rattle.sc_papers.specs.declared.rejection.Rejection.{Rejection}
use Rattle.sc_papers.proofs.Priority.{ahead-trans}
use Rattle.sc_papers.proofs.Rejections.{next-same, rejected-push_cases, has-true, has-some}
use Rattle.sc_papers.proofs.Students.{how_many-le}
use Rattle.sc_papers.proofs.Chain.{how_many-split}
use Rattle.sc_papers.proofs.Validity.{along, next-among}
use Rattle.sc_papers.proofs.Restriction.{Restricts}
use Rattle.sc_papers.proofs.Subsets.{ahead-grows, next-grows, next-passes}
use Rattle.sc_papers.proofs.Optimality.{stays-full}
use Rattle.sc_ledgers.specs.Ledger.{others_ahead, StaysFullOfOthers}

-- one of those who stand at s and are not in hand
pub is_other : (m : Market) (log : List Rejection) (hand s j : ℕ) → next_choice m log j ≡ Some s → (j ≡ hand → ⊥) → (has (matching_of m log) s j && not (j == hand)) ≡ true
is_other m log hand s j next apart = and_from (has (matching_of m log) s j) (not (j == hand)) (has-some (matching_of m log) s j next) (ap not (ne_eqb j hand apart))

pub other_stands : (m : Market) (log : List Rejection) (hand s j : ℕ) → (has (matching_of m log) s j && not (j == hand)) ≡ true → (next_choice m log j ≡ Some s) × (j ≡ hand → ⊥)
other_stands m log hand s j other =
    let parts = and_parts (has (matching_of m log) s j) (not (j == hand)) other in
    (has-true (matching_of m log) s j parts.0, λ same. false≢true (sym (ap not (eq-eqb j hand same)) ∙ parts.1))

-- what the school held beside whom it puts out, it holds beside them after the rejection
still_other : (m : Market) (log : List Rejection) (e : Rejection) (s j : ℕ) → next_choice m log j ≡ Some s → (j ≡ e.student → ⊥) → (has (matching_of m (log ++ e ∷ [])) s j && not (j == e.student)) ≡ true
still_other m log e s j next apart = is_other m (log ++ e ∷ []) e.student s j (next-same m log e j (λ same. apart (sym same)) ∙ next) apart

-- those who stand at the school beside the one in hand are as many as beside whom it puts out
as_many : (m : Market) → WellFormed m → (log : List Rejection) (hand s out : ℕ) → PutsOut m log hand s out → held_by_others m log out s ≡ held_by_others m log hand s
as_many m well log hand s out puts =
    let stands : (i : ℕ) → next_choice m log i ≡ Some s → how_many m (has (matching_of m log) s) ≡ 1 + held_by_others m log i s = λ i next.
    how_many-split m well (has (matching_of m log) s) i (next-among m log i s next) (has-some (matching_of m log) s i next) in
    omega (arith, stands hand puts.proposes, stands out puts.there)

-- where all whom the school holds beside whom it puts out are ahead of i, it is full of them
full_of_all : (m : Market) → WellFormed m → (log : List Rejection) (hand : ℕ) (e : Rejection) (i : ℕ) → PutsOut m log hand e.school e.student → ((j : ℕ) → next_choice m log j ≡ Some e.school → (j ≡ e.student → ⊥) → is_ahead m e.school j i ≡ true) → seats_of m e.school ≤ others_ahead m (log ++ e ∷ []) e.student i e.school
full_of_all m well log hand e i puts ahead =
    let s : ℕ = e.school in
    let out : ℕ = e.student in
    let after = matching_of m (log ++ e ∷ []) in
    let passes : (j : ℕ) → (has (matching_of m log) s j && not (j == out)) ≡ true → ((has after s j && not (j == out)) && is_ahead m s j i) ≡ true = λ j other.
    let stands = other_stands m log out s j other in
    and_from (has after s j && not (j == out)) (is_ahead m s j i) (still_other m log e s j stands.0 stands.1) (ahead j stands.0 stands.1) in
    omega (
      arith,
      puts.full,
      as_many m well log hand s out puts,
      how_many-le m (λ j. has (matching_of m log) s j && not (j == out)) (λ j. (has after s j && not (j == out)) && is_ahead m s j i) passes,
    )

-- whom a school that is full of others ahead of i holds, it holds after the rejection of another
full_of_same : (m : Market) (log : List Rejection) (hand : ℕ) (e : Rejection) (i s : ℕ) → ((j : ℕ) → next_choice m log j ≡ Some s → is_ahead m s j i ≡ true → j ≡ e.student → ⊥) → seats_of m s ≤ others_ahead m log hand i s → seats_of m s ≤ others_ahead m (log ++ e ∷ []) e.student i s
full_of_same m log hand e i s apart full =
    let before = matching_of m log in
    let after = matching_of m (log ++ e ∷ []) in
    let passes : (j : ℕ) → ((has before s j && not (j == hand)) && is_ahead m s j i) ≡ true → ((has after s j && not (j == e.student)) && is_ahead m s j i) ≡ true = λ j rival.
    let parts = and_parts (has before s j && not (j == hand)) (is_ahead m s j i) rival in
    let stands = other_stands m log hand s j parts.0 in
    and_from (has after s j && not (j == e.student)) (is_ahead m s j i) (still_other m log e s j stands.0 (apart j stands.0 parts.1)) parts.1 in
    omega (arith, full, how_many-le m (λ j. (has before s j && not (j == hand)) && is_ahead m s j i) (λ j. (has after s j && not (j == e.student)) && is_ahead m s j i) passes)

-- of one who was rejected before
full_before : (m : Market) → WellFormed m → (log : List Rejection) (hand : ℕ) (e : Rejection) (i s : ℕ) → PutsOut m log hand e.school e.student → seats_of m s ≤ others_ahead m log hand i s → seats_of m s ≤ others_ahead m (log ++ e ∷ []) e.student i s
full_before m well log hand e i s puts full =
    elim (cases_eq e.school s) [
      | inr apart ↦ full_of_same m log hand e i s (λ j next ahead same. apart (same_Some e.school s (sym puts.there ∙ ap (next_choice m log) (sym same) ∙ next))) full
      | inl same ↦ elim (cases_Bool (is_ahead m e.school e.student i)) [
        | inl before ↦ subst (λ t. seats_of m t ≤ others_ahead m (log ++ e ∷ []) e.student i t) same
            (full_of_all m well log hand e i puts (λ j next other. ahead-trans m e.school j e.student i (puts.last j next other) before))
        | inr behind ↦ full_of_same m log hand e i s
            (λ j next ahead is. false≢true (sym behind ∙ ap (λ t. is_ahead m t e.student i) same ∙ ap (λ k. is_ahead m s k i) (sym is) ∙ ahead)) full
      ]
    ]

-- a step of a chain
pub others-stay : (m : Market) → WellFormed m → (log : List Rejection) (hand : ℕ) (e : Rejection) → PutsOut m log hand e.school e.student → StaysFullOfOthers m log hand → StaysFullOfOthers m (log ++ e ∷ []) e.student
others-stay m well log hand e puts stays = record {
  full = λ i s rejected. elim (rejected-push_cases log e i s rejected) [
    | inl before ↦ full_before m well log hand e i s puts (stays.full i s before)
    | inr (same_student, same_school) ↦
        subst (λ k. seats_of m s ≤ others_ahead m (log ++ e ∷ []) e.student k s) same_student
        (subst (λ t. seats_of m t ≤ others_ahead m (log ++ e ∷ []) e.student e.student t) same_school (full_of_all m well log hand e e.student puts puts.last))
  ];
}

-- whom a valid log rejects is among the students
pub rejected-kept : {n m : Market} {few : ℕ → Bool} → Restricts n m few → (log : List Rejection) → IsValidLog n log → (i s : ℕ) → is_rejected log i s ≡ true → few i ≡ true
rejected-kept {n} {m} {few} small log valid =
    along n (λ l. (i s : ℕ) → is_rejected l i s ≡ true → few i ≡ true)
    (λ l e entry before i s rejected. elim (rejected-push_cases l e i s rejected) [
      | inl earlier ↦ before i s earlier
      | inr (same_student, same_school) ↦ ap few (sym same_student) ∙ next-passes small l e.student e.school entry.next
    ]) [] log (λ i s none. absurd (false≢true none)) valid

-- who is ahead and stands among few students does so among more
rival_grows : {n n' m : Market} {few more : ℕ → Bool} → Restricts n m few → Restricts n' m more → ((j : ℕ) → few j ≡ true → more j ≡ true) → (log : List Rejection) (hand i s j : ℕ) → few i ≡ true → few hand ≡ false → (few j && (has (matching_of n log) s j && is_ahead n s j i)) ≡ true → (more j && ((has (matching_of n' log) s j && not (j == hand)) && is_ahead n' s j i)) ≡ true
rival_grows {n} {n'} {m} {few} {more} small large wider log hand i s j kept new rival =
    let outer = and_parts (few j) (has (matching_of n log) s j && is_ahead n s j i) rival in
    let inner = and_parts (has (matching_of n log) s j) (is_ahead n s j i) outer.1 in
    let next : next_choice n' log j ≡ Some s = next-grows small large wider log j s (has-true (matching_of n log) s j inner.0) in
    let apart : j ≡ hand → ⊥ = λ same. false≢true (sym new ∙ ap few (sym same) ∙ outer.0) in
    and_from (more j) ((has (matching_of n' log) s j && not (j == hand)) && is_ahead n' s j i) (wider j outer.0)
    (and_from (has (matching_of n' log) s j && not (j == hand)) (is_ahead n' s j i) (is_other n' log hand s j next apart) (ahead-grows small large wider s j i outer.0 kept ∙ inner.1))

-- before the first step: the one in hand has just entered
pub others-begin : {n n' m : Market} {few more : ℕ → Bool} → Restricts n m few → Restricts n' m more → ((j : ℕ) → few j ≡ true → more j ≡ true) → (log : List Rejection) (hand : ℕ) → few hand ≡ false → IsValidLog n log → StaysFullOfOthers n' log hand
others-begin {n} {n'} {m} {few} {more} small large wider log hand new valid = record {
  full = λ i s rejected.
      let kept : few i ≡ true = rejected-kept small log valid i s rejected in
      omega (
        arith,
        small.seats s,
        large.seats s,
        (stays-full n log valid).full i s rejected,
        small.counts (λ j. has (matching_of n log) s j && is_ahead n s j i),
        large.counts (λ j. (has (matching_of n' log) s j && not (j == hand)) && is_ahead n' s j i),
        how_many-le m (λ j. few j && (has (matching_of n log) s j && is_ahead n s j i)) (λ j. more j && ((has (matching_of n' log) s j && not (j == hand)) && is_ahead n' s j i))
            (λ j rival. rival_grows small large wider log hand i s j kept new rival),
      );
}
