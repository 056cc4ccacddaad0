-- Papers that are restricted are well-formed, and a log that is valid for few students is valid for
-- more.
use Rattle.std.proofs.Common.{◌≡◌, inl, inr, sym, ◌∙◌, ℕ, nat_eq, Bool, true, false, ◌&&◌, List, [], ◌∷◌, ◌++◌, Some, filter, take, zero, suc, arith}
use Rattle.std.specs.List.{IsDistinct, AllByRecursion}
use Rattle.std.specs.Map.{keys_of}
use Rattle.std.proofs.lemmas.Bool.{cases_Bool, and_parts, and_from}
use Rattle.std.proofs.lemmas.Option.{none-some}
use Rattle.std.proofs.lemmas.List.Elements.{All-filter, All-weaker, All-take}
use Rattle.std.proofs.lemmas.Map.Made.{IsDistinct-keys_filter}
use Rattle.sc_papers.specs.Market.{Market}
use Rattle.sc_papers.specs.Key.{is_ahead}
use Rattle.sc_papers.specs.WellFormed.{WellFormed, IsProper}
use Rattle.sc_papers.specs.Matching.{has}
use Rattle.sc_papers.specs.Log.{next_choice, matching_of, IsValidEntry, IsValidAfter}
use Rattle.sc_papers.specs.Restriction.{restricted, cut}
use Rattle.sc_papers.specs.declared.records.Student.{Student}
use Rattle.sc_papers.specs.declared.rejection.Rejection.{Rejection}
use Rattle.sc_papers.proofs.Rejections.{has-true, has-some}
use Rattle.sc_papers.proofs.Students.{how_many-le}
use Rattle.sc_papers.proofs.Restriction.{Restricts, next-kept, next-dropped}

-- a student's lists name the same schools in the restricted papers
proper-restricted : (m : Market) (test : ℕ → Bool) (student : Student) → IsProper m student → IsProper (restricted m test) student
unfolding restricted
proper-restricted m test student proper = record {
  choices_some = proper.choices_some;
  choices_known = proper.choices_known;
  choices_differ = proper.choices_differ;
  siblings_known = proper.siblings_known;
  siblings_differ = proper.siblings_differ;
  continuing_known = proper.continuing_known;
}

pub well-restricted : (m : Market) (test : ℕ → Bool) → WellFormed m → WellFormed (restricted m test)
unfolding restricted
well-restricted m test well = record {
  schools_differ = well.schools_differ;
  students_differ = IsDistinct-keys_filter nat_eq (λ entry. test entry.0) m.students well.students_differ;
  students_proper = All-weaker (λ entry. IsProper m entry.1) (λ entry. IsProper (restricted m test) entry.1) (λ entry. proper-restricted m test entry.1) (filter (λ entry. test entry.0) m.students)
      (All-filter (λ entry. test entry.0) (λ entry. IsProper m entry.1) m.students well.students_proper);
}

-- a student who has a next choice passes
pub next-passes : {n m : Market} {test : ℕ → Bool} → Restricts n m test → (log : List Rejection) (i s : ℕ) → next_choice n log i ≡ Some s → test i ≡ true
next-passes {n} {m} {test} part log i s next =
    elim (cases_Bool (test i)) [ inl kept ↦ kept | inr dropped ↦ absurd (none-some s (sym (next-dropped part log i dropped) ∙ next)) ]

-- a next choice among few students is the next choice among more
pub next-grows : {n n' m : Market} {test more : ℕ → Bool} → Restricts n m test → Restricts n' m more → ((i : ℕ) → test i ≡ true → more i ≡ true) → (log : List Rejection) (i s : ℕ) → next_choice n log i ≡ Some s → next_choice n' log i ≡ Some s
next-grows few many wider log i s next =
    let kept = next-passes few log i s next in
    next-kept many log i (wider i kept) ∙ sym (next-kept few log i kept) ∙ next

-- who is ahead among few students is ahead among more
pub ahead-grows : {n n' m : Market} {test more : ℕ → Bool} → Restricts n m test → Restricts n' m more → ((i : ℕ) → test i ≡ true → more i ≡ true) → (s i j : ℕ) → test i ≡ true → test j ≡ true → is_ahead n' s i j ≡ is_ahead n s i j
ahead-grows few many wider s i j first second = many.ahead s i j (wider i first) (wider j second) ∙ sym (few.ahead s i j first second)

-- a rival among few students is a rival among more
rival-grows : {n n' m : Market} {test more : ℕ → Bool} → Restricts n m test → Restricts n' m more → ((i : ℕ) → test i ≡ true → more i ≡ true) → (log : List Rejection) (i s j : ℕ) → test i ≡ true → (test j && (has (matching_of n log) s j && is_ahead n s j i)) ≡ true → (more j && (has (matching_of n' log) s j && is_ahead n' s j i)) ≡ true
rival-grows {n} {n'} {m} {test} {more} few many wider log i s j kept rival =
    let outer = and_parts (test j) (has (matching_of n log) s j && is_ahead n s j i) rival in
    let inner = and_parts (has (matching_of n log) s j) (is_ahead n s j i) outer.1 in
    let next : next_choice n' log j ≡ Some s = next-grows few many wider log j s (has-true (matching_of n log) s j inner.0) in
    let ahead : is_ahead n' s j i ≡ true = ahead-grows few many wider s j i outer.0 kept ∙ inner.1 in
    and_from (more j) (has (matching_of n' log) s j && is_ahead n' s j i) (wider j outer.0)
    (and_from (has (matching_of n' log) s j) (is_ahead n' s j i) (has-some (matching_of n' log) s j next) ahead)

entry-grows : {n n' m : Market} {test more : ℕ → Bool} → Restricts n m test → Restricts n' m more → ((i : ℕ) → test i ≡ true → more i ≡ true) → (log : List Rejection) (e : Rejection) → IsValidEntry n log e → IsValidEntry n' log e
entry-grows {n} {n'} {m} {test} {more} few many wider log e valid =
    let i : ℕ = e.student in
    let s : ℕ = e.school in
    let kept : test i ≡ true = next-passes few log i s valid.next in
    let more_rivals = how_many-le m (λ j. test j && (has (matching_of n log) s j && is_ahead n s j i)) (λ j. more j && (has (matching_of n' log) s j && is_ahead n' s j i)) (λ j. rival-grows few many wider log i s j kept) in
    record {
      next = next-grows few many wider log i s valid.next;
      full = omega (arith, valid.full, more_rivals, few.seats s, many.seats s, few.counts (λ j. has (matching_of n log) s j && is_ahead n s j i), many.counts (λ j. has (matching_of n' log) s j && is_ahead n' s j i));
    }

pub valid-grows : {n n' m : Market} {test more : ℕ → Bool} → Restricts n m test → Restricts n' m more → ((i : ℕ) → test i ≡ true → more i ≡ true) → (log rest : List Rejection) → IsValidAfter n log rest → IsValidAfter n' log rest
valid-grows few many wider log [] valid = tt
valid-grows few many wider log (e ∷ rest) valid = (entry-grows few many wider log e valid.0, valid-grows few many wider (log ++ e ∷ []) rest valid.1)

-- a student's lists name the same schools in the cut papers
proper-cut : (m : Market) (k : ℕ) (student : Student) → IsProper m student → IsProper (cut m k) student
unfolding cut
proper-cut m k student proper = record {
  choices_some = proper.choices_some;
  choices_known = proper.choices_known;
  choices_differ = proper.choices_differ;
  siblings_known = proper.siblings_known;
  siblings_differ = proper.siblings_differ;
  continuing_known = proper.continuing_known;
}

-- the first of a list with no repeats have none
distinct-take : {X : Type 0} (k : ℕ) (es : List (ℕ × X)) → IsDistinct nat_eq (keys_of es) → IsDistinct nat_eq (keys_of (take k es))
unfolding IsDistinct
distinct-take zero es distinct = tt
distinct-take (suc k) [] distinct = tt
distinct-take (suc k) (e ∷ es) distinct = (all-take k e.0 es distinct.0, distinct-take k es distinct.1)
  where
    all-take : {X : Type 0} (k n : ℕ) (es : List (ℕ × X)) → AllByRecursion (λ y. nat_eq n y ≡ false) (keys_of es) → AllByRecursion (λ y. nat_eq n y ≡ false) (keys_of (take k es))
    all-take zero n es apart = tt
    all-take (suc k) n [] apart = tt
    all-take (suc k) n (e ∷ es) apart = (apart.0, all-take k n es apart.1)

pub well-cut : (m : Market) (k : ℕ) → WellFormed m → WellFormed (cut m k)
unfolding cut
well-cut m k well = record {
  schools_differ = well.schools_differ;
  students_differ = distinct-take k m.students well.students_differ;
  students_proper = All-weaker (λ entry. IsProper m entry.1) (λ entry. IsProper (cut m k) entry.1) (λ entry. proper-cut m k entry.1) (take k m.students)
      (All-take (λ entry. IsProper m entry.1) k m.students well.students_proper);
}
