-- The papers of the first turns, and of one more.
use Rattle.std.proofs.Common.{◌≡◌, inl, inr, refl, ap, sym, subst, ◌∙◌, ℕ, ◌+◌, ◌==◌, ◌&&◌, ◌||◌, Bool, true, false, List, [], ◌∷◌, ◌++◌, length, take, slice_get, Some, Contains, arith}
use Rattle.std.specs.List.{list_any}
use Rattle.std.proofs.lemmas.Cmp.{nat_eq_equiv}
use Rattle.std.proofs.lemmas.Bool.{and_from, and_parts, cases_lt, cond-false, cond-true, eq-eqb, eqb-true, false≢true, or_cases, or_left}
use Rattle.std.proofs.lemmas.List.{length_push, take-append-le, take_all, take_more}
use Rattle.std.proofs.lemmas.List.Folds.{list_any-append}
use Rattle.std.proofs.lemmas.Option.{get_or_from_slice_get, slice_get_within}
use Rattle.sc_papers.specs.Market.{Market, choices_of, students_of}
use Rattle.sc_papers.specs.WellFormed.{WellFormed}
use Rattle.sc_papers.specs.Log.{next_choice, IsSettled}
use Rattle.sc_papers.specs.Restriction.{is_among_first, joined, restricted, IsSegmented}
use Rattle.sc_papers.specs.Restriction as whole
use Rattle.sc_papers.specs.declared.rejection.Rejection.{Rejection}
use Rattle.sc_papers.specs.Chain.{and_one}
use Rattle.sc_papers.proofs.Cutting as cutting
use Rattle.sc_papers.proofs.Cutting.{joined-push}
use Rattle.sc_papers.proofs.Restriction.{Restricts, next-kept, restricted-restricts}
use Rattle.sc_papers.proofs.Subsets.{next-grows, next-passes, well-restricted}
use Rattle.sc_ledgers.specs.Cohort.{Cohort, cut, has_entered, IsRunTo}

pub cut-entered : (m : Cohort) (k : ℕ) → cut m k ≡ restricted m.papers (has_entered m k)
unfolding cut
cut-entered m k = refl

pub first-students : (m : Cohort) (k : ℕ) → WellFormed m.papers → Restricts (cut m k) m.papers (has_entered m k)
unfolding cut
first-students m k well = restricted-restricts m.papers (has_entered m k)

pub well-cut : (m : Cohort) (k : ℕ) → WellFormed m.papers → WellFormed (cut m k)
unfolding cut
well-cut m k well = well-restricted m.papers (has_entered m k) well

-- where everybody enters, the papers are those of the first students
pub cut-everybody : (m : Cohort) (k : ℕ) → WellFormed m.papers → ((j : ℕ) → m.enters j ≡ true) → cut m k ≡ whole.cut m.papers k
cut-everybody m k well all = cut-entered m k ∙ ap (restricted m.papers) (λ t j. same j t) ∙ sym (cutting.cut-restricted m.papers k well)
  where
    and-true : (b : Bool) → (b && true) ≡ b
    and-true true = refl
    and-true false = refl

    same : (j : ℕ) → has_entered m k j ≡ is_among_first m.papers k j
    same j = ap (λ b. is_among_first m.papers k j && b) (all j) ∙ and-true (is_among_first m.papers k j)

-- so are they where whoever is among the first ones enters
pub cut-first : (m : Cohort) (k : ℕ) → WellFormed m.papers → ((j : ℕ) → is_among_first m.papers k j ≡ true → m.enters j ≡ true) → cut m k ≡ whole.cut m.papers k
cut-first m k well first = cut-entered m k ∙ ap (restricted m.papers) (λ t j. same j t) ∙ sym (cutting.cut-restricted m.papers k well)
  where
    both : (a e : Bool) → (a ≡ true → e ≡ true) → (a && e) ≡ a
    both true e is = is refl
    both false e is = refl

    same : (j : ℕ) → has_entered m k j ≡ is_among_first m.papers k j
    same j = both (is_among_first m.papers k j) (m.enters j) (first j)

-- one more student is among the first ones
pub first-more : (m : Market) (k i j : ℕ) → slice_get (students_of m) k ≡ Some i → is_among_first m (k + 1) j ≡ (is_among_first m k j || (i == j))
first-more m k i j here =
    ap (list_any (λ x. x == j)) (take_more (students_of m) k i (slice_get_within (students_of m) k i here) ∙ ap (λ x. take k (students_of m) ++ x ∷ []) (get_or_from_slice_get (students_of m) k i i here))
    ∙ list_any-append (λ x. x == j) (take k (students_of m)) (i ∷ [])
    ∙ ap (λ b. is_among_first m k j || b) (or-false (i == j))
  where
    or-false : (b : Bool) → (b || false) ≡ b
    or-false true = refl
    or-false false = refl

-- who has entered stays so
pub entered-more : (m : Cohort) (k i j : ℕ) → slice_get (students_of m.papers) k ≡ Some i → has_entered m k j ≡ true → has_entered m (k + 1) j ≡ true
entered-more m k i j here entered =
    let parts = and_parts (is_among_first m.papers k j) (m.enters j) entered in
    and_from (is_among_first m.papers (k + 1) j) (m.enters j) (first-more m.papers k i j here ∙ or_left (is_among_first m.papers k j) (i == j) parts.0) parts.1

-- and whoever else has entered had entered
pub entered-less : (m : Cohort) (k i j : ℕ) → slice_get (students_of m.papers) k ≡ Some i → (j ≡ i → ⊥) → has_entered m (k + 1) j ≡ true → has_entered m k j ≡ true
entered-less m k i j here apart entered =
    let parts = and_parts (is_among_first m.papers (k + 1) j) (m.enters j) entered in
    and_from (is_among_first m.papers k j) (m.enters j) (elim (or_cases (is_among_first m.papers k j) (i == j) (sym (first-more m.papers k i j here) ∙ parts.0)) [
      | inl before ↦ before
      | inr same ↦ absurd (apart (sym (eqb-true i j same)))
    ]) parts.1

-- the student of the turn has entered
pub entered-now : (m : Cohort) (k i : ℕ) → slice_get (students_of m.papers) k ≡ Some i → m.enters i ≡ true → has_entered m (k + 1) i ≡ true
entered-now m k i here turn =
    and_from (is_among_first m.papers (k + 1) i) (m.enters i) (first-more m.papers k i i here ∙ or-right (is_among_first m.papers k i) (i == i) (eq-eqb i i refl)) turn
  where
    or-right : (a b : Bool) → b ≡ true → (a || b) ≡ true
    or-right true b is = refl
    or-right false b is = is

-- who has a next choice among one more student, and is another, has it without that student
pub next-without : (m : Cohort) (k i : ℕ) → WellFormed m.papers → slice_get (students_of m.papers) k ≡ Some i → (log : List Rejection) (j s : ℕ) → (j ≡ i → ⊥) → next_choice (cut m (k + 1)) log j ≡ Some s → next_choice (cut m k) log j ≡ Some s
next-without m k i well here log j s apart next =
    let large = first-students m (k + 1) well in
    let many = next-passes large log j s next in
    next-kept (first-students m k well) log j (entered-less m k i j here apart many) ∙ sym (next-kept large log j many) ∙ next

pub next-with : (m : Cohort) (k i : ℕ) → WellFormed m.papers → slice_get (students_of m.papers) k ≡ Some i → (log : List Rejection) (j s : ℕ) → next_choice (cut m k) log j ≡ Some s → next_choice (cut m (k + 1)) log j ≡ Some s
next-with m k i well here log j s next =
    next-grows (first-students m k well) (first-students m (k + 1) well) (λ p kept. entered-more m k i p here kept) log j s next

-- a student who lists a school among the first ones has entered
pub lister-entered : (m : Cohort) (k j s : ℕ) → WellFormed m.papers → Contains (choices_of (cut m k) j) s → has_entered m k j ≡ true
lister-entered m k j s well listed = go (has_entered m k j) refl
  where
    nothing : Contains {X = ℕ} [] s → ⊥
    nothing found = omega (arith, found.1)

    go : (b : Bool) → has_entered m k j ≡ b → b ≡ true
    go true is = refl
    go false is = absurd (nothing (subst (λ xs. Contains xs s) ((first-students m k well).choices j ∙ cond-false (has_entered m k j) (choices_of m.papers j) [] is) listed))

-- and has the same choices there
pub choices-entered : (m : Cohort) (k j : ℕ) → WellFormed m.papers → has_entered m k j ≡ true → choices_of (cut m k) j ≡ choices_of m.papers j
choices-entered m k j well entered = (first-students m k well).choices j ∙ cond-true (has_entered m k j) (choices_of m.papers j) [] entered

-- of the same students the same have entered, where both or neither enter
pub entered-same : (m n : Cohort) (k j : ℕ) → students_of n.papers ≡ students_of m.papers → n.enters j ≡ m.enters j → has_entered n k j ≡ has_entered m k j
entered-same m n k j students enters =
    ap (λ xs. list_any (λ y. y == j) (take k xs) && n.enters j) students ∙ ap (λ b. is_among_first m.papers k j && b) enters

-- the papers once one more has entered
pub cut-one : (n : Cohort) (k i : ℕ) → slice_get (students_of n.papers) k ≡ Some i → n.enters i ≡ true → cut n (k + 1) ≡ restricted n.papers (and_one (has_entered n k) i)
cut-one n k i here turn = cut-entered n (k + 1) ∙ ap (restricted n.papers) (λ t j. same j t)
  where
    go : (a c e : Bool) → (c ≡ true → e ≡ true) → ((a || c) && e) ≡ ((a && e) || c)
    go true true true is = refl
    go true true false is = absurd (false≢true (is refl))
    go true false true is = refl
    go true false false is = refl
    go false true true is = refl
    go false true false is = absurd (false≢true (is refl))
    go false false e is = refl

    same : (j : ℕ) → has_entered n (k + 1) j ≡ and_one (has_entered n k) i j
    same j =
        ap (λ b. b && n.enters j) (first-more n.papers k i j here ∙ ap (λ b. is_among_first n.papers k j || b) (nat_eq_equiv.symm i j))
        ∙ go (is_among_first n.papers k j) (j == i) (n.enters j) (λ is. ap n.enters (eqb-true j i is) ∙ turn)

-- the papers are as before where the one at hand does not enter
pub cut-none : (n : Cohort) (k i : ℕ) → slice_get (students_of n.papers) k ≡ Some i → n.enters i ≡ false → cut n (k + 1) ≡ cut n k
cut-none n k i here turn = cut-entered n (k + 1) ∙ ap (restricted n.papers) (λ t j. same j t) ∙ sym (cut-entered n k)
  where
    go : (a c e : Bool) → (c ≡ true → e ≡ false) → ((a || c) && e) ≡ (a && e)
    go true c e is = refl
    go false true true is = absurd (false≢true (sym (is refl)))
    go false true false is = refl
    go false false e is = refl

    same : (j : ℕ) → has_entered n (k + 1) j ≡ has_entered n k j
    same j =
        ap (λ b. b && n.enters j) (first-more n.papers k i j here)
        ∙ go (is_among_first n.papers k j) (i == j) (n.enters j) (λ is. ap n.enters (sym (eqb-true i j is)) ∙ turn)

-- the log of a run is settled
pub run-settled : (n : Cohort) (k : ℕ) (new : List (List Rejection)) → IsRunTo n k new → IsSettled (cut n k) (joined new)
run-settled n k new run = subst (λ xs. IsSettled (cut n k) (joined xs)) (take_all k new (omega (arith, run.one_each))) (run.settled k (omega arith))

-- a run in which everybody enters is a log in segments
pub run-segments : (m : Cohort) (segments : List (List Rejection)) → WellFormed m.papers → ((j : ℕ) → m.enters j ≡ true) → IsRunTo m (length (students_of m.papers)) segments → IsSegmented m.papers segments
run-segments m segments well all run = record {
  one_each = run.one_each;
  settled = λ k low. subst (λ p. IsSettled p (joined (take k segments))) (cut-everybody m k well all) (run.settled k (omega (arith, low, run.one_each)));
}

pub segments-run : (m : Cohort) (segments : List (List Rejection)) → WellFormed m.papers → ((j : ℕ) → m.enters j ≡ true) → IsSegmented m.papers segments → IsRunTo m (length (students_of m.papers)) segments
segments-run m segments well all run = record {
  one_each = run.one_each;
  settled = λ k low. subst (λ p. IsSettled p (joined (take k segments))) (sym (cut-everybody m k well all)) (run.settled k (omega (arith, low, run.one_each)));
}

-- the segments of one more turn
pub run-more : (n : Cohort) (k : ℕ) (new : List (List Rejection)) (rest : List Rejection) → IsRunTo n k new → IsSettled (cut n (k + 1)) (joined new ++ rest) → IsRunTo n (k + 1) (new ++ rest ∷ [])
run-more n k new rest run settled = record {
  one_each = length_push new rest ∙ omega (arith, run.one_each);
  settled = λ t low. elim (cases_lt t (k + 1)) [
    | inl earlier ↦ subst (IsSettled (cut n t)) (ap joined (sym (take-append-le t new (rest ∷ []) (omega (arith, earlier, run.one_each))))) (run.settled t (omega (arith, earlier)))
    | inr now ↦
        let same : t ≡ k + 1 = omega (arith, low, now) in
        let long : take t (new ++ rest ∷ []) ≡ new ++ rest ∷ [] = take_all t (new ++ rest ∷ []) (omega (arith, length_push new rest, run.one_each, same)) in
        subst (λ u. IsSettled (cut n u) (joined (take t (new ++ rest ∷ [])))) (sym same) (subst (IsSettled (cut n (k + 1))) (sym (ap joined long ∙ joined-push new rest)) settled)
  ];
}
