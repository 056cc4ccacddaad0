-- Exactly those are told of whose place differs.
use Rattle.std.proofs.Common.{◌≡◌, ◌↔◌, refl, sym, ◌∙◌, ap, subst, inl, inr, ℕ, nat_eq, Bool, true, false, not, cond, List, [], ◌∷◌, ◌++◌, filter, Option, None, Some, Contains, arith}
use Rattle.std.specs.Option.{option_eq}
use Rattle.std.specs.Prelude.{codes, flat_map}
use Rattle.std.proofs.lemmas.Bool.{cases_Bool, cond-false, cond-true, eq-eqb, eqb-true, false≢true}
use Rattle.std.proofs.lemmas.List.Elements.{Contains-append_left, Contains-append_right}
use Rattle.std.proofs.lemmas.List.Sorted.{Contains-permutation}
use Rattle.sc_papers.specs.Market.{Market, is_student, students_of}
use Rattle.sc_papers.specs.Matching.{Matching}
use Rattle.sc_papers.proofs.Counting.{contains-cons, contains-head, contains-tail}
use Rattle.sc_papers.proofs.Positions.{student-among}
use Rattle.sc_reasons.specs.Rising.{rising}
use Rattle.sc_reasons.proofs.RisingLemmas.{rising-permutes}
use Rattle.sc_notices.specs.Changes.{changed, differ, place_in, students_of_either}
use Rattle.sc_notices.specs.ChangesText.{change_line, changes_text}

same-held : (p : Option ℕ) → option_eq nat_eq p p ≡ true
same-held None = refl
same-held (Some s) = eq-eqb s s refl

same-place : (p : Option (Option ℕ)) → option_eq (option_eq nat_eq) p p ≡ true
same-place None = refl
same-place (Some held) = same-held held

held-same : (p q : Option ℕ) → option_eq nat_eq p q ≡ true → p ≡ q
held-same None None same = refl
held-same None (Some t) same = absurd (false≢true same)
held-same (Some s) None same = absurd (false≢true same)
held-same (Some s) (Some t) same = ap Some (eqb-true s t same)

place-same : (p q : Option (Option ℕ)) → option_eq (option_eq nat_eq) p q ≡ true → p ≡ q
place-same None None same = refl
place-same None (Some held) same = absurd (false≢true same)
place-same (Some held) None same = absurd (false≢true same)
place-same (Some held) (Some other) same = ap Some (held-same held other same)

-- places that are one do not differ
one-place : (p q : Option (Option ℕ)) → p ≡ q → differ p q ≡ false
one-place p q one = ap not (subst (λ r. option_eq (option_eq nat_eq) p r ≡ true) one (same-place p))

-- and those that are not do
two-places : (p q : Option (Option ℕ)) → (p ≡ q → ⊥) → differ p q ≡ true
two-places p q apart = elim (cases_Bool (option_eq (option_eq nat_eq) p q)) [
  | inl same ↦ absurd (apart (place-same p q same))
  | inr other ↦ ap not other
]

-- a number that passes a test is among those of a list that do, and only such a one
filter-keeps : (p : ℕ → Bool) (xs : List ℕ) (i : ℕ) → Contains xs i → p i ≡ true → Contains (filter p xs) i
filter-keeps p [] i among passes = among
filter-keeps p (x ∷ xs) i among passes = elim (contains-cons x xs i among) [
  | inl same ↦ subst (λ ys. Contains ys i) (sym (cond-true (p x) (x ∷ filter p xs) (filter p xs) (ap p same ∙ passes))) (subst (λ y. Contains (x ∷ filter p xs) y) same (contains-head x (filter p xs)))
  | inr later ↦
      let rest = filter-keeps p xs i later passes in
      elim (cases_Bool (p x)) [
        | inl kept ↦ subst (λ ys. Contains ys i) (sym (cond-true (p x) (x ∷ filter p xs) (filter p xs) kept)) (contains-tail x (filter p xs) i rest)
        | inr dropped ↦ subst (λ ys. Contains ys i) (sym (cond-false (p x) (x ∷ filter p xs) (filter p xs) dropped)) rest
      ]
]

filter-passes : (p : ℕ → Bool) (xs : List ℕ) (i : ℕ) → Contains (filter p xs) i → p i ≡ true
filter-passes p [] i (k, low, at) = absurd (omega (arith, low))
filter-passes p (x ∷ xs) i among = elim (cases_Bool (p x)) [
  | inl kept ↦ elim (contains-cons x (filter p xs) i (subst (λ ys. Contains ys i) (cond-true (p x) (x ∷ filter p xs) (filter p xs) kept) among)) [
    | inl same ↦ ap p (sym same) ∙ kept
    | inr later ↦ filter-passes p xs i later
  ]
  | inr dropped ↦ filter-passes p xs i (subst (λ ys. Contains ys i) (cond-false (p x) (x ∷ filter p xs) (filter p xs) dropped) among)
]

filter-none : (p : ℕ → Bool) (xs : List ℕ) → ((i : ℕ) → p i ≡ false) → filter p xs ≡ []
filter-none p [] none = refl
filter-none p (x ∷ xs) none = cond-false (p x) (x ∷ filter p xs) (filter p xs) (none x) ∙ filter-none p xs none

-- whoever has a place at either time is one of the students of either papers
among-either : (m : Market) (a : Matching) (n : Market) (b : Matching) (i : ℕ) → (place_in m a i ≡ place_in n b i → ⊥) → Contains (rising (students_of_either m n)) i
among-either m a n b i apart =
    let new = filter (λ j. not (is_student m j)) (students_of n) in
    Contains-permutation (students_of_either m n) (rising (students_of_either m n)) i (rising-permutes (students_of_either m n)) (elim (cases_Bool (is_student m i)) [
      | inl old ↦ Contains-append_left (students_of m) new i (student-among m i old)
      | inr away ↦ elim (cases_Bool (is_student n i)) [
        | inl come ↦ Contains-append_right (students_of m) new i (filter-keeps (λ j. not (is_student m j)) (students_of n) i (student-among n i come) (ap not away))
        | inr nowhere ↦ absurd (apart (cond-false (is_student m i) (Some (a i)) None away ∙ sym (cond-false (is_student n i) (Some (b i)) None nowhere)))
      ]
    ])

pub changed-exact : (m : Market) (a : Matching) (n : Market) (b : Matching) (i : ℕ) → (Contains (changed m a n b) i) ↔ (place_in m a i ≡ place_in n b i → ⊥)
unfolding changed
changed-exact m a n b i =
    let p = λ (j : ℕ). differ (place_in m a j) (place_in n b j) in (
      λ among one. false≢true (sym (one-place (place_in m a i) (place_in n b i) one) ∙ filter-passes p (rising (students_of_either m n)) i among),
      λ apart. filter-keeps p (rising (students_of_either m n)) i (among-either m a n b i apart) (two-places (place_in m a i) (place_in n b i) apart),
    )

pub unchanged : (m : Market) (a b : Matching) → ((i : ℕ) → a i ≡ b i) → changes_text m a m b ≡ codes "student,before,after\n"
unfolding changed changes_text
unchanged m a b agree =
    ap (λ students. codes "student,before,after\n" ++ flat_map (λ i. change_line i (place_in m a i) (place_in m b i)) students)
    (filter-none (λ i. differ (place_in m a i) (place_in m b i)) (rising (students_of_either m m))
    (λ i. one-place (place_in m a i) (place_in m b i) (ap (λ held. cond (is_student m i) (Some held) None) (agree i))))
