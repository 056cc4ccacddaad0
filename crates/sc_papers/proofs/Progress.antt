-- Each valid entry uses up one choice of one student.
use Rattle.std.proofs.Common.{◌≡◌, inl, inr, refl, ap, sym, subst, ◌∙◌, ℕ, ◌+◌, ◌≤◌, ◌==◌, nat_eq, Bool, true, false, cond, not, ◌&&◌, ◌||◌, List, [], ◌∷◌, ◌++◌, length, Option, Some, None, Contains, sum_by, count_by, is_some, arith}
use Rattle.std.specs.List.{IsDistinct}
use Rattle.std.proofs.lemmas.List.{length_push}
use Rattle.std.proofs.lemmas.List.Sums.{count_by-le-length, sum_by-le-sum_by}
use Rattle.std.proofs.lemmas.Bool.{cases_Bool, and_left, and_right, not-true, eq-eqb, ne_eqb, or_left, or_right, false≢true, cases_eq, false_from_ne_true}
use Rattle.sc_papers.specs.Market.{Market, students_of, choices_of}
use Rattle.sc_papers.specs.WellFormed.{WellFormed}
use Rattle.sc_papers.specs.Matching.{how_many, StandsBefore, Prefers}
use Rattle.sc_papers.specs.Log.{is_rejected, next_choice, matching_of, IsValidEntry, IsValidLog, IsSettled}
use Rattle.sc_papers.specs.Progress.{all_choices, placed}
use Rattle.sc_papers.specs.declared.rejection.Rejection.{Rejection}
use Rattle.sc_papers.proofs.Counting.{count-split, count-agree, count-lt}
use Rattle.sc_papers.proofs.Sums.{sum-agree, sum-zero, sum-add, sum-bump, count-all}
use Rattle.sc_papers.proofs.Choices.{first-found, contains-at, one-place, stands-after}
use Rattle.sc_papers.proofs.Rejections.{is_of, rejected-push, rejected-push_cases, next-same}
use Rattle.sc_papers.proofs.Students.{choices-differ}
use Rattle.sc_papers.proofs.Validity.{along, next-listed, next-among}
use Rattle.sc_papers.proofs.Optimality.{preferred-rejected, settled-optimal}
use Rattle.sc_papers.proofs.Uniqueness.{optimal-unique}

-- how many of a student's choices have rejected the student
tried : Market → List Rejection → ℕ → ℕ
tried m log i = count_by (λ s. is_rejected log i s) (choices_of m i)

-- a next choice has not rejected the student
pub next-open : (m : Market) (log : List Rejection) (i s : ℕ) → next_choice m log i ≡ Some s → is_rejected log i s ≡ false
unfolding next_choice
next-open m log i s next = not-true (is_rejected log i s) (first-found (λ t. not (is_rejected log i t)) (choices_of m i) s next).passes

-- an entry rejects its own student there
pub rejected-here : (log : List Rejection) (e : Rejection) → is_rejected (log ++ e ∷ []) e.student e.school ≡ true
rejected-here log e =
    rejected-push log e e.student e.school
    ∙ or_right (is_rejected log e.student e.school) (is_of e e.student e.school) (ap (λ b. b && (e.school == e.school)) (eq-eqb e.student e.student refl) ∙ eq-eqb e.school e.school refl)

-- and no other school or student
rejected-apart : (log : List Rejection) (e : Rejection) (i s : ℕ) → is_of e i s ≡ false → is_rejected (log ++ e ∷ []) i s ≡ is_rejected log i s
rejected-apart log e i s apart = rejected-push log e i s ∙ ap (λ b. is_rejected log i s || b) apart ∙ or-false (is_rejected log i s)
  where
    or-false : (b : Bool) → (b || false) ≡ b
    or-false true = refl
    or-false false = refl

-- leaving out the school that the entry adds, the same are rejected
leaves-rest : (log : List Rejection) (e : Rejection) → is_rejected log e.student e.school ≡ false → (s : ℕ) → (is_rejected (log ++ e ∷ []) e.student s && not (s == e.school)) ≡ is_rejected log e.student s
leaves-rest log e untried s =
    elim (cases_eq s e.school) [
      | inl same ↦ and_right (is_rejected (log ++ e ∷ []) e.student s) (not (s == e.school)) (ap not (eq-eqb s e.school same)) ∙ sym (ap (is_rejected log e.student) same ∙ untried)
      | inr apart ↦
          keeps (is_rejected (log ++ e ∷ []) e.student s) (not (s == e.school)) (ap not (ne_eqb s e.school apart))
          ∙ rejected-apart log e e.student s (and_right (e.student == e.student) (e.school == s) (ne_eqb e.school s (λ same. apart (sym same))))
    ]
  where
    keeps : (a b : Bool) → b ≡ true → (a && b) ≡ a
    keeps true b holds = holds
    keeps false b holds = refl

-- an entry uses up one choice of its student
tried-more : (m : Market) → WellFormed m → (log : List Rejection) (e : Rejection) → IsValidEntry m log e → tried m (log ++ e ∷ []) e.student ≡ 1 + tried m log e.student
unfolding tried
tried-more m well log e valid =
    count-split (λ s. is_rejected (log ++ e ∷ []) e.student s) (choices_of m e.student) e.school (choices-differ m well e.student) (next-listed m log e.student e.school valid.next) (rejected-here log e)
    ∙ ap (λ n. 1 + n) (count-agree (λ s. is_rejected (log ++ e ∷ []) e.student s && not (s == e.school)) (λ s. is_rejected log e.student s) (choices_of m e.student)
    (λ s among. leaves-rest log e (next-open m log e.student e.school valid.next) s))

tried-same : (m : Market) (log : List Rejection) (e : Rejection) (i : ℕ) → (e.student ≡ i → ⊥) → tried m (log ++ e ∷ []) i ≡ tried m log i
unfolding tried
tried-same m log e i apart =
    count-agree (λ s. is_rejected (log ++ e ∷ []) i s) (λ s. is_rejected log i s) (choices_of m i)
    (λ s among. rejected-apart log e i s (and_left (e.student == i) (e.school == s) (ne_eqb e.student i apart)))

-- a valid log is as long as the choices that it has used up
record UsesUp (m : Market) (log : List Rejection) : Type 0 where
  all : length log ≡ sum_by (tried m log) (students_of m)

uses-push : (m : Market) → WellFormed m → (log : List Rejection) (e : Rejection) → IsValidEntry m log e → UsesUp m log → UsesUp m (log ++ e ∷ [])
uses-push m well log e valid before = record {
  all = omega (
    arith,
    length_push log e,
    before.all,
    sum-bump (tried m log) (tried m (log ++ e ∷ [])) (students_of m) e.student well.students_differ (next-among m log e.student e.school valid.next) (tried-more m well log e valid) (tried-same m log e),
  );
}

tried-none : (m : Market) (i : ℕ) → tried m [] i ≡ 0
unfolding tried
tried-none m i = sum-zero (λ s. 0) (choices_of m i) (λ s. refl)

uses-up : (m : Market) → WellFormed m → (log : List Rejection) → IsValidLog m log → UsesUp m log
uses-up m well log valid = along m (UsesUp m) (uses-push m well) [] log (record { all = sym (sum-zero (tried m []) (students_of m) (tried-none m)) }) valid

-- what a student has tried, and one where a choice is left
tried-within : (m : Market) (log : List Rejection) (i : ℕ) → tried m log i + cond (is_some (next_choice m log i)) 1 0 ≤ length (choices_of m i)
unfolding tried
tried-within m log i = go (next_choice m log i) refl
  where
    go : (next : Option ℕ) → next_choice m log i ≡ next → count_by (λ s. is_rejected log i s) (choices_of m i) + cond (is_some next) 1 0 ≤ length (choices_of m i)
    go None is = omega (arith, count_by-le-length (λ s. is_rejected log i s) (choices_of m i))
    go (Some s) is = omega (
      arith,
      count-all (choices_of m i),
      count-lt (λ t. is_rejected log i t) (λ t. true) (choices_of m i) (λ t among rejected. refl) s (next-listed m log i s is) (next-open m log i s is) refl,
    )

-- a valid log and the students that it places are no more than all choices
pub log-bounded : (m : Market) → WellFormed m → (log : List Rejection) → IsValidLog m log → length log + placed m (matching_of m log) ≤ all_choices m
unfolding how_many all_choices
log-bounded m well log valid =
    omega (
      arith,
      (uses-up m well log valid).all,
      sum-add (tried m log) (λ i. cond (is_some (next_choice m log i)) 1 0) (students_of m),
      sum_by-le-sum_by (λ i. tried m log i + cond (is_some (next_choice m log i)) 1 0) (λ i. length (choices_of m i)) (students_of m) (tried-within m log),
    )

-- what has rejected a student, the student prefers to the next choice
record NoGaps (m : Market) (log : List Rejection) : Type 0 where
  preferred : (i s : ℕ) → is_rejected log i s ≡ true → Prefers m i s (next_choice m log i)

before-trans : (xs : List ℕ) (s t u : ℕ) → IsDistinct nat_eq xs → StandsBefore xs s t → StandsBefore xs t u → StandsBefore xs s u
before-trans xs s t u distinct (j, k, low, at_j, at_k) (l, n, less, at_l, at_n) =
    (j, n, omega (arith, low, less, one-place xs k l t distinct at_k at_l), at_j, at_n)

-- what is open, but for the next choice, stands after it
after-first : (m : Market) (log : List Rejection) (i s t : ℕ) → next_choice m log i ≡ Some s → Contains (choices_of m i) t → is_rejected log i t ≡ false → (t ≡ s → ⊥) → StandsBefore (choices_of m i) s t
unfolding next_choice
after-first m log i s t next listed untried apart = stands-after (λ u. not (is_rejected log i u)) (choices_of m i) s t next listed (ap not untried) apart

-- the entry's own student, by cases on what comes next
gap-own : (m : Market) → WellFormed m → (log : List Rejection) (e : Rejection) → IsValidEntry m log e → NoGaps m log → (s : ℕ) → is_rejected (log ++ e ∷ []) e.student s ≡ true → (next : Option ℕ) → next_choice m (log ++ e ∷ []) e.student ≡ next → Prefers m e.student s next
gap-own m well log e valid gaps s rejected None is =
    elim (rejected-push_cases log e e.student s rejected) [
      | inl before ↦
          let (j, k, low, at_j, at_k) = subst (Prefers m e.student s) valid.next (gaps.preferred e.student s before) in
          contains-at (choices_of m e.student) j s at_j
      | inr (same_student, same_school) ↦ subst (Contains (choices_of m e.student)) same_school (next-listed m log e.student e.school valid.next)
    ]
gap-own m well log e valid gaps s rejected (Some u) is =
    let xs : List ℕ = choices_of m e.student in
    let untried : is_rejected (log ++ e ∷ []) e.student u ≡ false = next-open m (log ++ e ∷ []) e.student u is in
    let apart : u ≡ e.school → ⊥ = λ same. false≢true (sym untried ∙ ap (is_rejected (log ++ e ∷ []) e.student) same ∙ rejected-here log e) in
    let untried_before : is_rejected log e.student u ≡ false = false_from_ne_true (is_rejected log e.student u) (λ before. false≢true (sym untried ∙ rejected-push log e e.student u ∙ or_left (is_rejected log e.student u) (is_of e e.student u) before)) in
    let later : StandsBefore xs e.school u = after-first m log e.student e.school u valid.next (next-listed m (log ++ e ∷ []) e.student u is) untried_before apart in
    elim (rejected-push_cases log e e.student s rejected) [
      | inl before ↦ before-trans xs s e.school u (choices-differ m well e.student) (subst (Prefers m e.student s) valid.next (gaps.preferred e.student s before)) later
      | inr (same_student, same_school) ↦ subst (λ t. StandsBefore xs t u) same_school later
    ]

gaps-push : (m : Market) → WellFormed m → (log : List Rejection) (e : Rejection) → IsValidEntry m log e → NoGaps m log → NoGaps m (log ++ e ∷ [])
gaps-push m well log e valid gaps = record {
  preferred = λ i s rejected. elim (cases_eq e.student i) [
    | inl same ↦ subst (λ j. Prefers m j s (next_choice m (log ++ e ∷ []) j)) same
        (gap-own m well log e valid gaps s (ap (λ j. is_rejected (log ++ e ∷ []) j s) same ∙ rejected) (next_choice m (log ++ e ∷ []) e.student) refl)
    | inr apart ↦ subst (Prefers m i s) (sym (next-same m log e i apart))
        (gaps.preferred i s (sym (rejected-apart log e i s (and_left (e.student == i) (e.school == s) (ne_eqb e.student i apart))) ∙ rejected))
  ];
}

pub rejected-preferred : (m : Market) → WellFormed m → (log : List Rejection) → IsValidLog m log → (i s : ℕ) → is_rejected log i s ≡ true → Prefers m i s (next_choice m log i)
rejected-preferred m well log valid =
    (along m (NoGaps m) (gaps-push m well) [] log (record { preferred = λ i s rejected. absurd (false≢true rejected) }) valid).preferred

-- two settled logs reject the same
rejects-also : (m : Market) → WellFormed m → (log other : List Rejection) → IsSettled m log → IsSettled m other → (i s : ℕ) → is_rejected log i s ≡ true → is_rejected other i s ≡ true
rejects-also m well log other first second i s rejected =
    let same : next_choice m log i ≡ next_choice m other i = optimal-unique m (matching_of m log) (matching_of m other) (settled-optimal m well log first) (settled-optimal m well other second) i in
    preferred-rejected m well other i s (subst (Prefers m i s) same (rejected-preferred m well log first.valid i s rejected))

pub same-rejected : (m : Market) → WellFormed m → (log other : List Rejection) → IsSettled m log → IsSettled m other → (i s : ℕ) → is_rejected log i s ≡ is_rejected other i s
same-rejected m well log other first second i s =
    elim (cases_Bool (is_rejected log i s)) [
      | inl rejected ↦ rejected ∙ sym (rejects-also m well log other first second i s rejected)
      | inr open_still ↦ open_still ∙ sym (false_from_ne_true (is_rejected other i s) (λ rejected. false≢true (sym open_still ∙ rejects-also m well other log second first i s rejected)))
    ]

tried-agree : (m : Market) → WellFormed m → (log other : List Rejection) → IsSettled m log → IsSettled m other → (i : ℕ) → tried m log i ≡ tried m other i
unfolding tried
tried-agree m well log other first second i =
    count-agree (λ s. is_rejected log i s) (λ s. is_rejected other i s) (choices_of m i) (λ s among. same-rejected m well log other first second i s)

pub same-length : (m : Market) → WellFormed m → (log other : List Rejection) → IsSettled m log → IsSettled m other → length log ≡ length other
same-length m well log other first second =
    (uses-up m well log first.valid).all
    ∙ sum-agree (tried m log) (tried m other) (students_of m) (λ i among. tried-agree m well log other first second i)
    ∙ sym (uses-up m well other second.valid).all
