-- The students of either papers, their places, and the lines of those whose place differs.
use Rattle.std.proofs.Common.{◌≡◌, sym, ◌∙◌, ap, subst, inl, inr, ℕ, ◌+◌, ◌<◌, ◌≤◌, Bool, true, false, not, cond, List, [], ◌∷◌, ◌++◌, append_assoc, length, filter, get_or, map, refl, take, All, Contains, IsPermutation, None, Some, Result, Ok, Err, slice_get, add-one, arith}
use Rattle.std.specs.List.Sorted.{IsBinarySearchResult, IsSortedByKey}
use Rattle.std.specs.Ordering.{nat_cmp}
use Rattle.std.specs.Prelude.{codes, flat_map}
use Rattle.std.specs.Result.{is_ok}
use Rattle.std.proofs.Math.Seq.{take-suc}
use Rattle.std.proofs.lemmas.Bool.{cases_Bool, cases_lt, cond-false, cond-true}
use Rattle.std.proofs.lemmas.Grind.{flat_map-append}
use Rattle.std.proofs.lemmas.List.{append-nil, get_or-map, get_or_default, length-map}
use Rattle.std.proofs.lemmas.List.Elements.{filter-append}
use Rattle.std.proofs.lemmas.List.Sorted.{Contains-permutation, IsPermutation-append_left, IsPermutation-sym, searched}
use Rattle.sc_papers.specs.Market.{Market, is_student, students_of}
use Rattle.sc_papers.specs.Matching.{Matching}
use Rattle.sc_papers.proofs.Positions.{among-student, student-among}
use Rattle.sc_repair.specs.Standing.{matching_of, Standing}
use Rattle.sc_reasons.specs.Entrants.{numbers_of, AreRising, Holds}
use Rattle.sc_reasons.specs.Rising.{rising}
use Rattle.sc_reasons.specs.declared.entrants.Entrant.{Entrant}
use Rattle.sc_reasons.proofs.RisingLemmas.{rising-orders, rising-permutes, rising-same}
use Rattle.sc_report.proofs.LineLemmas.{lines-map}
use Rattle.sc_tallies.proofs.Tallying.{take-one}
use Rattle.sc_notices.specs.Changes.{changed, differ, place_in, students_of_either}
use Rattle.sc_notices.specs.ChangesText.{change_line, changes_header, changes_text}
use Rattle.sc_notices.specs.Parts.{change_part}
use Rattle.sc_notices.specs.Telling.{Tells}
use Rattle.sc_notices.specs.declared.parts.TextParts.TheVariants.{Compared}
use Rattle.sc_notices.proofs.AdmissionLemmas.{sorted-rising}

-- a number that stands among the rising numbers of students is that of one
found-student : (m : Market) (numbers : List ℕ) (i at : ℕ) → numbers ≡ rising (students_of m) → at < length numbers → get_or numbers at 0 ≡ i → is_student m i ≡ true
found-student m numbers i at are low here =
    let among : Contains numbers i = (at, low, get_or_default numbers at i 0 low ∙ here) in
    among-student m i (Contains-permutation (rising (students_of m)) (students_of m) i (IsPermutation-sym (students_of m) (rising (students_of m)) (rising-permutes (students_of m)))
    (subst (λ xs. Contains xs i) are among))

-- and one that would stand between them is not
lost-student : (m : Market) (numbers : List ℕ) (i at : ℕ) → numbers ≡ rising (students_of m) → ((k : ℕ) → k < at → get_or numbers k 0 < i)
    → ((k : ℕ) → at ≤ k → k < length numbers → i < get_or numbers k 0) → is_student m i ≡ false
lost-student m numbers i at are below above = elim (cases_Bool (is_student m i)) [
  | inl known ↦
      let among : Contains numbers i =
      subst (λ xs. Contains xs i) (sym are) (Contains-permutation (students_of m) (rising (students_of m)) i (rising-permutes (students_of m)) (student-among m i known)) in
      let (k, low, here) = among in
      let there : get_or numbers k 0 ≡ i = get_or_default numbers k 0 i low ∙ here in
      elim (cases_lt k at) [
        | inl before ↦ absurd (omega (arith, below k before, there))
        | inr after ↦ absurd (omega (arith, above k after low, there))
      ]
  | inr unknown ↦ unknown
]

numbers-rise : (xs numbers : List ℕ) → numbers ≡ rising xs → (i j : ℕ) → i ≤ j → j < length numbers → get_or numbers i 0 ≤ get_or numbers j 0
numbers-rise xs numbers are i j before low =
    subst (λ ys. get_or ys i 0 ≤ get_or ys j 0) (sym are) (rising-orders xs i j before (subst (λ ys. j < length ys) are low))

-- a search among the rising numbers of students finds exactly the students
pub searched-student : (m : Market) (numbers : List ℕ) (i : ℕ) (r : Result ℕ ℕ) → numbers ≡ rising (students_of m) → IsBinarySearchResult (λ y. nat_cmp y i) numbers r → is_ok r ≡ is_student m i
searched-student m numbers i (Ok at) are found =
    let (low, here) = searched numbers i (Ok at) found (numbers-rise (students_of m) numbers are) in
    sym (found-student m numbers i at are low here)
searched-student m numbers i (Err at) are found =
    let (low, below, above) = searched numbers i (Err at) found (numbers-rise (students_of m) numbers are) in
    sym (lost-student m numbers i at are below above)

module _ (m : Market) (a : Matching) (numbers : List ℕ) (places : List Entrant) (i : ℕ) (same : numbers ≡ numbers_of places) (are : AreRising m places) where
  -- what is noted where the number is found is the student's place
  pub searched-place : All (Holds a) places → (at : ℕ) (one : Entrant) → IsBinarySearchResult (λ y. nat_cmp y i) numbers (Ok at) → one ≡ get_or places at one → Some one.held ≡ place_in m a i
  searched-place hold at one found is =
      let rises : numbers ≡ rising (students_of m) = same ∙ are.numbers in
      let (low, here) = searched numbers i (Ok at) found (numbers-rise (students_of m) numbers rises) in
      let within : at < length places = omega (arith, low, ap length same, length-map places (λ (e : Entrant). e.student)) in
      let whose : one.student ≡ i =
      ap (λ (e : Entrant). e.student) is
      ∙ sym (get_or-map (λ (e : Entrant). e.student) places at one 0 within)
      ∙ ap (λ xs. get_or xs at 0) (sym same) ∙ here in
      let held : Holds a one = subst (Holds a) (sym is) (hold at one within) in
      ap Some (sym held ∙ ap a whose) ∙ sym (cond-true (is_student m i) (Some (a i)) None (found-student m numbers i at rises low here))

  -- and a number that is not found is that of nobody
  pub searched-nobody : (at : ℕ) → IsBinarySearchResult (λ y. nat_cmp y i) numbers (Err at) → None ≡ place_in m a i
  searched-nobody at found =
      let unknown = searched-student m numbers i (Err at) (same ∙ are.numbers) found in
      sym (cond-false (is_student m i) (Some (a i)) None (sym unknown))

-- those who passed, and one more
filter-more : (p : ℕ → Bool) (xs : List ℕ) (x : ℕ) → filter p (xs ++ x ∷ []) ≡ cond (p x) (filter p xs ++ x ∷ []) (filter p xs)
filter-more p xs x = elim (cases_Bool (p x)) [
  | inl passes ↦
      filter-append p xs (x ∷ []) ∙ ap (λ more. filter p xs ++ more) (cond-true (p x) (x ∷ []) [] passes)
      ∙ sym (cond-true (p x) (filter p xs ++ x ∷ []) (filter p xs) passes)
  | inr fails ↦
      filter-append p xs (x ∷ []) ∙ ap (λ more. filter p xs ++ more) (cond-false (p x) (x ∷ []) [] fails) ∙ append-nil (filter p xs)
      ∙ sym (cond-false (p x) (filter p xs ++ x ∷ []) (filter p xs) fails)
]

-- the newcomers so far, and one more
pub newcomers-more : (m : Market) (xs : List ℕ) (k x : ℕ) (known : Bool) (old before after : List ℕ) → slice_get xs k ≡ Some x → known ≡ is_student m x
    → before ≡ old ++ filter (λ i. not (is_student m i)) (take k xs) → after ≡ cond known before (before ++ x ∷ [])
    → after ≡ old ++ filter (λ i. not (is_student m i)) (take (k + 1) xs)
newcomers-more m xs k x known old before after here known_is before_is after_is =
    let p = λ (i : ℕ). not (is_student m i) in
    let first = filter p (take k xs) in
    let more : filter p (take (k + 1) xs) ≡ cond (p x) (first ++ x ∷ []) first = ap (filter p) (take-one xs k x here) ∙ filter-more p (take k xs) x in
    elim (cases_Bool (is_student m x)) [
      | inl is ↦
          after_is ∙ cond-true known before (before ++ x ∷ []) (known_is ∙ is) ∙ before_is
          ∙ ap (λ ys. old ++ ys) (sym (more ∙ cond-false (p x) (first ++ x ∷ []) first (ap not is)))
      | inr unknown ↦
          after_is ∙ cond-false known before (before ++ x ∷ []) (known_is ∙ unknown) ∙ ap (λ ys. ys ++ x ∷ []) before_is
          ∙ append_assoc old first (x ∷ [])
          ∙ ap (λ ys. old ++ ys) (sym (more ∙ cond-true (p x) (first ++ x ∷ []) first (ap not unknown)))
    ]

-- the students of the first papers by rising number and the newcomers, sorted, are those of either papers
pub either-rising : (m n : Market) (numbers all sorted : List ℕ) → numbers ≡ rising (students_of m) → all ≡ numbers ++ filter (λ i. not (is_student m i)) (students_of n)
    → IsPermutation all sorted → IsSortedByKey (λ x. x) nat_cmp sorted → sorted ≡ rising (students_of_either m n)
either-rising m n numbers all sorted are all_is moved up =
    let new = filter (λ i. not (is_student m i)) (students_of n) in
    sorted-rising all sorted moved up
    ∙ ap rising (all_is ∙ ap (λ xs. xs ++ new) are)
    ∙ rising-same (students_of_either m n) (rising (students_of m) ++ new) (IsPermutation-append_left new (students_of m) (rising (students_of m)) (rising-permutes (students_of m)))

-- the lines of those who pass, where the others have none
lines-kept : (f : ℕ → List ℕ) (p : ℕ → Bool) (xs : List ℕ) → flat_map (λ i. cond (p i) (f i) []) xs ≡ flat_map f (filter p xs)
lines-kept f p [] = refl
lines-kept f p (x ∷ xs) =
    let others = flat_map (λ i. cond (p i) (f i) []) xs in
    elim (cases_Bool (p x)) [
      | inl passes ↦
          ap (λ line. line ++ others) (cond-true (p x) (f x) [] passes) ∙ ap (λ more. f x ++ more) (lines-kept f p xs)
          ∙ ap (flat_map f) (sym (cond-true (p x) (x ∷ filter p xs) (filter p xs) passes))
      | inr fails ↦
          ap (λ line. line ++ others) (cond-false (p x) (f x) [] fails) ∙ lines-kept f p xs
          ∙ ap (flat_map f) (sym (cond-false (p x) (x ∷ filter p xs) (filter p xs) fails))
    ]

-- whose place differs is told, each student's line as a part, or nothing
pub compared : (m : Market) (a : Matching) (before : List Entrant) (standing : Standing) (papers : Market) (students : List ℕ) → AreRising m before → All (Holds a) before
    → papers ≡ standing.papers → students ≡ rising (students_of_either m papers)
    → Tells (Compared (record { students = students; before = before; standing = standing })) (changes_text m a standing.papers (matching_of standing))
unfolding changed changes_text
compared m a before standing papers students are hold papers_is students_are =
    let n = standing.papers in
    let b = matching_of standing in
    let line = λ (i : ℕ). change_line i (place_in m a i) (place_in n b i) in
    let differs = λ (i : ℕ). differ (place_in m a i) (place_in n b i) in (
      map (change_part m a n b) students,
      record { papers = m; matching = a; rising = are; hold = hold; each = refl },
      ap (λ xs. changes_header ++ flat_map line (filter differs xs)) (sym (students_are ∙ ap (λ q. rising (students_of_either m q)) papers_is))
          ∙ ap (λ lines. changes_header ++ lines) (sym (lines-kept line differs students) ∙ lines-map (λ (part : List ℕ). part) (change_part m a n b) students),
    )
