-- The segments of those who pass are segmented for the papers restricted to them.
use Rattle.std.proofs.Common.{◌≡◌, inl, inr, refl, ap, sym, subst₂, ◌∙◌, ℕ, zero, suc, ◌+◌, ◌≤◌, Bool, true, false, cond, not, List, [], ◌∷◌, ◌++◌, length, filter, take, get_or, slice_get, Some, length-append, arith}
use Rattle.std.proofs.lemmas.Bool.{cases_Bool, cond-true, cond-false, not_from_true, true≢false}
use Rattle.std.proofs.lemmas.List.{take_more}
use Rattle.std.proofs.lemmas.List.Elements.{filter-append}
use Rattle.std.proofs.lemmas.List.Filters.{length-filter_more}
use Rattle.std.proofs.lemmas.Option.{slice_get_within, get_or_from_slice_get}
use Rattle.sc_papers.specs.Market.{Market, students_of}
use Rattle.sc_papers.specs.WellFormed.{WellFormed}
use Rattle.sc_papers.specs.Log.{IsSettled}
use Rattle.sc_papers.specs.Restriction.{restricted, cut, joined, entries_of, outside, AreApart, IsSegmented}
use Rattle.sc_papers.specs.declared.rejection.Rejection.{Rejection}
use Rattle.sc_papers.proofs.Apart.{settled-apart}
use Rattle.sc_papers.proofs.Cutting.{joined-push}
use Rattle.sc_papers.proofs.Progress.{same-length}
use Rattle.sc_papers.proofs.Subsets.{well-cut, well-restricted}
use Rattle.sc_weave.specs.Weaving.{part_of}
use Rattle.sc_weave.proofs.Counts.{passing, restricted-cut, students-restricted, apart-cut, apart-outside}

-- a student who fails adds none to those who pass
passing-more : (test : ℕ → Bool) (k i : ℕ) (students : List ℕ) → slice_get students k ≡ Some i → test i ≡ false → passing test (k + 1) students ≡ passing test k students
passing-more test k i students here fails =
    length-filter_more test students k i (slice_get_within students k i here)
    ∙ adds-none (test (get_or students k i)) (passing test k students) (ap test (get_or_from_slice_get students k i i here) ∙ fails)
  where
    adds-none : (b : Bool) (n : ℕ) → b ≡ false → n + cond b 1 0 ≡ n
    adds-none true n fails = absurd (true≢false fails)
    adds-none false n fails = omega arith

-- so the papers restricted to those who pass stay the same
papers-same : (m : Market) (test : ℕ → Bool) (k i : ℕ) → slice_get (students_of m) k ≡ Some i → test i ≡ false → restricted (cut m (k + 1)) test ≡ restricted (cut m k) test
papers-same m test k i here fails =
    restricted-cut m test (k + 1) ∙ ap (cut (restricted m test)) (passing-more test k i (students_of m) here fails) ∙ sym (restricted-cut m test k)

-- the first segments and the next one
joined-more : (segments : List (List Rejection)) (k : ℕ) (segment : List Rejection) → slice_get segments k ≡ Some segment → joined (take (k + 1) segments) ≡ joined (take k segments) ++ segment
joined-more segments k segment here =
    ap joined (take_more segments k segment (slice_get_within segments k segment here) ∙ ap (λ s. take k segments ++ s ∷ []) (get_or_from_slice_get segments k segment segment here))
    ∙ joined-push (take k segments) segment

nothing-left : {X : Type 0} (xs : List X) → length xs ≡ 0 → xs ≡ []
nothing-left [] none = refl
nothing-left (x ∷ xs) none = absurd (omega (arith, none))

-- the entries of those who pass in the first k segments are settled for them
part-settled : (m : Market) (test : ℕ → Bool) (segments : List (List Rejection)) (k : ℕ) → WellFormed m → AreApart m test → IsSegmented m segments → k ≤ length segments → IsSettled (restricted (cut m k) test) (entries_of test (joined (take k segments)))
part-settled m test segments k well apart segmented low =
    ((settled-apart (cut m k) test (joined (take k segments)) (apart-cut m test k well apart)).0 (segmented.settled k low)).0

-- settled logs of the same papers are equally long, so the segment of a student who fails adds no
-- entry of those who pass
pub segment-fails : (m : Market) (test : ℕ → Bool) (segments : List (List Rejection)) (k i : ℕ) (segment : List Rejection) → WellFormed m → AreApart m test → IsSegmented m segments → slice_get (students_of m) k ≡ Some i → slice_get segments k ≡ Some segment → test i ≡ false → entries_of test segment ≡ []
segment-fails m test segments k i segment well apart segmented here its fails =
    let before : List Rejection = joined (take k segments) in
    let within = slice_get_within segments k segment its in
    let first : IsSettled (restricted (cut m k) test) (entries_of test before) = part-settled m test segments k well apart segmented (omega (arith, within)) in
    let second : IsSettled (restricted (cut m k) test) (entries_of test before ++ entries_of test segment) =
    subst₂ IsSettled (papers-same m test k i here fails) (ap (entries_of test) (joined-more segments k segment its) ∙ filter-append (λ e. test e.student) before segment)
    (part-settled m test segments (k + 1) well apart segmented (omega (arith, within))) in
    let well_part : WellFormed (restricted (cut m k) test) = well-restricted (cut m k) test (well-cut m k well) in
    let same : length (entries_of test before) ≡ length (entries_of test before ++ entries_of test segment) =
    same-length (restricted (cut m k) test) well_part (entries_of test before) (entries_of test before ++ entries_of test segment) first second in
    nothing-left (entries_of test segment) (omega (arith, same, length-append (entries_of test before) (entries_of test segment)))

-- where none of the others is left, all pass
all-inside : (test : ℕ → Bool) (log : List Rejection) → entries_of (outside test) log ≡ [] → entries_of test log ≡ log
all-inside test [] none = refl
all-inside test (e ∷ log) none = go (test e.student) (entries_of (outside test) log) (entries_of test log) none (all-inside test log)
  where
    go : (b : Bool) (others ours : List Rejection) → cond (not b) (e ∷ others) others ≡ [] → (others ≡ [] → ours ≡ log) → cond b (e ∷ ours) ours ≡ e ∷ log
    go true others ours none later = ap (λ l. e ∷ l) (later none)
    go false others ours none later = absurd (omega (arith, ap length none))

pub segment-passes : (m : Market) (test : ℕ → Bool) (segments : List (List Rejection)) (k i : ℕ) (segment : List Rejection) → WellFormed m → AreApart m test → IsSegmented m segments → slice_get (students_of m) k ≡ Some i → slice_get segments k ≡ Some segment → test i ≡ true → entries_of test segment ≡ segment
segment-passes m test segments k i segment well apart segmented here its passes =
    all-inside test segment
    (segment-fails m (outside test) segments k i segment well (apart-outside m test apart) segmented here its (not_from_true (test i) passes))

-- segments of which each has entries of its own side alone
abbrev StayApart : (ℕ → Bool) → List ℕ → List (List Rejection) → Type 0
StayApart test students segments =
    (k i : ℕ) (segment : List Rejection) → slice_get students k ≡ Some i → slice_get segments k ≡ Some segment → ((test i ≡ true → entries_of test segment ≡ segment) × (test i ≡ false → entries_of test segment ≡ []))

-- the entries of those who pass in the first k segments are their segments
entries-part : (k : ℕ) (students : List ℕ) (test : ℕ → Bool) (segments : List (List Rejection)) → length segments ≡ length students → StayApart test students segments → entries_of test (joined (take k segments)) ≡ joined (take (passing test k students) (part_of students test segments))
entries-part zero students test segments same stay = refl
entries-part (suc k) [] test [] same stay = refl
entries-part (suc k) [] test (segment ∷ segments) same stay = absurd (omega (arith, same))
entries-part (suc k) (i ∷ students) test [] same stay = absurd (omega (arith, same))
entries-part (suc k) (i ∷ students) test (segment ∷ segments) same stay =
    filter-append (λ e. test e.student) segment (joined (take k segments))
    ∙ go (test i) (entries_of test segment) (filter test (take k students)) (part_of students test segments) (stay 0 i segment refl refl)
    (entries-part k students test segments (omega (arith, same)) (λ j n s here its. stay (suc j) n s here its))
  where
    go : (b : Bool) (own : List Rejection) (passed : List ℕ) (later : List (List Rejection)) → ((b ≡ true → own ≡ segment) × (b ≡ false → own ≡ []))
        → entries_of test (joined (take k segments)) ≡ joined (take (length passed) later)
        → own ++ entries_of test (joined (take k segments)) ≡ joined (take (length (cond b (i ∷ passed) passed)) (cond b (segment ∷ later) later))
    go true own passed later side rest = λ t. side.0 refl t ++ rest t
    go false own passed later side rest = λ t. side.1 refl t ++ rest t

-- one segment for each who passes
length-part : (students : List ℕ) (test : ℕ → Bool) (segments : List (List Rejection)) → length segments ≡ length students → length (part_of students test segments) ≡ length (filter test students)
length-part [] test segments same = refl
length-part (i ∷ students) test [] same = absurd (omega (arith, same))
length-part (i ∷ students) test (segment ∷ segments) same =
    go (test i) (part_of students test segments) (filter test students) (length-part students test segments (omega (arith, same)))
  where
    go : (b : Bool) (later : List (List Rejection)) (passed : List ℕ) → length later ≡ length passed → length (cond b (segment ∷ later) later) ≡ length (cond b (i ∷ passed) passed)
    go true later passed counted = ap suc counted
    go false later passed counted = counted

-- where so many pass among the first students
place-counted : (test : ℕ → Bool) (count : ℕ) (students : List ℕ) → count ≤ length (filter test students) → (k : ℕ) × (k ≤ length students) × (passing test k students ≡ count)
place-counted test zero students low = (0, omega arith, refl)
place-counted test (suc count) [] low = absurd (omega (arith, low))
place-counted test (suc count) (i ∷ students) low =
    elim (cases_Bool (test i)) [
      | inl passes ↦
          let (k, within, counted) = place-counted test count students (omega (arith, low, ap length (cond-true (test i) (i ∷ filter test students) (filter test students) passes))) in
          (suc k, omega (arith, within), ap length (cond-true (test i) (i ∷ filter test (take k students)) (filter test (take k students)) passes) ∙ ap suc counted)
      | inr fails ↦
          let (k, within, counted) = place-counted test (suc count) students (omega (arith, low, ap length (cond-false (test i) (i ∷ filter test students) (filter test students) fails))) in
          (suc k, omega (arith, within), ap length (cond-false (test i) (i ∷ filter test (take k students)) (filter test (take k students)) fails) ∙ counted)
    ]

pub part-segmented : (m : Market) (test : ℕ → Bool) (segments : List (List Rejection)) → WellFormed m → AreApart m test → IsSegmented m segments → IsSegmented (restricted m test) (part_of (students_of m) test segments)
part-segmented m test segments well apart segmented =
    let stay : StayApart test (students_of m) segments = λ k i segment here its. (segment-passes m test segments k i segment well apart segmented here its, segment-fails m test segments k i segment well apart segmented here its) in
    let counted : length (part_of (students_of m) test segments) ≡ length (filter test (students_of m)) = length-part (students_of m) test segments segmented.one_each in
    record {
      one_each = counted ∙ ap length (sym (students-restricted m test));
      settled = λ count low.
          let (k, within, is) = place-counted test count (students_of m) (omega (arith, low, counted)) in
          subst₂ IsSettled (restricted-cut m test k ∙ ap (cut (restricted m test)) is)
          (entries-part k (students_of m) test segments segmented.one_each stay ∙ ap (λ n. joined (take n (part_of (students_of m) test segments))) is)
          (part-settled m test segments k well apart segmented (omega (arith, within, segmented.one_each)));
    }
