-- A student's rows, choice by choice.
use Rattle.std.proofs.Common.{◌≡◌, refl, inl, inr, sym, ◌∙◌, ap, ℕ, suc, ◌+◌, ◌<◌, ◌≤◌, nat_eq, Bool, false, ◌==◌, not, List, [], ◌∷◌, ◌++◌, length, get_or, map, take, add-one, append_assoc, position, slice_get, Option, None, Some, arith}
use Rattle.std.specs.Prelude.{nat_lt}
use Rattle.std.specs.List.{before_first, position_or_len}
use Rattle.std.specs.Option.{option_map, option_map_or, unwrap_or}
use Rattle.std.proofs.lemmas.Bool.{cases_Bool, cases_eq, cond-true, cond-false, eq-eqb, ltb-false, ne_eqb}
use Rattle.std.proofs.Math.Seq.{take-suc}
use Rattle.std.proofs.lemmas.List.{length-map, length-take-le, take-map}
use Rattle.std.proofs.lemmas.List.Sums.{position_or_len_is, prefix_len-le-length}
use Rattle.std.proofs.lemmas.Map.Entries.{length-keys_of}
use Rattle.std.proofs.lemmas.Option.{get_or_from_slice_get, none-some, same_Some, slice_get-map, slice_get_read, slice_get_within}
use Rattle.sc_papers.specs.Classed.{Classed}
use Rattle.sc_papers.specs.Key.{class_at, key_of}
use Rattle.sc_papers.specs.Market.{Market, choices_of, schools_of}
use Rattle.sc_papers.specs.Matching.{Matching, has}
use Rattle.sc_papers.specs.WellFormed.{WithinLimits}
use Rattle.sc_papers.specs.declared.limits.TheConstants.{LONGEST_LIST}
use Rattle.sc_papers.proofs.Positions.{position-at}
use Rattle.sc_papers.proofs.Students.{choices-short}
use Rattle.sc_reasons.specs.Cutoff.{cutoff_row}
use Rattle.sc_reasons.specs.Reason.{preferred, reason_by, reason_row, reasons_of, AreMissed, IsMissed}
use Rattle.sc_reasons.specs.declared.cutoff.CutoffRow.{CutoffRow}
use Rattle.sc_reasons.specs.declared.reason.Reason.{Reason}
use Rattle.sc_reasons.specs.declared.reason.ReasonRow.{ReasonRow}

-- what stands before the first that passes: an element that fails, and what stands there after it
pub before-fails : (p : ℕ → Bool) (x : ℕ) (xs : List ℕ) → p x ≡ false → before_first p (x ∷ xs) ≡ x ∷ before_first p xs
before-fails p x xs fails =
    let count : position_or_len p (x ∷ xs) ≡ suc (position_or_len p xs) =
    cond-true (not (p x)) (1 + position_or_len p xs) 0 (ap not fails) ∙ omega arith in
    ap (λ n. take n (x ∷ xs)) count

-- the first place that passes, or the length
place-or-length : (p : ℕ → Bool) (xs : List ℕ) → unwrap_or (position p xs) (length xs) ≡ position_or_len p xs
place-or-length p xs =
    let first = position_or_len p xs in
    elim (cases_Bool (nat_lt first (length xs))) [
      | inl low ↦ ap (λ o. unwrap_or o (length xs)) (cond-true (nat_lt first (length xs)) (Some first) None low)
      | inr past ↦ ap (λ o. unwrap_or o (length xs)) (cond-false (nat_lt first (length xs)) (Some first) None past)
          ∙ omega (arith, ltb-false first (length xs) past, prefix_len-le-length (λ x. not (p x)) xs)
    ]

same-test : (s t : ℕ) → (s == t) ≡ (t == s)
same-test s t = elim (cases_eq s t) [
  | inl same ↦ eq-eqb s t same ∙ sym (eq-eqb t s (sym same))
  | inr apart ↦ ne_eqb s t apart ∙ sym (ne_eqb t s (λ same. apart (sym same)))
]

-- how many choices stand before what a student has
pub held-some : (a : Matching) (i s : ℕ) (xs : List ℕ) → a i ≡ Some s → unwrap_or (position (λ t. t == s) xs) (length xs) ≡ position_or_len (λ t. has a t i) xs
held-some a i s xs holds =
    place-or-length (λ t. t == s) xs
    ∙ ap (λ (p : ℕ → Bool). position_or_len p xs) (λ k t. (same-test t s ∙ ap (λ o. option_map_or (λ u. u == t) o false) (sym holds)) k)

pub held-none : (a : Matching) (i : ℕ) (xs : List ℕ) → a i ≡ None → length xs ≡ position_or_len (λ t. has a t i) xs
held-none a i xs holds =
    sym (position_or_len_is (λ t. has a t i) xs (length xs) 0 (omega arith) (λ k low. ap (λ o. option_map_or (λ u. u == get_or xs k 0) o false) holds) (λ low. absurd (omega (arith, low))))

-- as many choices as schools
pub listed-long : (m : Market) (listed : List Classed) (xs : List ℕ) → map Some (map (λ c. c.position) listed) ≡ map (λ s. position (nat_eq s) (schools_of m)) xs
    → length listed ≡ length xs
listed-long m listed xs same =
    sym (length-map (map (λ (c : Classed). c.position) listed) Some ∙ length-map listed (λ (c : Classed). c.position))
    ∙ ap length same ∙ length-map xs (λ s. position (nat_eq s) (schools_of m))

-- the choices up to what a student has are those that they prefer to it
pub missed-are : (m : Market) (a : Matching) (i n : ℕ) (listed : List Classed) → map Some (map (λ c. c.position) listed) ≡ map (λ s. position (nat_eq s) (schools_of m)) (choices_of m i)
    → map (λ c. c.class) listed ≡ map (class_at m i) (choices_of m i) → n ≡ position_or_len (λ s. has a s i) (choices_of m i) → AreMissed m a i (take n listed)
missed-are m a i n listed positions classes count =
    let xs = choices_of m i in
    let place : ℕ → Option ℕ = λ s. position (nat_eq s) (schools_of m) in
    record {
      positions = ap (map Some) (sym (take-map (λ (c : Classed). c.position) n listed)) ∙ sym (take-map Some n (map (λ (c : Classed). c.position) listed))
          ∙ ap (take n) positions ∙ take-map place n xs ∙ ap (λ k. map place (take k xs)) count;
      classes = sym (take-map (λ (c : Classed). c.class) n listed) ∙ ap (take n) classes ∙ take-map (class_at m i) n xs ∙ ap (λ k. map (class_at m i) (take k xs)) count;
    }

-- they are as many as the student's rows
pub missed-long : (m : Market) (a : Matching) (i : ℕ) (listed : List Classed) → AreMissed m a i listed → length listed ≡ length (reasons_of m a i)
unfolding reasons_of
missed-long m a i listed are = listed-long m listed (preferred m a i) are.positions ∙ sym (length-map (preferred m a i) (reason_row m a i))

-- and no more than a list may name
pub missed-few : (m : Market) (a : Matching) (i : ℕ) (listed : List Classed) → WithinLimits m → AreMissed m a i listed → length listed ≤ LONGEST_LIST
missed-few m a i listed within are =
    omega (
      arith,
      listed-long m listed (preferred m a i) are.positions,
      length-take-le (position_or_len (λ s. has a s i) (choices_of m i)) (choices_of m i) (prefix_len-le-length (λ s. not (has a s i)) (choices_of m i)),
      prefix_len-le-length (λ s. not (has a s i)) (choices_of m i),
      choices-short m within i,
    )

-- one of them has its row at its rank
pub missed-there : (m : Market) (a : Matching) (i k : ℕ) (listed : List Classed) (c : Classed) → AreMissed m a i listed → k < length listed → c ≡ get_or listed k c → IsMissed m a i k c
unfolding key_of reasons_of
missed-there m a i k listed c are low is =
    let xs = preferred m a i in
    let here : slice_get listed k ≡ Some c = slice_get_read listed (length listed) k c refl low is in
    let placed = map (λ (c : Classed). c.position) listed in
    go (slice_get xs k) refl
    (sym (slice_get-map Some placed k ∙ ap (option_map Some) (slice_get-map (λ (c : Classed). c.position) listed k ∙ ap (option_map (λ (c : Classed). c.position)) here))
    ∙ ap (λ ys. slice_get ys k) are.positions ∙ slice_get-map (λ s. position (nat_eq s) (schools_of m)) xs k)
    (sym (slice_get-map (λ (c : Classed). c.class) listed k ∙ ap (option_map (λ (c : Classed). c.class)) here)
    ∙ ap (λ ys. slice_get ys k) are.classes ∙ slice_get-map (class_at m i) xs k)
  where
    go : (o : Option ℕ) → slice_get (preferred m a i) k ≡ o → Some (Some c.position) ≡ option_map (λ s. position (nat_eq s) (schools_of m)) o → Some c.class ≡ option_map (class_at m i) o → IsMissed m a i k c
    go None none place class = absurd (none-some c.class (sym class))
    go (Some s) there place class = record {
      school = s;
      place = sym (same_Some (Some c.position) (position (nat_eq s) (schools_of m)) place);
      class = sym (same_Some c.class (class_at m i s) class);
      row = slice_get-map (reason_row m a i) (preferred m a i) k ∙ ap (option_map (reason_row m a i)) there;
    }

-- and its position is that of a school
pub missed-within : (m : Market) (a : Matching) (i k : ℕ) (listed : List Classed) (c : Classed) → AreMissed m a i listed → k < length listed → c ≡ get_or listed k c → c.position < length m.schools
missed-within m a i k listed c are low is =
    let got = missed-there m a i k listed c are low is in
    omega (arith, (position-at (schools_of m) got.school c.position got.place).0, length-keys_of m.schools)

-- a row of these parts
abbrev row_with : ℕ → ℕ → Reason → ReasonRow
row_with i s made = record { student = i; school = s; reason = made }

-- the row that is made of a school's
pub row-made : (m : Market) (a : Matching) (i s : ℕ) (row : CutoffRow) (made : Reason) → made ≡ reason_by row.cutoff (key_of m i s) → row ≡ cutoff_row m a s
    → row_with i row.school made ≡ reason_row m a i s
row-made m a i s row made made_is row_is =
    ap (row_with i row.school) made_is ∙ (λ t. row_with i (row_is t).school (reason_by (row_is t).cutoff (key_of m i s)))

front : (rows : List ReasonRow) (k : ℕ) (row : ReasonRow) → slice_get rows k ≡ Some row → take (k + 1) rows ≡ take k rows ++ row ∷ []
front rows k row here =
    rw (add-one, take-suc rows k row (slice_get_within rows k row here)) (ap (λ y. take k rows ++ y ∷ []) (get_or_from_slice_get rows k row row here))

-- the rows up to a rank, and the one there
pub rows-more : (rows : List ReasonRow) (k : ℕ) (row : ReasonRow) (old before new : List ReasonRow) → before ≡ old ++ take k rows → slice_get rows k ≡ Some row
    → new ≡ before ++ row ∷ [] → new ≡ old ++ take (k + 1) rows
rows-more rows k row old before new before_is here new_is =
    new_is ∙ ap (λ t. t ++ row ∷ []) before_is ∙ append_assoc old (take k rows) (row ∷ [])
    ∙ ap (λ more. old ++ more) (sym (front rows k row here))
