-- A row stands once for each choice that a student prefers to what they have, and for no other.
use Rattle.std.proofs.Common.{◌≡◌, inl, inr, refl, sym, ◌∙◌, ap, subst, ℕ, zero, suc, ◌+◌, ◌<◌, ◌≤◌, ◌==◌, nat_eq, Bool, false, cond, ◌&&◌, List, [], ◌∷◌, map, Option, None, Some, Contains, slice_get, count_by, sum_by, arith}
use Rattle.std.specs.List.{before_first, flat_map, position_or_len, IsDistinct}
use Rattle.std.specs.Option.{option_map_or}
use Rattle.std.proofs.lemmas.Bool.{cases_Bool, cases_lt, eqb-true, eq-eqb, ne_eqb, false≢true}
use Rattle.std.proofs.lemmas.List.{get_or-take, length-take}
use Rattle.std.proofs.lemmas.List.Sorted.{sum_by-IsPermutation}
use Rattle.std.proofs.lemmas.List.Sums.{fails_before_first, sum_by-append, sum_by-cons}
use Rattle.std.proofs.lemmas.Map.Keys.{IsDistinct-head, IsDistinct-tail}
use Rattle.std.proofs.lemmas.List.Elements.{All-contains, All-from_recursion}
use Rattle.std.proofs.lemmas.Option.{get_or_from_slice_get, none-some, same_Some, slice_get-get_or}
use Rattle.sc_papers.specs.Market.{Market, choices_of, students_of}
use Rattle.sc_papers.specs.Matching.{Matching, IsMatching, Prefers, has}
use Rattle.sc_papers.specs.WellFormed.{WellFormed}
use Rattle.sc_papers.proofs.Choices.{contains-at, one-place, place-of}
use Rattle.sc_papers.proofs.Counting.{count-cons_fails, count-cons_passes, count-none}
use Rattle.sc_papers.proofs.Rejections.{has-some, has-true}
use Rattle.sc_papers.proofs.Students.{choices-differ, lister-among}
use Rattle.sc_papers.proofs.Sums.{sum-bump, sum-zero}
use Rattle.sc_reasons.specs.Reason.{preferred, reason_row, reasons_of, rows_for}
use Rattle.sc_reasons.specs.Rising.{rising}
use Rattle.sc_reasons.specs.declared.reason.ReasonRow.{ReasonRow}
use Rattle.sc_reasons.proofs.ReasonLemmas.{before-fails}
use Rattle.sc_reasons.proofs.RisingLemmas.{rising-permutes}

-- s stands in the list, and up to it none passes
record IsReached (p : ℕ → Bool) (xs : List ℕ) (s : ℕ) : Type 0 where
  place : ℕ
  stands : slice_get xs place ≡ Some s
  fail : (j t : ℕ) → j ≤ place → slice_get xs j ≡ Some t → p t ≡ false

-- what stands before the first that passes
reached-before : (p : ℕ → Bool) (xs : List ℕ) (s : ℕ) → Contains (before_first p xs) s → IsReached p xs s
reached-before p xs s (k, low, at) =
    let n = position_or_len p xs in
    let before : k < n = omega (arith, low, length-take n xs) in
    record {
      place = k;
      stands = slice_get-get_or xs k s (omega (arith, low, length-take n xs)) ∙ ap Some (sym (get_or-take n xs k s before) ∙ at);
      fail = λ j t up here. ap p (sym (get_or_from_slice_get xs j t 0 here)) ∙ fails_before_first p xs j 0 (omega (arith, before, up));
    }

-- one that is not in the list is not in front of it either
absent-before : (p : ℕ → Bool) (xs : List ℕ) (s : ℕ) → (Contains xs s → ⊥) → count_by (λ t. t == s) (before_first p xs) ≡ 0
absent-before p xs s absent = count-none (λ t. t == s) (before_first p xs) (λ t among. ne_eqb t s (λ same.
    let reached : IsReached p xs t = reached-before p xs t among in
    absent (subst (Contains xs) same (contains-at xs reached.place t reached.stands))))

-- one that is reached stands in front once
counted-before : (p : ℕ → Bool) (xs : List ℕ) (s : ℕ) → IsDistinct nat_eq xs → (k : ℕ) → slice_get xs k ≡ Some s
    → ((j t : ℕ) → j ≤ k → slice_get xs j ≡ Some t → p t ≡ false) → count_by (λ t. t == s) (before_first p xs) ≡ 1
counted-before p [] s distinct k here fail = absurd (none-some s here)
counted-before p (x ∷ xs) s distinct zero here fail =
    let at : x ≡ s = same_Some x s here in
    ap (count_by (λ t. t == s)) (before-fails p x xs (fail 0 x (omega arith) refl))
    ∙ count-cons_passes (λ t. t == s) x (before_first p xs) (eq-eqb x s at)
    ∙ ap (λ n. 1 + n) (absent-before p xs s (λ among. apart-rest x xs s distinct among at))
  where
    apart-rest : (x : ℕ) (xs : List ℕ) (s : ℕ) → IsDistinct nat_eq (x ∷ xs) → Contains xs s → x ≡ s → ⊥
    apart-rest x xs s distinct among at =
        false≢true (sym (All-contains (λ w. nat_eq x w ≡ false) xs s (All-from_recursion (λ w. nat_eq x w ≡ false) xs (IsDistinct-head nat_eq x xs distinct)) among) ∙ eq-eqb x s at)
counted-before p (x ∷ xs) s distinct (suc k) here fail =
    let apart : nat_eq x s ≡ false =
    All-contains (λ w. nat_eq x w ≡ false) xs s (All-from_recursion (λ w. nat_eq x w ≡ false) xs (IsDistinct-head nat_eq x xs distinct)) (contains-at xs k s here) in
    ap (count_by (λ t. t == s)) (before-fails p x xs (fail 0 x (omega arith) refl))
    ∙ count-cons_fails (λ t. t == s) x (before_first p xs) apart
    ∙ counted-before p xs s (IsDistinct-tail nat_eq x xs distinct) k here (λ j t low at. fail (suc j) t (omega (arith, low)) at)

-- the rows of a student, and those of others
own-rows : (m : Market) (a : Matching) (i s : ℕ) (xs : List ℕ) → count_by (λ (row : ReasonRow). row.student == i && row.school == s) (map (reason_row m a i) xs) ≡ count_by (λ t. t == s) xs
own-rows m a i s [] = refl
own-rows m a i s (t ∷ xs) = elim (cases_Bool (t == s)) [
  | inl same ↦
      count-cons_passes (λ (row : ReasonRow). row.student == i && row.school == s) (reason_row m a i t) (map (reason_row m a i) xs) (ap (λ b. b && (t == s)) (eq-eqb i i refl) ∙ same)
      ∙ ap (λ n. 1 + n) (own-rows m a i s xs) ∙ sym (count-cons_passes (λ t. t == s) t xs same)
  | inr apart ↦
      count-cons_fails (λ (row : ReasonRow). row.student == i && row.school == s) (reason_row m a i t) (map (reason_row m a i) xs) (ap (λ b. b && (t == s)) (eq-eqb i i refl) ∙ apart)
      ∙ own-rows m a i s xs ∙ sym (count-cons_fails (λ t. t == s) t xs apart)
]

other-rows : (m : Market) (a : Matching) (i s j : ℕ) (xs : List ℕ) → (i ≡ j → ⊥) → count_by (λ (row : ReasonRow). row.student == i && row.school == s) (map (reason_row m a j) xs) ≡ 0
other-rows m a i s j [] apart = refl
other-rows m a i s j (t ∷ xs) apart =
    count-cons_fails (λ (row : ReasonRow). row.student == i && row.school == s) (reason_row m a j t) (map (reason_row m a j) xs) (ap (λ b. b && (t == s)) (ne_eqb j i (λ same. apart (sym same))))
    ∙ other-rows m a i s j xs apart

-- the rows of all, student by student
count-rows : {X Y : Type 0} (p : Y → Bool) (f : X → List Y) (xs : List X) → count_by p (flat_map f xs) ≡ sum_by (λ x. count_by p (f x)) xs
count-rows p f [] = refl
count-rows p f (x ∷ xs) =
    sum_by-append (λ y. cond (p y) 1 0) (f x) (flat_map f xs) ∙ ap (λ n. count_by p (f x) + n) (count-rows p f xs) ∙ sym (sum_by-cons (λ x. count_by p (f x)) x xs)

module _ (m : Market) (a : Matching) (well : WellFormed m) (listed : IsMatching m a) (i s : ℕ) where
  -- what a student prefers is reached
  prefers-reached : (given : Option ℕ) → a i ≡ given → Prefers m i s given → IsReached (λ t. has a t i) (choices_of m i) s
  prefers-reached None is among =
      let place : (k : ℕ) × (slice_get (choices_of m i) k ≡ Some s) = place-of (choices_of m i) s among in
      record { place = place.0; stands = place.1; fail = λ j t low at. ap (λ given. option_map_or (λ u. u == t) given false) is }
  prefers-reached (Some u) is (j, k, below, at_j, at_k) = record {
    place = j;
    stands = at_j;
    fail = λ h t low at. elim (cases_Bool (has a t i)) [
      | inl holds ↦
          let same : u ≡ t = same_Some u t (sym is ∙ has-true a t i holds) in
          absurd (omega (arith, low, below, one-place (choices_of m i) h k u (choices-differ m well i) (at ∙ ap Some (sym same)) at_k))
      | inr fails ↦ fails
    ];
  }

  -- and what is reached, a student prefers
  reached-prefers : (given : Option ℕ) → a i ≡ given → IsReached (λ t. has a t i) (choices_of m i) s → Prefers m i s given
  reached-prefers None is reached = contains-at (choices_of m i) reached.place s reached.stands
  reached-prefers (Some u) is reached =
      let place : (k : ℕ) × (slice_get (choices_of m i) k ≡ Some u) = place-of (choices_of m i) u (listed i u is) in
      elim (cases_lt reached.place place.0) [
        | inl below ↦ (reached.place, place.0, below, reached.stands, place.1)
        | inr over ↦ absurd (false≢true (sym (reached.fail place.0 u (omega (arith, over)) place.1) ∙ has-some a u i is))
      ]

  own-preferred : Prefers m i s (a i) → count_by (λ t. t == s) (preferred m a i) ≡ 1
  own-preferred prefers =
      let reached = prefers-reached (a i) refl prefers in
      counted-before (λ t. has a t i) (choices_of m i) s (choices-differ m well i) reached.place reached.stands reached.fail

  own-others : (Prefers m i s (a i) → ⊥) → count_by (λ t. t == s) (preferred m a i) ≡ 0
  own-others not_preferred = count-none (λ t. t == s) (preferred m a i) (λ t among. ne_eqb t s (λ same.
      not_preferred (reached-prefers (a i) refl (reached-before (λ t. has a t i) (choices_of m i) s (subst (Contains (preferred m a i)) same among)))))

  rows-count : rows_for m a i s ≡ sum_by (λ j. count_by (λ (row : ReasonRow). row.student == i && row.school == s) (reasons_of m a j)) (students_of m)
  unfolding rows_for
  rows-count =
      count-rows (λ (row : ReasonRow). row.student == i && row.school == s) (reasons_of m a) (rising (students_of m))
      ∙ sum_by-IsPermutation (λ j. count_by (λ (row : ReasonRow). row.student == i && row.school == s) (reasons_of m a j)) (students_of m) (rising (students_of m)) (rising-permutes (students_of m))

  pub rows-preferred : Prefers m i s (a i) → rows_for m a i s ≡ 1
  unfolding reasons_of
  rows-preferred prefers =
      rows-count
      ∙ sum-bump (λ j. 0) (λ j. count_by (λ (row : ReasonRow). row.student == i && row.school == s) (reasons_of m a j)) (students_of m) i well.students_differ
      (lister-among m i s (let reached = prefers-reached (a i) refl prefers in contains-at (choices_of m i) reached.place s reached.stands))
      (own-rows m a i s (preferred m a i) ∙ own-preferred prefers) (λ j apart. other-rows m a i s j (preferred m a j) apart)
      ∙ ap (λ n. 1 + n) (sum-zero (λ (j : ℕ). 0) (students_of m) (λ j. refl))

  pub rows-others : (Prefers m i s (a i) → ⊥) → rows_for m a i s ≡ 0
  unfolding reasons_of
  rows-others not_preferred =
      rows-count ∙ sum-zero (λ j. count_by (λ (row : ReasonRow). row.student == i && row.school == s) (reasons_of m a j)) (students_of m)
      (λ j. elim (cases_Bool (j == i)) [
        | inl same ↦ subst (λ h. count_by (λ (row : ReasonRow). row.student == i && row.school == s) (map (reason_row m a h) (preferred m a h)) ≡ 0) (sym (eqb-true j i same)) (own-rows m a i s (preferred m a i) ∙ own-others not_preferred)
        | inr apart ↦ other-rows m a i s j (preferred m a j) (λ same. false≢true (sym apart ∙ eq-eqb j i (sym same)))
      ])
