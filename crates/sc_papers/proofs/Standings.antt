-- What follows a valid log depends on the next choices alone, and a rejection moves one student's
-- next choice on by one place.
use Rattle.std.proofs.Common.{◌≡◌, inl, inr, refl, ap, sym, subst, ◌∙◌, ℕ, ◌+◌, ◌<◌, ◌≤◌, Bool, true, false, not, ◌&&◌, ◌||◌, List, [], ◌∷◌, ◌++◌, length, Option, Some, None, slice_get, find, append_assoc, append-nil, arith}
use Rattle.std.proofs.lemmas.Bool.{cases_Bool, cases_order, false≢true, false_from_ne_true, or_left}
use Rattle.std.proofs.lemmas.Option.{same_Some, slice_get_within}
use Rattle.std.proofs.lemmas.List.Folds.{list_any-append}
use Rattle.sc_papers.specs.Market.{Market, choices_of}
use Rattle.sc_papers.specs.Key.{is_ahead}
use Rattle.sc_papers.specs.WellFormed.{WellFormed}
use Rattle.sc_papers.specs.Matching.{has, Prefers}
use Rattle.sc_papers.specs.Log.{is_rejected, next_choice, matching_of, IsValidEntry, IsValidAfter, IsValidLog, IsSettled}
use Rattle.sc_papers.specs.declared.rejection.Rejection.{Rejection}
use Rattle.sc_papers.proofs.Choices.{found-is, found-none, places-end, one-place}
use Rattle.sc_papers.proofs.Rejections.{is_of, find-agree, rejected-push, rejected-push_cases, has-agree}
use Rattle.sc_papers.proofs.Students.{how_many-agree, choices-differ}
use Rattle.sc_papers.proofs.Optimality.{preferred-rejected}
use Rattle.sc_papers.proofs.Progress.{rejected-preferred, rejected-here}

-- the place after the one of a next choice has not rejected the student, and all up to it have
place-after : (m : Market) → WellFormed m → (log : List Rejection) (e : Rejection) (k : ℕ) → IsValidLog m log → IsValidEntry m log e → slice_get (choices_of m e.student) k ≡ Some e.school → (t : ℕ) → slice_get (choices_of m e.student) (k + 1) ≡ Some t → is_rejected (log ++ e ∷ []) e.student t ≡ false
place-after m well log e k valid entry here t there =
    let i : ℕ = e.student in
    let apart : (j n : ℕ) → j < n → slice_get (choices_of m i) j ≡ Some t → slice_get (choices_of m i) n ≡ Some e.school → ⊥ = λ j n low at_j at_n.
    omega (arith, low, one-place (choices_of m i) j (k + 1) t (choices-differ m well i) at_j there, one-place (choices_of m i) n k e.school (choices-differ m well i) at_n here) in
    false_from_ne_true (is_rejected (log ++ e ∷ []) i t) (λ rejected. elim (rejected-push_cases log e i t rejected) [
      | inl before ↦
          let (j, n, low, at_j, at_n) = subst (Prefers m i t) entry.next (rejected-preferred m well log valid i t before) in
          apart j n low at_j at_n
      | inr (same_student, same_school) ↦ omega (arith, one-place (choices_of m i) k (k + 1) t (choices-differ m well i) (here ∙ ap Some same_school) there)
    ])

places-up-to : (m : Market) → WellFormed m → (log : List Rejection) (e : Rejection) (k : ℕ) → IsValidEntry m log e → slice_get (choices_of m e.student) k ≡ Some e.school → (j t : ℕ) → j < k + 1 → slice_get (choices_of m e.student) j ≡ Some t → is_rejected (log ++ e ∷ []) e.student t ≡ true
places-up-to m well log e k entry here j t low there =
    elim (cases_order j k) [
      | inl same ↦
          let is : e.school ≡ t = same_Some e.school t (sym here ∙ ap (slice_get (choices_of m e.student)) (sym same) ∙ there) in
          ap (is_rejected (log ++ e ∷ []) e.student) (sym is) ∙ rejected-here log e
      | inr (inl below) ↦
          let before : is_rejected log e.student t ≡ true = preferred-rejected m well log e.student t (subst (Prefers m e.student t) (sym entry.next) (j, k, below, there, here)) in
          rejected-push log e e.student t ∙ or_left (is_rejected log e.student t) (is_of e e.student t) before
      | inr (inr above) ↦ absurd (omega (arith, low, above))
    ]

-- a rejection moves the student on to the next place of the list
pub next-moves : (m : Market) → WellFormed m → (log : List Rejection) (e : Rejection) (k : ℕ) → IsValidLog m log → IsValidEntry m log e → slice_get (choices_of m e.student) k ≡ Some e.school → next_choice m (log ++ e ∷ []) e.student ≡ slice_get (choices_of m e.student) (k + 1)
unfolding next_choice
next-moves m well log e k valid entry here = go (slice_get (choices_of m e.student) (k + 1)) refl
  where
    tests : ℕ → Bool
    tests t = not (is_rejected (log ++ e ∷ []) e.student t)

    go : (next : Option ℕ) → slice_get (choices_of m e.student) (k + 1) ≡ next → find tests (choices_of m e.student) ≡ slice_get (choices_of m e.student) (k + 1)
    go (Some t) there =
        found-is tests (choices_of m e.student) (k + 1) t there (ap not (place-after m well log e k valid entry here t there))
        (λ j u low at. ap not (places-up-to m well log e k entry here j u low at))
        ∙ sym there
    go None past =
        let end : length (choices_of m e.student) ≤ k + 1 = places-end (choices_of m e.student) (k + 1) past in
        found-none tests (choices_of m e.student)
        (λ j u at. ap not (places-up-to m well log e k entry here j u (omega (arith, end, slice_get_within (choices_of m e.student) j u at)) at))
        ∙ sym past

-- two logs that reject the same
record RejectsSame (log other : List Rejection) : Type 0 where
  same : (i s : ℕ) → is_rejected log i s ≡ is_rejected other i s

rejects-push : (log other : List Rejection) (e : Rejection) → RejectsSame log other → RejectsSame (log ++ e ∷ []) (other ++ e ∷ [])
rejects-push log other e alike = record {
  same = λ i s. rejected-push log e i s ∙ ap (λ b. b || is_of e i s) (alike.same i s) ∙ sym (rejected-push other e i s);
}

next-like : (m : Market) (log other : List Rejection) → RejectsSame log other → (i : ℕ) → next_choice m log i ≡ next_choice m other i
unfolding next_choice
next-like m log other alike i = find-agree (λ s. not (is_rejected log i s)) (λ s. not (is_rejected other i s)) (λ s. ap not (alike.same i s)) (choices_of m i)

has-like : (m : Market) (log other : List Rejection) → RejectsSame log other → (s i : ℕ) → has (matching_of m log) s i ≡ has (matching_of m other) s i
has-like m log other alike s i = has-agree (matching_of m log) (matching_of m other) s i (next-like m log other alike i)

entry-like : (m : Market) (log other : List Rejection) (e : Rejection) → RejectsSame log other → IsValidEntry m log e → IsValidEntry m other e
entry-like m log other e alike valid = record {
  next = sym (next-like m log other alike e.student) ∙ valid.next;
  full = omega (
    arith,
    valid.full,
    how_many-agree m (λ j. has (matching_of m log) e.school j && is_ahead m e.school j e.student) (λ j. has (matching_of m other) e.school j && is_ahead m e.school j e.student)
        (λ j. ap (λ b. b && is_ahead m e.school j e.student) (has-like m log other alike e.school j)),
  );
}

-- what is valid after one is valid after the other
valid-like : (m : Market) (log other rest : List Rejection) → RejectsSame log other → IsValidAfter m log rest → IsValidAfter m other rest
valid-like m log other [] alike valid = tt
valid-like m log other (e ∷ rest) alike valid =
    (entry-like m log other e alike valid.0, valid-like m (log ++ e ∷ []) (other ++ e ∷ []) rest (rejects-push log other e alike) valid.1)

rejects-append : (log other rest : List Rejection) → RejectsSame log other → RejectsSame (log ++ rest) (other ++ rest)
rejects-append log other rest alike = record {
  same = λ i s. list_any-append (λ e. is_of e i s) log rest ∙ ap (λ b. b || is_rejected rest i s) (alike.same i s) ∙ sym (list_any-append (λ e. is_of e i s) other rest);
}

-- valid logs that leave the same next choices reject the same
rejects-by_next : (m : Market) → WellFormed m → (log other : List Rejection) → IsValidLog m log → ((i : ℕ) → next_choice m log i ≡ next_choice m other i) → (i s : ℕ) → is_rejected log i s ≡ true → is_rejected other i s ≡ true
rejects-by_next m well log other valid same i s rejected =
    preferred-rejected m well other i s (subst (Prefers m i s) (same i) (rejected-preferred m well log valid i s rejected))

rejects-same : (m : Market) → WellFormed m → (log other : List Rejection) → IsValidLog m log → IsValidLog m other → ((i : ℕ) → next_choice m log i ≡ next_choice m other i) → RejectsSame log other
rejects-same m well log other first second same = record {
  same = λ i s. elim (cases_Bool (is_rejected log i s)) [
    | inl rejected ↦ rejected ∙ sym (rejects-by_next m well log other first same i s rejected)
    | inr untried ↦ untried ∙ sym (false_from_ne_true (is_rejected other i s) (λ rejected. false≢true (sym untried ∙ rejects-by_next m well other log second (λ j. sym (same j)) i s rejected)))
  ];
}

-- a valid log, cut in two and joined
pub valid-rest : (m : Market) (log first rest : List Rejection) → IsValidAfter m log (first ++ rest) → IsValidAfter m (log ++ first) rest
valid-rest m log [] rest valid = subst (λ l. IsValidAfter m l rest) (sym (append-nil log)) valid
valid-rest m log (e ∷ first) rest valid = subst (λ l. IsValidAfter m l rest) (append_assoc log (e ∷ []) first) (valid-rest m (log ++ e ∷ []) first rest valid.1)

pub valid-join : (m : Market) (log first rest : List Rejection) → IsValidAfter m log first → IsValidAfter m (log ++ first) rest → IsValidAfter m log (first ++ rest)
valid-join m log [] rest before after = subst (λ l. IsValidAfter m l rest) (append-nil log) after
valid-join m log (e ∷ first) rest before after =
    (before.0, valid-join m (log ++ e ∷ []) first rest before.1 (subst (λ l. IsValidAfter m l rest) (sym (append_assoc log (e ∷ []) first)) after))

-- what follows a valid log follows each other that leaves the same next choices
pub next-follows : (m : Market) → WellFormed m → (log other rest : List Rejection) → IsValidLog m log → IsValidLog m other → ((i : ℕ) → next_choice m log i ≡ next_choice m other i) → (i : ℕ) → next_choice m (log ++ rest) i ≡ next_choice m (other ++ rest) i
next-follows m well log other rest first second same =
    next-like m (log ++ rest) (other ++ rest) (rejects-append log other rest (rejects-same m well log other first second same))

pub settled-follows : (m : Market) → WellFormed m → (log other rest : List Rejection) → IsValidLog m log → IsValidLog m other → ((i : ℕ) → next_choice m log i ≡ next_choice m other i) → IsSettled m (log ++ rest) → IsSettled m (other ++ rest)
settled-follows m well log other rest first second same settled =
    let alike : RejectsSame log other = rejects-same m well log other first second same in
    record {
      valid = valid-join m [] other rest second (valid-like m log other rest alike (valid-rest m [] log rest settled.valid));
      within_seats = λ s. omega (
        arith,
        settled.within_seats s,
        how_many-agree m (has (matching_of m (log ++ rest)) s) (has (matching_of m (other ++ rest)) s) (has-like m (log ++ rest) (other ++ rest) (rejects-append log other rest alike) s),
      );
    }
