-- A log of students who list no school in common with the others settles by itself.
use Rattle.std.proofs.Common.{◌≡◌, ◌↔◌, inl, inr, refl, ap, sym, subst, subst₂, ◌∙◌, ℕ, ◌≤◌, ◌==◌, Bool, true, false, not, ◌&&◌, ◌||◌, List, [], ◌∷◌, ◌++◌, Some, Contains, append-nil, arith}
use Rattle.std.proofs.lemmas.Bool.{cases_Bool, and_parts, and_from, and_left, not-true, not-false, not_from_true, not_from_false, false≢true, false_from_ne_true, cond-true, cond-false, ne_eqb}
use Rattle.std.proofs.lemmas.List.Elements.{filter-append}
use Rattle.sc_papers.specs.Market.{Market, choices_of, seats_of}
use Rattle.sc_papers.specs.Key.{is_ahead}
use Rattle.sc_papers.specs.Matching.{has, held, WithinSeats}
use Rattle.sc_papers.specs.Log.{is_rejected, next_choice, matching_of, rivals, IsValidEntry, IsValidAfter, IsSettled}
use Rattle.sc_papers.specs.Restriction.{restricted, entries_of, outside, AreApart}
use Rattle.sc_papers.specs.declared.rejection.Rejection.{Rejection}
use Rattle.sc_papers.proofs.Rejections.{find-agree, is_of, has-true, has-agree}
use Rattle.sc_papers.proofs.Students.{how_many-le, how_many-agree, some-student}
use Rattle.sc_papers.proofs.Restriction.{Restricts, restricted-restricts, next-kept}
use Rattle.sc_papers.proofs.Validity.{next-listed, next-among}

-- a part of the papers whose students list no school in common with the others
record IsPart (n m : Market) (test : ℕ → Bool) : Type 0 where
  restricts : Restricts n m test
  apart : AreApart m test

-- the entries of a part, one entry on
entries-in : (test : ℕ → Bool) (e : Rejection) (rest : List Rejection) → test e.student ≡ true → entries_of test (e ∷ rest) ≡ e ∷ entries_of test rest
entries-in test e rest kept = cond-true (test e.student) (e ∷ entries_of test rest) (entries_of test rest) kept

entries-out : (test : ℕ → Bool) (e : Rejection) (rest : List Rejection) → test e.student ≡ false → entries_of test (e ∷ rest) ≡ entries_of test rest
entries-out test e rest dropped = cond-false (test e.student) (e ∷ entries_of test rest) (entries_of test rest) dropped

entries-push_in : (test : ℕ → Bool) (log : List Rejection) (e : Rejection) → test e.student ≡ true → entries_of test (log ++ e ∷ []) ≡ entries_of test log ++ e ∷ []
entries-push_in test log e kept = filter-append (λ f. test f.student) log (e ∷ []) ∙ ap (λ l. entries_of test log ++ l) (entries-in test e [] kept)

entries-push_out : (test : ℕ → Bool) (log : List Rejection) (e : Rejection) → test e.student ≡ false → entries_of test (log ++ e ∷ []) ≡ entries_of test log
entries-push_out test log e dropped =
    filter-append (λ f. test f.student) log (e ∷ []) ∙ ap (λ l. entries_of test log ++ l) (entries-out test e [] dropped) ∙ append-nil (entries_of test log)

-- the entries of a part tell of its students what the whole log tells
rejected-part : (test : ℕ → Bool) (log : List Rejection) (i s : ℕ) → test i ≡ true → is_rejected (entries_of test log) i s ≡ is_rejected log i s
rejected-part test [] i s kept = refl
rejected-part test (e ∷ log) i s kept =
    elim (cases_Bool (test e.student)) [
      | inl in_part ↦ ap (λ l. is_rejected l i s) (entries-in test e log in_part) ∙ ap (λ b. is_of e i s || b) (rejected-part test log i s kept)
      | inr out ↦
          ap (λ l. is_rejected l i s) (entries-out test e log out) ∙ rejected-part test log i s kept
          ∙ ap (λ b. b || is_rejected log i s) (sym (and_left (e.student == i) (e.school == s) (ne_eqb e.student i (λ same. false≢true (sym out ∙ ap test same ∙ kept)))))
    ]

next-by : (m : Market) (log other : List Rejection) (i : ℕ) → ((s : ℕ) → is_rejected log i s ≡ is_rejected other i s) → next_choice m log i ≡ next_choice m other i
unfolding next_choice
next-by m log other i agree = find-agree (λ s. not (is_rejected log i s)) (λ s. not (is_rejected other i s)) (λ s. ap not (agree s)) (choices_of m i)

-- so the next choices are the same
pub next-part : {n m : Market} {test : ℕ → Bool} → Restricts n m test → (log : List Rejection) (i : ℕ) → test i ≡ true → next_choice n (entries_of test log) i ≡ next_choice m log i
next-part {n} {m} {test} part log i kept =
    next-kept part (entries_of test log) i kept ∙ next-by m (entries_of test log) log i (λ s. rejected-part test log i s kept)

-- nobody outside the part has a school that a student of the part lists
none-outside : {n m : Market} {test : ℕ → Bool} → IsPart n m test → (log : List Rejection) (i s j : ℕ) → test i ≡ true → Contains (choices_of m i) s → test j ≡ false → has (matching_of m log) s j ≡ false
none-outside {n} {m} {test} part log i s j kept listed out =
    false_from_ne_true (has (matching_of m log) s j) (λ holds. part.apart.none_shared i j s kept out listed (next-listed m log j s (has-true (matching_of m log) s j holds)))

-- so the rivals are the same
rival-part : {n m : Market} {test : ℕ → Bool} → IsPart n m test → (log : List Rejection) (i s : ℕ) → test i ≡ true → Contains (choices_of m i) s → (j : ℕ) → (test j && (has (matching_of n (entries_of test log)) s j && is_ahead n s j i)) ≡ (has (matching_of m log) s j && is_ahead m s j i)
rival-part {n} {m} {test} part log i s kept listed j =
    elim (cases_Bool (test j)) [
      | inl in_part ↦ ap (λ b. b && (has (matching_of n (entries_of test log)) s j && is_ahead n s j i)) in_part
          ∙ ap (λ b. b && is_ahead n s j i) (has-agree (matching_of n (entries_of test log)) (matching_of m log) s j (next-part part.restricts log j in_part))
          ∙ ap (λ b. has (matching_of m log) s j && b) (part.restricts.ahead s j i in_part kept)
      | inr out ↦ and_left (test j) (has (matching_of n (entries_of test log)) s j && is_ahead n s j i) out
          ∙ sym (and_left (has (matching_of m log) s j) (is_ahead m s j i) (none-outside part log i s j kept listed out))
    ]

rivals-part : {n m : Market} {test : ℕ → Bool} → IsPart n m test → (log : List Rejection) (i s : ℕ) → test i ≡ true → Contains (choices_of m i) s → rivals n (entries_of test log) i s ≡ rivals m log i s
rivals-part {n} {m} {test} part log i s kept listed =
    part.restricts.counts (λ j. has (matching_of n (entries_of test log)) s j && is_ahead n s j i)
    ∙ how_many-agree m (λ j. test j && (has (matching_of n (entries_of test log)) s j && is_ahead n s j i)) (λ j. has (matching_of m log) s j && is_ahead m s j i) (rival-part part log i s kept listed)

-- an entry of a part is valid in it where it is valid in the whole, and the other way round
entry-into : {n m : Market} {test : ℕ → Bool} → IsPart n m test → (log : List Rejection) (e : Rejection) → test e.student ≡ true → IsValidEntry m log e → IsValidEntry n (entries_of test log) e
entry-into {n} {m} {test} part log e kept valid = record {
  next = next-part part.restricts log e.student kept ∙ valid.next;
  full = omega (arith, valid.full, part.restricts.seats e.school, rivals-part part log e.student e.school kept (next-listed m log e.student e.school valid.next));
}

entry-from : {n m : Market} {test : ℕ → Bool} → IsPart n m test → (log : List Rejection) (e : Rejection) → test e.student ≡ true → IsValidEntry n (entries_of test log) e → IsValidEntry m log e
entry-from {n} {m} {test} part log e kept valid =
    let next : next_choice m log e.student ≡ Some e.school = sym (next-part part.restricts log e.student kept) ∙ valid.next in
    record {
      next = next;
      full = omega (arith, valid.full, part.restricts.seats e.school, rivals-part part log e.student e.school kept (next-listed m log e.student e.school next));
    }

-- a valid log's entries of a part are valid in it
valid-into : {n m : Market} {test : ℕ → Bool} → IsPart n m test → (log rest : List Rejection) → IsValidAfter m log rest → IsValidAfter n (entries_of test log) (entries_of test rest)
valid-into part log [] valid = tt
valid-into {n} {m} {test} part log (e ∷ rest) valid =
    let later : IsValidAfter n (entries_of test (log ++ e ∷ [])) (entries_of test rest) = valid-into part (log ++ e ∷ []) rest valid.1 in
    elim (cases_Bool (test e.student)) [
      | inl kept ↦ subst (IsValidAfter n (entries_of test log)) (sym (entries-in test e rest kept))
          (entry-into part log e kept valid.0, subst (λ l. IsValidAfter n l (entries_of test rest)) (entries-push_in test log e kept) later)
      | inr dropped ↦ subst₂ (IsValidAfter n) (entries-push_out test log e dropped) (sym (entries-out test e rest dropped)) later
    ]

-- the entries of a part, where the whole log goes on
valid-after_in : (n : Market) (test : ℕ → Bool) (log rest : List Rejection) (e : Rejection) → test e.student ≡ true → IsValidAfter n (entries_of test log) (entries_of test (e ∷ rest)) → IsValidEntry n (entries_of test log) e × IsValidAfter n (entries_of test (log ++ e ∷ [])) (entries_of test rest)
valid-after_in n test log rest e kept valid =
    let both : IsValidAfter n (entries_of test log) (e ∷ entries_of test rest) = subst (IsValidAfter n (entries_of test log)) (entries-in test e rest kept) valid in
    (both.0, subst (λ l. IsValidAfter n l (entries_of test rest)) (sym (entries-push_in test log e kept)) both.1)

valid-after_out : (n : Market) (test : ℕ → Bool) (log rest : List Rejection) (e : Rejection) → test e.student ≡ false → IsValidAfter n (entries_of test log) (entries_of test (e ∷ rest)) → IsValidAfter n (entries_of test (log ++ e ∷ [])) (entries_of test rest)
valid-after_out n test log rest e dropped valid =
    subst₂ (IsValidAfter n) (sym (entries-push_out test log e dropped)) (entries-out test e rest dropped) valid

-- a log whose entries are valid in the part and outside it is valid
valid-from : {n o m : Market} {test : ℕ → Bool} → IsPart n m test → IsPart o m (outside test) → (log rest : List Rejection) → IsValidAfter n (entries_of test log) (entries_of test rest) → IsValidAfter o (entries_of (outside test) log) (entries_of (outside test) rest) → IsValidAfter m log rest
valid-from part other log [] first second = tt
valid-from {n} {o} {m} {test} part other log (e ∷ rest) first second =
    elim (cases_Bool (test e.student)) [
      | inl kept ↦
          let parts = valid-after_in n test log rest e kept first in
          (entry-from part log e kept parts.0, valid-from part other (log ++ e ∷ []) rest parts.1 (valid-after_out o (outside test) log rest e (not_from_true (test e.student) kept) second))
      | inr dropped ↦
          let parts = valid-after_in o (outside test) log rest e (not_from_false (test e.student) dropped) second in
          (entry-from other log e (not_from_false (test e.student) dropped) parts.0, valid-from part other (log ++ e ∷ []) rest (valid-after_out n test log rest e dropped first) parts.1)
    ]

-- no more students of the part have s than students of the whole
within-into : {n m : Market} {test : ℕ → Bool} → IsPart n m test → (log : List Rejection) → WithinSeats m (matching_of m log) → WithinSeats n (matching_of n (entries_of test log))
within-into {n} {m} {test} part log within s =
    let same : (j : ℕ) → (test j && has (matching_of n (entries_of test log)) s j) ≡ true → has (matching_of m log) s j ≡ true = λ j holds.
    let parts = and_parts (test j) (has (matching_of n (entries_of test log)) s j) holds in
    has-agree (matching_of m log) (matching_of n (entries_of test log)) s j (sym (next-part part.restricts log j parts.0)) ∙ parts.1 in
    omega (
      arith,
      within s,
      part.restricts.seats s,
      part.restricts.counts (has (matching_of n (entries_of test log)) s),
      how_many-le m (λ j. test j && has (matching_of n (entries_of test log)) s j) (has (matching_of m log) s) same,
    )

-- where all who have s are of the part, s is within its seats if it is so in the part
within-from : {n m : Market} {test : ℕ → Bool} → IsPart n m test → (log : List Rejection) (s : ℕ) → WithinSeats n (matching_of n (entries_of test log)) → ((j : ℕ) → has (matching_of m log) s j ≡ true → test j ≡ true) → held m (matching_of m log) s ≤ seats_of m s
within-from {n} {m} {test} part log s within all_in =
    let same : (j : ℕ) → has (matching_of m log) s j ≡ true → (test j && has (matching_of n (entries_of test log)) s j) ≡ true = λ j holds.
    and_from (test j) (has (matching_of n (entries_of test log)) s j) (all_in j holds)
    (has-agree (matching_of n (entries_of test log)) (matching_of m log) s j (next-part part.restricts log j (all_in j holds)) ∙ holds) in
    omega (
      arith,
      within s,
      part.restricts.seats s,
      part.restricts.counts (has (matching_of n (entries_of test log)) s),
      how_many-le m (has (matching_of m log) s) (λ j. test j && has (matching_of n (entries_of test log)) s j) same,
    )

-- all who have s are of one part
within-both : {n o m : Market} {test : ℕ → Bool} → IsPart n m test → IsPart o m (outside test) → (log : List Rejection) → WithinSeats n (matching_of n (entries_of test log)) → WithinSeats o (matching_of o (entries_of (outside test) log)) → WithinSeats m (matching_of m log)
within-both {n} {o} {m} {test} part other log first second s =
    elim (some-student m (λ j. test j && has (matching_of m log) s j)) [
      | inl (i, among, found) ↦
          let parts = and_parts (test i) (has (matching_of m log) s i) found in
          let listed : Contains (choices_of m i) s = next-listed m log i s (has-true (matching_of m log) s i parts.1) in
          within-from part log s first (λ j holds. elim (cases_Bool (test j)) [
            | inl in_part ↦ in_part
            | inr out ↦ absurd (false≢true (sym (none-outside part log i s j parts.0 listed out) ∙ holds))
          ])
      | inr none ↦ within-from other log s second (λ j holds. elim (cases_Bool (test j)) [
        | inl in_part ↦ absurd (false≢true (sym (none j (next-among m log j s (has-true (matching_of m log) s j holds))) ∙ and_from (test j) (has (matching_of m log) s j) in_part holds))
        | inr out ↦ not_from_false (test j) out
      ])
    ]

-- the students outside are apart from those inside
apart-outside : (m : Market) (test : ℕ → Bool) → AreApart m test → AreApart m (outside test)
apart-outside m test apart = record {
  none_shared = λ i j s out in_part first second. apart.none_shared j i s (not-false (test j) in_part) (not-true (test i) out) second first;
}

pub settled-apart : (m : Market) (test : ℕ → Bool) (log : List Rejection) → AreApart m test → (IsSettled m log ↔ (IsSettled (restricted m test) (entries_of test log) × IsSettled (restricted m (outside test)) (entries_of (outside test) log)))
settled-apart m test log apart =
    let part : IsPart (restricted m test) m test = record { restricts = restricted-restricts m test; apart = apart } in
    let other : IsPart (restricted m (outside test)) m (outside test) = record { restricts = restricted-restricts m (outside test); apart = apart-outside m test apart } in (
      λ settled. (
        record { valid = valid-into part [] log settled.valid; within_seats = within-into part log settled.within_seats },
        record { valid = valid-into other [] log settled.valid; within_seats = within-into other log settled.within_seats },
      ),
      λ both. record {
        valid = valid-from part other [] log both.0.valid both.1.valid;
        within_seats = within-both part other log both.0.within_seats both.1.within_seats;
      },
    )
