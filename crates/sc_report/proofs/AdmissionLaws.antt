-- In a stable matching each student has the first of their choices that admits them, and a matching within
-- seats where that is so is stable.
use Rattle.std.proofs.Common.{◌≡◌, ◌↔◌, inl, inr, refl, sym, ◌∙◌, ap, subst, ℕ, ◌<◌, ◌==◌, true, false, not, List, length, Option, None, Some, Contains, slice_get, arith}
use Rattle.std.specs.Prelude.{nat_lt}
use Rattle.std.proofs.lemmas.Bool.{cases_Bool, cond-true, cond-false, false≢true}
use Rattle.std.proofs.lemmas.Bool.Decides.{nat_tests}
use Rattle.sc_papers.specs.Key.{is_before, is_ahead, key_of}
use Rattle.sc_papers.specs.Market.{Market, choices_of, seats_of, students_of}
use Rattle.sc_papers.specs.Matching.{Matching, IsMatching, IsStable, Prefers, WithinSeats, has, held}
use Rattle.sc_papers.specs.WellFormed.{WellFormed}
use Rattle.sc_papers.specs.declared.key.Key.{Key}
use Rattle.sc_papers.proofs.Choices.{contains-at, fails-before, found-among, found-is, found-none, none-found, place-of}
use Rattle.sc_papers.proofs.Priority.{before-trans}
use Rattle.sc_papers.proofs.Rejections.{has-some}
use Rattle.sc_papers.proofs.Students.{choices-differ, lister-among}
use Rattle.sc_report.specs.Admission.{admits, first_admitting, is_admitted}
use Rattle.sc_reasons.specs.Cutoff.{cutoff, cutoff_by}
use Rattle.sc_tallies.specs.LastKey.{keys_among, last_key}
use Rattle.sc_reasons.specs.Reason.{reason, reason_by, Applies}
use Rattle.sc_reasons.specs.declared.cutoff.Cutoff.{Cutoff}
use Rattle.sc_reasons.specs.declared.cutoff.Cutoff.TheVariants.{Closed, Free, Full}
use Rattle.sc_reasons.specs.declared.reason.Reason.{Reason}
use Rattle.sc_reasons.specs.declared.reason.Reason.TheVariants.{Seats, Class, Lottery}
use Rattle.sc_tallies.proofs.LastKeys.{key-among, last-after, last-among}
use Rattle.sc_report.proofs.ReasonLaws.{keys-count, reason-applies}

-- a key that is not after the last is let in where there are seats, and each key where one is free
admits-by : (seats count : ℕ) (last key : Key) → 0 < seats → is_before last key ≡ false → admits (cutoff_by seats count (Some last)) key ≡ true
admits-by seats count last key some not_after =
    ap (λ c. admits c key) (cond-false (seats == 0) Closed _ (grind (arith, nat_tests)))
    ∙ elim (cases_Bool (nat_lt count seats)) [
      | inl fewer ↦ ap (λ c. admits c key) (cond-true (nat_lt count seats) Free (Full last) fewer)
      | inr enough ↦ ap (λ c. admits c key) (cond-false (nat_lt count seats) Free (Full last) enough) ∙ ap not not_after
    ]

admits-free : (seats count : ℕ) (o : Option Key) (key : Key) → count < seats → admits (cutoff_by seats count o) key ≡ true
admits-free seats count None key fewer = ap (λ c. admits c key) (cond-false (seats == 0) Closed Free (grind (arith, nat_tests)))
admits-free seats count (Some last) key fewer =
    ap (λ c. admits c key) (cond-false (seats == 0) Closed _ (grind (arith, nat_tests)))
    ∙ ap (λ c. admits c key) (cond-true (nat_lt count seats) Free (Full last) (grind (arith, nat_tests)))

after-class : (last key : Key) → last.class < key.class → is_before last key ≡ true
after-class last key less = grind (arith, nat_tests)

-- for whatever reason, a key is not let in
refused : (cut : Cutoff) (key : Key) (r : Reason) → Applies cut key r → admits cut key ≡ false
refused cut key Seats is = ap (λ c. admits c key) is
refused cut key Class (last, is, less) = ap (λ c. admits c key) is ∙ ap not (after-class last key less)
refused cut key Lottery (last, is, same, after) = ap (λ c. admits c key) is ∙ ap not after

-- and there is one reason
one-reason : (cut : Cutoff) (key : Key) (r : Reason) → Applies cut key r → r ≡ reason_by cut key
one-reason cut key Seats is = sym (ap (λ c. reason_by c key) is)
one-reason cut key Class (last, is, less) =
    sym (ap (λ c. reason_by c key) is ∙ cond-true (nat_lt last.class key.class) Class Lottery (grind (arith, nat_tests)))
one-reason cut key Lottery (last, is, same, after) =
    sym (ap (λ c. reason_by c key) is ∙ cond-false (nat_lt last.class key.class) Class Lottery (grind (arith, nat_tests)))

-- a key that is ahead of one that is not after the last is not after it either
not_after : (last key other : Key) → is_before key other ≡ true → is_before last other ≡ false → is_before last key ≡ false
not_after last key other ahead behind = elim (cases_Bool (is_before last key)) [
  | inl after ↦ absurd (false≢true (sym behind ∙ before-trans last key other after ahead))
  | inr before ↦ before
]

module _ (m : Market) (a : Matching) (listed : IsMatching m a) (within : WithinSeats m a) where
  -- a school that j has lets in each key that is not after the last one where that of j is not
  admits-like : (j s : ℕ) → a j ≡ Some s → (key : Key) → ((last : Key) → is_before last (key_of m j s) ≡ false → is_before last key ≡ false) → admits (cutoff m a s) key ≡ true
  unfolding cutoff
  admits-like j s given key like =
      let keys : List Key = keys_among m a (students_of m) s in
      let among : Contains keys (key_of m j s) = key-among (has a s) (λ i. key_of m i s) (students_of m) j (lister-among m j s (listed j s given)) (has-some a s j given) in
      let some : 0 < length keys = omega (arith, among.1) in
      let found : (last : Key) × (last_key keys ≡ Some last) × Contains keys last = last-among keys some in
      let seats : 0 < seats_of m s = omega (arith, some, keys-count m a s, within s) in
      ap (λ o. admits (cutoff_by (seats_of m s) (held m a s) o) key) found.1
      ∙ admits-by (seats_of m s) (held m a s) found.0 key seats (like found.0 (last-after keys found.0 found.1 (key_of m j s) among))

module _ (m : Market) (a : Matching) (well : WellFormed m) (stable : IsStable m a) where
  pub held-admits : (i s : ℕ) → a i ≡ Some s → is_admitted m a i s ≡ true
  held-admits i s given = admits-like m a stable.matching stable.within_seats i s given (key_of m i s) (λ last behind. behind)

  pub preferred-refuses : (i s : ℕ) → Prefers m i s (a i) → is_admitted m a i s ≡ false
  preferred-refuses i s prefers = refused (cutoff m a s) (key_of m i s) (reason m a i s) (reason-applies m a well stable i s prefers)

  pub preferred-reason : (i s : ℕ) → Prefers m i s (a i) → (r : Reason) → (Applies (cutoff m a s) (key_of m i s) r ↔ (r ≡ reason m a i s))
  preferred-reason i s prefers r = (
    one-reason (cutoff m a s) (key_of m i s) r,
    λ is. subst (Applies (cutoff m a s) (key_of m i s)) (sym is) (reason-applies m a well stable i s prefers),
  )

  pub first-admits : (i : ℕ) → a i ≡ first_admitting m a i
  first-admits i = go (a i) refl
    where
      go : (given : Option ℕ) → a i ≡ given → a i ≡ first_admitting m a i
      go None is =
          is ∙ sym (found-none (is_admitted m a i) (choices_of m i)
          (λ j t at. preferred-refuses i t (subst (Prefers m i t) (sym is) (contains-at (choices_of m i) j t at))))
      go (Some s) is =
          let place : (k : ℕ) × (slice_get (choices_of m i) k ≡ Some s) = place-of (choices_of m i) s (stable.matching i s is) in
          is ∙ sym (found-is (is_admitted m a i) (choices_of m i) place.0 s place.1 (held-admits i s is)
          (λ j t below at. preferred-refuses i t (subst (Prefers m i t) (sym is) (j, place.0, below, at, place.1))))

-- and the other way round
module _ (m : Market) (a : Matching) (well : WellFormed m) (within : WithinSeats m a) (first : (i : ℕ) → a i ≡ first_admitting m a i) where
  listed : IsMatching m a
  listed i s given = found-among (is_admitted m a i) (choices_of m i) s (sym (first i) ∙ given)

  refuses : (i s : ℕ) → Prefers m i s (a i) → is_admitted m a i s ≡ false
  refuses i s prefers = go (a i) refl prefers
    where
      go : (given : Option ℕ) → a i ≡ given → Prefers m i s given → is_admitted m a i s ≡ false
      go None is among =
          let place : (k : ℕ) × (slice_get (choices_of m i) k ≡ Some s) = place-of (choices_of m i) s among in
          none-found (is_admitted m a i) (choices_of m i) (sym (first i) ∙ is) place.0 s place.1
      go (Some t) is before = fails-before (is_admitted m a i) (choices_of m i) s t (choices-differ m well i) (sym (first i) ∙ is) before

  -- a school with a free seat admits everyone, and one that admits j admits whoever is ahead of j
  free-admits : (i s : ℕ) → held m a s < seats_of m s → is_admitted m a i s ≡ true
  unfolding cutoff
  free-admits i s free = admits-free (seats_of m s) (held m a s) (last_key (keys_among m a (students_of m) s)) (key_of m i s) free

  ahead-admits : (i j s : ℕ) → a j ≡ Some s → is_ahead m s i j ≡ true → is_admitted m a i s ≡ true
  unfolding is_ahead
  ahead-admits i j s given ahead =
      admits-like m a listed within j s given (key_of m i s) (λ last behind. not_after last (key_of m i s) (key_of m j s) ahead behind)

  pub first-stable : IsStable m a
  first-stable = record {
    matching = listed;
    within_seats = within;
    unblocked = λ i s blocks. false≢true (sym (refuses i s blocks.preferred) ∙ elim blocks.better [
      | inl free ↦ free-admits i s free
      | inr (j, given, ahead) ↦ ahead-admits i j s given ahead
    ]);
  }

pub stable-iff : (m : Market) (a : Matching) → WellFormed m → (IsStable m a ↔ (WithinSeats m a × ((i : ℕ) → a i ≡ first_admitting m a i)))
stable-iff m a well = (λ stable. (stable.within_seats, first-admits m a well stable), λ both. first-stable m a well both.0 both.1)
