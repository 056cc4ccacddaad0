-- What an amendment leaves as it was, by which nobody enters or withdraws: the schools, all students but one, all seats but those of one
-- school; and the choices that its student had.
use Rattle.std.proofs.Common.{◌≡◌, ◌⊎◌, inl, inr, refl, ap, sym, subst, ◌∙◌, ℕ, ◌+◌, ◌-◌, ◌<◌, ◌==◌, nat_eq, true, false, List, [], ◌∷◌, length, get_or, is_some, Option, Some, None, IfSome, position, arith}
use Rattle.std.proofs.lemmas.Bool.{cases_Bool, cond-false, cond-true, eq-eqb, eqb-true, false≢true, false_from_ne_true, true≢false}
use Rattle.std.proofs.lemmas.Cmp.{nat_eq_equiv}
use Rattle.std.proofs.lemmas.List.Elements.{All-head}
use Rattle.std.proofs.lemmas.List.{length-map}
use Rattle.std.proofs.lemmas.Map.{keys-set_value, lookup-set_value}
use Rattle.std.proofs.lemmas.Option.{get_or_from_slice_get, none-some, same_Some}
use Rattle.sc_papers.specs.Key.{key_of}
use Rattle.sc_papers.specs.Market.{Market, choices_of, is_school, is_student, school_of, schools_of, seats_of, student_of, zone_at}
use Rattle.sc_papers.specs.Verdict.{after, changed_student, objections_to_add, objections_to_close, verdict, with_seats}
use Rattle.sc_papers.specs.TakingBack.{is_entry, is_withdrawal, TakesBack}
use Rattle.sc_papers.specs.WellFormed.{WellFormed}
use Rattle.sc_papers.specs.declared.amendment.Amendment.{Amendment}
use Rattle.sc_papers.specs.declared.amendment.Amendment.TheVariants.{Enter, Withdraw, Rerank, Add, Close, Correct}
use Rattle.sc_papers.specs.declared.records.School.{School}
use Rattle.sc_papers.specs.declared.records.Student.{Student}
use Rattle.sc_papers.proofs.Objections.{first_of-none, unknown_in-none}
use Rattle.sc_papers.proofs.Positions.{position-at, position-there, school-position}
use Rattle.sc_papers.proofs.Rewinding.{key-by, key_by}
use Rattle.sc_region.proofs.Changes.{amended-known, choices-after, of-changed, ComesWithChoices, KeepsChoices}
use Rattle.sc_ledgers.specs.Anew.{is_reseated}
use Rattle.sc_ledgers.specs.Elsewhere.{is_same, old_row}
use Rattle.sc_ledgers.specs.Sweep.{is_amended}
use Rattle.sc_stamps.specs.Record.{record_of}
use Rattle.sc_stamps.specs.declared.record.Record.{Record}
use Rattle.sc_stamps.specs.declared.record.Record.TheVariants.{OfStudent, OfSchool}
use Rattle.sc_repair.specs.Anew.{choices_before, place_in, school_in, student_in}
use Rattle.sc_repair.specs.Changed.{newcomer}
use Rattle.sc_repair.proofs.RegionTurns.{choices-outside, same-some, some-same, student-amended}
use Rattle.sc_repair.proofs.Regional.{nobody-enters}
use Rattle.sc_repair.proofs.Rewinding.{field-kept}

-- All students but the amended one.

-- what the papers hold of another student, where one is changed or a school is
student-other : (m : Market) (i : ℕ) (change : Student → Student) (j : ℕ) → (i == j) ≡ false → student_of (changed_student m i change) j ≡ student_of m j
student-other m i change j other =
    of-changed (λ n. student_of n j ≡ student_of m j) (student_of m i) _ m refl (λ student is.
    lookup-set_value nat_eq_equiv (nat_eq i) (λ x y same. ap (λ n. nat_eq n y) (eqb-true i x same)) j (change student) m.students (ap is_some is)
    ∙ cond-false (nat_eq i j) (Some (change student)) (student_of m j) other)

student-seated : (m : Market) (s seats j : ℕ) → student_of (with_seats m s seats) j ≡ student_of m j
student-seated m s seats j = of-changed (λ n. student_of n j ≡ student_of m j) (school_of m s) _ m refl (λ school is. refl)

pub student-kept : (m : Market) (a : Amendment) (j : ℕ) → newcomer a ≡ None → is_withdrawal a ≡ false → is_amended (student_in (record_of a)) j ≡ false → student_of (after m a) j ≡ student_of m j
student-kept m (Enter i zone siblings choices continuing) j no_entry no_withdrawal other = absurd (none-some i (sym no_entry))
student-kept m (Withdraw i) j no_entry no_withdrawal other = absurd (true≢false no_withdrawal)
student-kept m (Rerank i choices) j no_entry no_withdrawal other = student-other m i (λ student. record student { choices = choices }) j other
student-kept m (Add s count) j no_entry no_withdrawal other = student-seated m s (seats_of m s + count) j
student-kept m (Close s count) j no_entry no_withdrawal other = student-seated m s (seats_of m s - count) j
student-kept m (Correct i zone siblings continuing) j no_entry no_withdrawal other = student-other m i (λ student. record student { zone = zone; siblings = siblings; continuing = continuing }) j other

-- and their keys
pub key-kept : (m n : Market) (j s : ℕ) → n.seed ≡ m.seed → zone_at n s ≡ zone_at m s → student_of n j ≡ student_of m j → key_of n j s ≡ key_of m j s
key-kept m n j s seed zone student = key-by n j s ∙ (λ t. key_by (seed t) (zone t) (student t) j s) ∙ sym (key-by m j s)

-- The schools, and the seats of all but the amended one.

-- the schools' numbers, where a school is changed or a student is
schools-seated : (m : Market) (s seats : ℕ) → schools_of (with_seats m s seats) ≡ schools_of m
schools-seated m s seats = of-changed (λ n. schools_of n ≡ schools_of m) (school_of m s) _ m refl (λ school is. keys-set_value (nat_eq s) m.schools (record school { seats = seats }))

schools-changed : (m : Market) (i : ℕ) (change : Student → Student) → schools_of (changed_student m i change) ≡ schools_of m
schools-changed m i change = of-changed (λ n. schools_of n ≡ schools_of m) (student_of m i) _ m refl (λ student is. refl)

pub schools-kept : (m : Market) (a : Amendment) → schools_of (after m a) ≡ schools_of m
schools-kept m (Enter i zone siblings choices continuing) = refl
schools-kept m (Withdraw i) = refl
schools-kept m (Rerank i choices) = schools-changed m i (λ student. record student { choices = choices })
schools-kept m (Add s count) = schools-seated m s (seats_of m s + count)
schools-kept m (Close s count) = schools-seated m s (seats_of m s - count)
schools-kept m (Correct i zone siblings continuing) = schools-changed m i (λ student. record student { zone = zone; siblings = siblings; continuing = continuing })

-- there are as many of them
pub schools-many : (m : Market) (a : Amendment) → length (after m a).schools ≡ length m.schools
schools-many m a = omega (arith, ap (λ (xs : List ℕ). length xs) (schools-kept m a), length-map (after m a).schools (λ (e : ℕ × School). e.0), length-map m.schools (λ (e : ℕ × School). e.0))

-- the seats of another school, where one is changed, and of all, where a student is
seats-other : (m : Market) (t seats s : ℕ) → (t == s) ≡ false → seats_of (with_seats m t seats) s ≡ seats_of m s
unfolding seats_of
seats-other m t seats s other =
    of-changed (λ n. seats_of n s ≡ seats_of m s) (school_of m t) _ m refl (λ school is.
    field-kept (λ found. found.seats) t s school (record school { seats = seats }) m.schools is (λ same. absurd (false≢true (sym other ∙ same))))

seats-changed : (m : Market) (i : ℕ) (change : Student → Student) (s : ℕ) → seats_of (changed_student m i change) s ≡ seats_of m s
unfolding seats_of
seats-changed m i change s = of-changed (λ n. seats_of n s ≡ seats_of m s) (student_of m i) _ m refl (λ student is. refl)

pub seats-kept : (m : Market) (a : Amendment) (s : ℕ) → newcomer a ≡ None → is_withdrawal a ≡ false → is_same (school_in (record_of a)) (Some s) ≡ false → seats_of (after m a) s ≡ seats_of m s
seats-kept m (Enter i zone siblings choices continuing) s no_entry no_withdrawal other = absurd (none-some i (sym no_entry))
seats-kept m (Withdraw i) s no_entry no_withdrawal other = absurd (true≢false no_withdrawal)
seats-kept m (Rerank i choices) s no_entry no_withdrawal other = seats-changed m i (λ student. record student { choices = choices }) s
seats-kept m (Add t count) s no_entry no_withdrawal other = seats-other m t (seats_of m t + count) s other
seats-kept m (Close t count) s no_entry no_withdrawal other = seats-other m t (seats_of m t - count) s other
seats-kept m (Correct i zone siblings continuing) s no_entry no_withdrawal other = seats-changed m i (λ student. record student { zone = zone; siblings = siblings; continuing = continuing }) s

-- Whom and what it amends is in the papers.

-- a student
pub known-amended : (m : Market) (a : Amendment) (i : ℕ) → verdict m a ≡ None → newcomer a ≡ None → student_in (record_of a) ≡ Some i → is_student m i ≡ true
known-amended m a i allowed no_entry is = elim (amended-known m a allowed i (sym (student-amended a) ∙ is)) [
  | inl known ↦ known
  | inr enters ↦ absurd (nobody-enters a i no_entry enters)
]

-- and a school
known-seated : (m : Market) (a : Amendment) (s : ℕ) → verdict m a ≡ None → school_in (record_of a) ≡ Some s → is_school m s ≡ true
known-seated m (Add t count) s allowed is =
    subst (λ u. is_school m u ≡ true) (same_Some t s is)
    (All-head (λ u. is_school m u ≡ true) t [] (unknown_in-none m (t ∷ []) (first_of-none (objections_to_add m t count) allowed).0))
known-seated m (Close t count) s allowed is =
    subst (λ u. is_school m u ≡ true) (same_Some t s is)
    (All-head (λ u. is_school m u ≡ true) t [] (unknown_in-none m (t ∷ []) (first_of-none (objections_to_close m t count) allowed).0))
known-seated m _ s allowed is = absurd (none-some s is)

-- The place of the school whose seats are amended is its place among the schools.

module _ (n : Market) where
  -- the place is that of a school, which is the amended one
  pub place-of_school : (r : Record) → IfSome (place_in n r) (λ p. (p < length (schools_of n)) × (school_in r ≡ Some (get_or (schools_of n) p 0)))
  place-of_school (OfStudent i) = tt
  place-of_school (OfSchool s) = go (position (nat_eq s) (schools_of n)) refl
    where
      go : (found : Option ℕ) → position (nat_eq s) (schools_of n) ≡ found → IfSome found (λ p. (p < length (schools_of n)) × (Some s ≡ Some (get_or (schools_of n) p 0)))
      go None is = tt
      go (Some p) is = (
        (position-at (schools_of n) s p is).0,
        ap Some (sym (get_or_from_slice_get (schools_of n) p s 0 (position-there (schools_of n) s p is))),
      )

  -- so it is the one that is seated anew
  pub reseated-place : (r : Record) (s at : ℕ) → school_in r ≡ Some s → position (nat_eq s) (schools_of n) ≡ Some at → is_reseated n (place_in n r) s ≡ true
  reseated-place (OfStudent i) s at is found = absurd (none-some s is)
  reseated-place (OfSchool t) s at is found =
      subst (λ o. is_reseated n o s ≡ true) (sym (ap (λ u. position (nat_eq u) (schools_of n)) (same_Some t s is) ∙ found))
      (some-same (position (nat_eq s) (schools_of n)) at found)

-- all other seats are as they were
pub seats-beside : (m : Market) (a : Amendment) (s : ℕ) → verdict m a ≡ None → newcomer a ≡ None → is_withdrawal a ≡ false → is_reseated (after m a) (place_in (after m a) (record_of a)) s ≡ false → seats_of (after m a) s ≡ seats_of m s
seats-beside m a s allowed no_entry no_withdrawal beside =
    seats-kept m a s no_entry no_withdrawal (false_from_ne_true (is_same (school_in (record_of a)) (Some s)) (λ same.
    let is = same-some (school_in (record_of a)) s same in
    let (at, found) = school-position m s (known-seated m a s allowed is) in
    false≢true (sym beside ∙ reseated-place (after m a) (record_of a) s at is (ap (position (nat_eq s)) (schools-kept m a) ∙ found))))

-- The choices that the amended student had.

-- by what takes an amendment back
given-back : (n : Market) (back : Amendment) (i : ℕ) → WellFormed n → verdict n back ≡ None → is_entry back ≡ false → is_student (after n back) i ≡ true → choices_of (after n back) i ≡ choices_before n back (Some i)
given-back n back i well allowed no_entry known = by back no_entry (choices-after n back well allowed i known)
  where
    by : (back : Amendment) → is_entry back ≡ false → KeepsChoices n back i ⊎ ComesWithChoices n back i → choices_of (after n back) i ≡ choices_before n back (Some i)
    by (Enter j zone siblings choices continuing) no_entry told = absurd (true≢false no_entry)
    by (Withdraw j) no_entry (inl (stays, here, same)) = same
    by (Withdraw j) no_entry (inr (is, comes, same)) = absurd (none-some i comes)
    by (Rerank j choices) no_entry (inl (stays, here, same)) =
        same ∙ sym (cond-false (j == i) choices (choices_of n i) (false_from_ne_true (j == i) (λ own. stays (ap Some (eqb-true j i own)))))
    by (Rerank j choices) no_entry (inr (is, comes, same)) = same ∙ sym (cond-true (j == i) choices (choices_of n i) (eq-eqb j i (same_Some j i is)))
    by (Add t count) no_entry (inl (stays, here, same)) = same
    by (Add t count) no_entry (inr (is, comes, same)) = absurd (none-some i comes)
    by (Close t count) no_entry (inl (stays, here, same)) = same
    by (Close t count) no_entry (inr (is, comes, same)) = absurd (none-some i comes)
    by (Correct j zone siblings continuing) no_entry (inl (stays, here, same)) = same
    by (Correct j zone siblings continuing) no_entry (inr (is, comes, same)) = absurd (none-some i comes)

pub had-choices : (m n : Market) (back : Amendment) (i : ℕ) → WellFormed n → TakesBack m n back → is_student m i ≡ true → choices_of m i ≡ choices_before n back (Some i)
had-choices m n back i well takes known =
    ap (λ p. choices_of p i) (sym takes.gives_back)
    ∙ given-back n back i well takes.allowed takes.no_entry (ap (λ p. is_student p i) takes.gives_back ∙ known)

-- so everybody had these
pub rows-before : (m n : Market) (back : Amendment) (amended : Option ℕ) → WellFormed n → TakesBack m n back → IfSome amended (λ i. is_student m i ≡ true) → ((j : ℕ) → is_amended amended j ≡ false → student_of n j ≡ student_of m j)
    → (j : ℕ) → choices_of m j ≡ old_row n amended (choices_before n back amended) j
rows-before m n back None well takes known kept j = sym (choices-outside m n j (kept j refl))
rows-before m n back (Some i) well takes known kept j = elim (cases_Bool (i == j)) [
  | inl own ↦
      subst (λ k. choices_of m k ≡ choices_before n back (Some i)) (eqb-true i j own) (had-choices m n back i well takes known)
      ∙ sym (cond-true (i == j) (choices_before n back (Some i)) (choices_of n j) own)
  | inr other ↦
      sym (choices-outside m n j (kept j other)) ∙ sym (cond-false (i == j) (choices_before n back (Some i)) (choices_of n j) other)
]
