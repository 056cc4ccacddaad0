-- What an accepted amendment changes in who lists what.
use Rattle.std.proofs.Common.{◌≡◌, ◌⊎◌, inl, inr, refl, sym, ap, subst, ◌∙◌, ℕ, nat_eq, true, false, not, List, [], ◌∷◌, ◌++◌, cond, length, Option, Some, None, Contains, is_some, arith}
use Rattle.std.proofs.lemmas.Bool.Decides.{nat_tests}
use Rattle.std.specs.Prelude.{slice_index}
use Rattle.std.specs.Option.{option_map_or, IsSome}
use Rattle.std.specs.List.{IsDistinct}
use Rattle.std.proofs.lemmas.List.{append-nil}
use Rattle.std.proofs.lemmas.Map.Keys.{IsDistinct-push}
use Rattle.std.specs.Map.{lookup}
use Rattle.std.proofs.lemmas.Bool.{cond-true, eqb-true, eq-eqb, false≢true, not-false}
use Rattle.std.proofs.lemmas.Cmp.{nat_eq_equiv}
use Rattle.std.proofs.lemmas.List.Elements.{All-contains, All-contains_itself, All-head, All-weaker, Contains-get_or}
use Rattle.std.proofs.lemmas.List.Edits.{insert_end}
use Rattle.std.proofs.lemmas.List.Folds.{list_any_none}
use Rattle.std.proofs.lemmas.Map.{lookup-insert, lookup-remove_entry, lookup-set_value, none_passes_from_lookup}
use Rattle.std.proofs.lemmas.Option.{none-some, same_Some}
use Rattle.sc_papers.specs.Market.{Market, choices_of, is_school, is_student, school_of, student_of}
use Rattle.sc_papers.specs.Verdict.{after, changed_school, changed_student, first_of, objections_to_add, objections_to_close, objections_to_rerank, unknown_student, verdict, with_student, without_student}
use Rattle.sc_papers.specs.WellFormed.{WellFormed}
use Rattle.sc_papers.specs.declared.amendment.Amendment.{Amendment}
use Rattle.sc_papers.specs.declared.amendment.Amendment.TheVariants.{Enter, Withdraw, Rerank, Add, Close, Correct}
use Rattle.sc_papers.specs.declared.amendment.Refusal.TheVariants.{UnknownStudent}
use Rattle.sc_papers.specs.declared.records.School.{School}
use Rattle.sc_papers.specs.declared.records.Student.{Student}
use Rattle.sc_papers.proofs.Counting.{contains-cons}
use Rattle.sc_papers.proofs.Entering.{MayEnter, MayEnter-allowed}
use Rattle.sc_papers.proofs.Objections.{first_of-none, refuse_if-none, unknown_in-none}
use Rattle.sc_papers.proofs.Positions.{among-student}
use Rattle.sc_papers.proofs.Students.{choice-known, lister-among}
use Rattle.sc_region.specs.Districts.{listed_by, unlisted_by}
use Rattle.sc_region.specs.Groups.{entrants, first_choice, new_choices, start_of}
use Rattle.sc_region.specs.Region.{amended_school, amended_student, Lists}
use Rattle.sc_region.proofs.Joining.{first-listed}

-- what the papers hold of a student tells what they list
choices-told : (m : Market) (i : ℕ) (student : Student) → student_of m i ≡ Some student → choices_of m i ≡ student.choices
unfolding choices_of
choices-told m i student found = ap (λ o. option_map_or (λ (x : Student). x.choices) o []) found

-- what is found at a key, where that of one key is another
found-at : (j i : ℕ) (own other : Option Student) (student : Student) → cond (nat_eq j i) own other ≡ Some student
    → ((j ≡ i → ⊥) × (other ≡ Some student)) ⊎ ((j ≡ i) × (own ≡ Some student))
found-at j i own other student found = grind (arith, nat_tests, found)

found-own : (j : ℕ) (own other : Option Student) → cond (nat_eq j j) own other ≡ own
found-own j own other = cond-true (nat_eq j j) own other (eq-eqb j j refl)

one-key : (j x y : ℕ) → nat_eq j x ≡ true → nat_eq j y ≡ nat_eq x y
one-key j x y same = ap (λ k. nat_eq k y) (eqb-true j x same)

-- what the papers hold of students once one has entered, is withdrawn, or is changed
entered : (m : Market) (j : ℕ) (new : Student) → student_of m j ≡ None → (i : ℕ) → student_of (with_student m j new) i ≡ cond (nat_eq j i) (Some new) (student_of m i)
entered m j new none i =
    ap (lookup (nat_eq i)) (sym (insert_end m.students (j, new)))
    ∙ lookup-insert nat_eq_equiv j new i m.students (length m.students) (none_passes_from_lookup (nat_eq j) m.students none)

withdrawn : (m : Market) → WellFormed m → (j i : ℕ) → student_of (without_student m j) i ≡ cond (nat_eq j i) None (student_of m i)
withdrawn m well j i = lookup-remove_entry nat_eq_equiv (nat_eq j) (one-key j) i m.students well.students_differ

changed : (m : Market) (j : ℕ) (change : Student → Student) (old : Student) → student_of m j ≡ Some old → (i : ℕ) → student_of (changed_student m j change) i ≡ cond (nat_eq j i) (Some (change old)) (student_of m i)
changed m j change old held i =
    rw held
    (lookup-set_value nat_eq_equiv (nat_eq j) (one-key j) i (change old) m.students (subst IsSome (sym held) refl))

-- a change of a school changes no student
pub of-changed : {X : Type 0} (P : Market → Type 0) (found : Option X) (change : X → Market) (m : Market) → P m → ((x : X) → found ≡ Some x → P (change x)) → P (option_map_or change found m)
of-changed P None change m same changes = same
of-changed P (Some x) change m same changes = changes x refl

seated-student : (m : Market) (s : ℕ) (change : School → School) (i : ℕ) → student_of (changed_school m s change) i ≡ student_of m i
seated-student m s change i = of-changed (λ n. student_of n i ≡ student_of m i) (school_of m s) _ m refl (λ school is. refl)

-- whom an amendment names, the papers hold, unless the student enters
pub is-held : (m : Market) (i : ℕ) → is_student m i ≡ true → (student : Student) × (student_of m i ≡ Some student)
is-held m i known = go (student_of m i) refl known
  where
    go : (found : Option Student) → student_of m i ≡ found → is_some found ≡ true → (student : Student) × (student_of m i ≡ Some student)
    go None is none = absurd (false≢true none)
    go (Some student) is some = (student, is)

known-named : (m : Market) (i : ℕ) (others : _) → first_of (unknown_student m i ∷ others) ≡ None → is_student m i ≡ true
known-named m i others allowed = not-false (is_student m i) (refuse_if-none (not (is_student m i)) UnknownStudent (first_of-none (unknown_student m i ∷ others) allowed).0)

pub enter-may : (m : Market) (i zone : ℕ) (siblings choices : List ℕ) (continuing : Option ℕ) → verdict m (Enter i zone siblings choices continuing) ≡ None → MayEnter m i (record { zone = zone; siblings = siblings; choices = choices; continuing = continuing })
enter-may m i zone siblings choices continuing allowed = MayEnter-allowed m i (record { zone = zone; siblings = siblings; choices = choices; continuing = continuing }) allowed

-- one who keeps their choices, and the amended student with new ones
abbrev pub KeepsChoices : Market → Amendment → ℕ → Type 0
KeepsChoices m a i = (unlisted_by a ≡ Some i → ⊥) × (is_student m i ≡ true) × (choices_of (after m a) i ≡ choices_of m i)

abbrev pub ComesWithChoices : Market → Amendment → ℕ → Type 0
ComesWithChoices m a i = (amended_student a ≡ Some i) × (listed_by a ≡ Some i) × (choices_of (after m a) i ≡ new_choices a)

keeps : (m : Market) (a : Amendment) (i : ℕ) (old new : Student) → (unlisted_by a ≡ Some i → ⊥) → student_of m i ≡ Some old → student_of (after m a) i ≡ Some new → new.choices ≡ old.choices → KeepsChoices m a i
keeps m a i old new stays was is same = (stays, ap is_some was, choices-told (after m a) i new is ∙ same ∙ sym (choices-told m i old was))

-- each student of the papers after the amendment is one of these
pub choices-after : (m : Market) (a : Amendment) → WellFormed m → verdict m a ≡ None → (i : ℕ) → is_student (after m a) i ≡ true → KeepsChoices m a i ⊎ ComesWithChoices m a i
choices-after m (Enter j zone siblings choices continuing) well allowed i known =
    let new : Student = record { zone = zone; siblings = siblings; choices = choices; continuing = continuing } in
    let (student, found) = is-held (with_student m j new) i known in
    elim (found-at j i (Some new) (student_of m i) student (sym (entered m j new (enter-may m j zone siblings choices continuing allowed).new i) ∙ found)) [
      | inl (apart, before) ↦ inl (keeps m (Enter j zone siblings choices continuing) i student student (none-some i) before found refl)
      | inr (same, is) ↦ inr (ap Some same, ap Some same, choices-told (with_student m j new) i student found ∙ ap (λ (x : Student). x.choices) (sym (same_Some new student is)))
    ]
choices-after m (Withdraw j) well allowed i known =
    let (student, found) = is-held (without_student m j) i known in
    elim (found-at j i None (student_of m i) student (sym (withdrawn m well j i) ∙ found)) [
      | inl (apart, before) ↦ inl (keeps m (Withdraw j) i student student (λ leaves. apart (same_Some j i leaves)) before found refl)
      | inr (same, none) ↦ absurd (none-some student none)
    ]
choices-after m (Rerank j choices) well allowed i known =
    let change : Student → Student = λ student. record student { choices = choices } in
    let (old, held) = is-held m j (known-named m j _ allowed) in
    let (student, found) = is-held (changed_student m j change) i known in
    elim (found-at j i (Some (change old)) (student_of m i) student (sym (changed m j change old held i) ∙ found)) [
      | inl (apart, before) ↦ inl (keeps m (Rerank j choices) i student student (λ leaves. apart (same_Some j i leaves)) before found refl)
      | inr (same, is) ↦ inr (ap Some same, ap Some same, choices-told (changed_student m j change) i student found ∙ ap (λ (x : Student). x.choices) (sym (same_Some (change old) student is)))
    ]
choices-after m (Add t count) well allowed i known =
    let (student, found) = is-held (after m (Add t count)) i known in
    inl (keeps m (Add t count) i student student (none-some i) (sym (seated-student m t _ i) ∙ found) found refl)
choices-after m (Close t count) well allowed i known =
    let (student, found) = is-held (after m (Close t count)) i known in
    inl (keeps m (Close t count) i student student (none-some i) (sym (seated-student m t _ i) ∙ found) found refl)
choices-after m (Correct j zone siblings continuing) well allowed i known =
    let change : Student → Student = λ student. record student { zone = zone; siblings = siblings; continuing = continuing } in
    let (old, held) = is-held m j (known-named m j _ allowed) in
    let (student, found) = is-held (changed_student m j change) i known in
    elim (found-at j i (Some (change old)) (student_of m i) student (sym (changed m j change old held i) ∙ found)) [
      | inl (apart, before) ↦ inl (keeps m (Correct j zone siblings continuing) i student student (none-some i) before found refl)
      | inr (same, is) ↦
          inl (keeps m (Correct j zone siblings continuing) i old student (none-some i) (subst (λ k. student_of m k ≡ Some old) same held) found (ap (λ (x : Student). x.choices) (sym (same_Some (change old) student is))))
    ]

-- what a student lists after the amendment is an old choice, or a new one of the amended student
pub old-or_new : (m : Market) (a : Amendment) → WellFormed m → verdict m a ≡ None → (i s : ℕ) → Contains (choices_of (after m a) i) s
    → Contains (choices_of m i) s ⊎ ((amended_student a ≡ Some i) × Contains (new_choices a) s)
old-or_new m a well allowed i s listed = elim (choices-after m a well allowed i (among-student (after m a) i (lister-among (after m a) i s listed))) [
  | inl (stays, known, same) ↦ inl (subst (λ list. Contains list s) same listed)
  | inr (is, comes, same) ↦ inr (is, subst (λ list. Contains list s) same listed)
]

-- the amended student lists the new choices
pub new-listed : (m : Market) (a : Amendment) → verdict m a ≡ None → (i s : ℕ) → amended_student a ≡ Some i → Contains (new_choices a) s → Contains (choices_of (after m a) i) s
new-listed m (Enter j zone siblings choices continuing) allowed i s is among =
    let new : Student = record { zone = zone; siblings = siblings; choices = choices; continuing = continuing } in
    let same : j ≡ i = cc in
    let found = entered m j new (enter-may m j zone siblings choices continuing allowed).new j ∙ found-own j (Some new) (student_of m j) in
    subst (λ k. Contains (choices_of (with_student m j new) k) s) same (subst (λ list. Contains list s) (sym (choices-told (with_student m j new) j new found)) among)
new-listed m (Rerank j choices) allowed i s is among =
    let change : Student → Student = λ student. record student { choices = choices } in
    let (old, held) = is-held m j (known-named m j _ allowed) in
    let same : j ≡ i = cc in
    let found = changed m j change old held j ∙ found-own j (Some (change old)) (student_of m j) in
    subst (λ k. Contains (choices_of (changed_student m j change) k) s) same (subst (λ list. Contains list s) (sym (choices-told (changed_student m j change) j (change old) found)) among)
new-listed m _ allowed i s is (k, low, at) = absurd (omega (arith, low))

-- the new choices are schools of the papers
pub new-known : (m : Market) (a : Amendment) → verdict m a ≡ None → (s : ℕ) → Contains (new_choices a) s → is_school m s ≡ true
new-known m (Enter j zone siblings choices continuing) allowed s among =
    All-contains (λ t. is_school m t ≡ true) choices s (enter-may m j zone siblings choices continuing allowed).lists.choices_known among
new-known m (Rerank j choices) allowed s among =
    All-contains (λ t. is_school m t ≡ true) choices s (unknown_in-none m choices (first_of-none (objections_to_rerank m j choices) allowed).1.1.1.0) among
new-known m _ allowed s (k, low, at) = absurd (omega (arith, low))

-- the amended student is one of the papers or enters
pub amended-known : (m : Market) (a : Amendment) → verdict m a ≡ None → (i : ℕ) → amended_student a ≡ Some i → (is_student m i ≡ true) ⊎ Contains (entrants a) i
amended-known m (Enter j zone siblings choices continuing) allowed i is = let same : j ≡ i = cc in inr (0, omega arith, same)
amended-known m (Withdraw j) allowed i is = let same : j ≡ i = cc in inl (subst (λ k. is_student m k ≡ true) same (known-named m j _ allowed))
amended-known m (Rerank j choices) allowed i is = let same : j ≡ i = cc in inl (subst (λ k. is_student m k ≡ true) same (known-named m j _ allowed))
amended-known m (Correct j zone siblings continuing) allowed i is = let same : j ≡ i = cc in inl (subst (λ k. is_student m k ≡ true) same (known-named m j _ allowed))
amended-known m _ allowed i is = absurd (none-some i is)

-- who enters is amended, and is new
pub entrant-amended : (m : Market) (a : Amendment) (i : ℕ) → Contains (entrants a) i → amended_student a ≡ Some i
entrant-amended m (Enter j zone siblings choices continuing) i among = elim (contains-cons j [] i among) [
  | inl same ↦ ap Some same
  | inr (k, low, at) ↦ absurd (omega (arith, low))
]
entrant-amended m _ i (k, low, at) = absurd (omega (arith, low))

-- where the amended student has old choices, the school to begin with is the first of them
pub start-first : (m : Market) (a : Amendment) → verdict m a ≡ None → (i s : ℕ) → amended_student a ≡ Some i → Contains (choices_of m i) s → start_of m a ≡ first_choice m i
start-first m (Enter j zone siblings choices continuing) allowed i s is listed =
    let same : j ≡ i = cc in
    let (student, found) = is-held m i (among-student m i (lister-among m i s listed)) in
    absurd (none-some student (sym (enter-may m j zone siblings choices continuing allowed).new ∙ ap (student_of m) same ∙ found))
start-first m (Withdraw j) allowed i s is listed = let same : j ≡ i = cc in ap (first_choice m) same
start-first m (Rerank j choices) allowed i s is listed = let same : j ≡ i = cc in ap (first_choice m) same
start-first m (Correct j zone siblings continuing) allowed i s is listed = let same : j ≡ i = cc in ap (first_choice m) same
start-first m _ allowed i s is listed = absurd (none-some i is)

-- the amended student lists the school to begin with, before or after, and it is the amended school
pub start-listed : (m : Market) (a : Amendment) → WellFormed m → verdict m a ≡ None → (i : ℕ) → amended_student a ≡ Some i → Lists m a i (start_of m a)
start-listed m (Enter j zone siblings choices continuing) well allowed i is =
    inr (new-listed m (Enter j zone siblings choices continuing) allowed i (slice_index choices 0) is (Contains-get_or choices 0 0 (enter-may m j zone siblings choices continuing allowed).lists.choices_some))
start-listed m a well allowed i is = elim (amended-known m a allowed i is) [
  | inl known ↦
      let listed = first-listed m well i known in
      inl (subst (Contains (choices_of m i)) (sym (start-first m a allowed i (first_choice m i) is listed)) listed)
  | inr (k, low, at) ↦ absurd (omega (arith, low))
]

pub start-amended : (m : Market) (a : Amendment) (s : ℕ) → amended_school a ≡ Some s → start_of m a ≡ s
start-amended m (Add t count) s is = cc
start-amended m (Close t count) s is = cc
start-amended m _ s is = absurd (none-some s is)

-- and it is a school of the papers
pub start-known : (m : Market) (a : Amendment) → WellFormed m → verdict m a ≡ None → is_school m (start_of m a) ≡ true
start-known m (Enter j zone siblings choices continuing) well allowed =
    new-known m (Enter j zone siblings choices continuing) allowed (slice_index choices 0) (Contains-get_or choices 0 0 (enter-may m j zone siblings choices continuing allowed).lists.choices_some)
start-known m (Withdraw j) well allowed = choice-known m well j (first_choice m j) (first-listed m well j (known-named m j _ allowed))
start-known m (Rerank j choices) well allowed = choice-known m well j (first_choice m j) (first-listed m well j (known-named m j _ allowed))
start-known m (Add t count) well allowed = All-head (λ s. is_school m s ≡ true) t [] (unknown_in-none m (t ∷ []) (first_of-none (objections_to_add m t count) allowed).0)
start-known m (Close t count) well allowed = All-head (λ s. is_school m s ≡ true) t [] (unknown_in-none m (t ∷ []) (first_of-none (objections_to_close m t count) allowed).0)
start-known m (Correct j zone siblings continuing) well allowed = choice-known m well j (first_choice m j) (first-listed m well j (known-named m j _ allowed))

-- new choices come with an amended student
pub new-amended : (a : Amendment) (s : ℕ) → Contains (new_choices a) s → (i : ℕ) × (amended_student a ≡ Some i)
new-amended (Enter j zone siblings choices continuing) s among = (j, refl)
new-amended (Rerank j choices) s among = (j, refl)
new-amended _ s (k, low, at) = absurd (omega (arith, low))

-- a student is amended or a school
pub amended-some : (a : Amendment) → ((i : ℕ) × (amended_student a ≡ Some i)) ⊎ ((s : ℕ) × (amended_school a ≡ Some s))
amended-some (Enter j zone siblings choices continuing) = inl (j, refl)
amended-some (Withdraw j) = inl (j, refl)
amended-some (Rerank j choices) = inl (j, refl)
amended-some (Add t count) = inr (t, refl)
amended-some (Close t count) = inr (t, refl)
amended-some (Correct j zone siblings continuing) = inl (j, refl)

-- the members of a list and a student who enters differ where the list has students of the papers alone
pub entrants-differ : (m : Market) (a : Amendment) → verdict m a ≡ None → (students : List ℕ) → ((i : ℕ) → Contains students i → is_student m i ≡ true)
    → IsDistinct nat_eq students → IsDistinct nat_eq (students ++ entrants a)
entrants-differ m (Enter j zone siblings choices continuing) allowed students known differ =
    IsDistinct-push nat_eq_equiv students j differ
    (list_any_none (nat_eq j) students (All-weaker (Contains students) (λ i. nat_eq j i ≡ false) (λ i among. apart i (known i among)) students (All-contains_itself students)))
  where
    apart : (i : ℕ) → is_student m i ≡ true → nat_eq j i ≡ false
    apart i held = grind (arith, nat_tests, held, ap is_some (enter-may m j zone siblings choices continuing allowed).new)
entrants-differ m _ allowed students known differ = rw (append-nil students) differ

-- where nobody enters, there is no entrant
pub entrants-none : (a : Amendment) → ((i zone : ℕ) (siblings choices : List ℕ) (continuing : Option ℕ) → a ≡ Enter i zone siblings choices continuing → ⊥) → entrants a ≡ []
entrants-none (Enter j zone siblings choices continuing) other = absurd (other j zone siblings choices continuing refl)
entrants-none _ other = refl
