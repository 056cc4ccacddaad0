-- What an accepted amendment makes of each stamp.
use Rattle.std.proofs.Common.{◌≡◌, inl, inr, refl, sym, ap, subst, ◌∙◌, ℕ, ◌+◌, nat_eq, true, false, cond, List, [], ◌∷◌, ◌++◌, length, position, Option, Some, None}
use Rattle.std.specs.Prelude.{is_some, not}
use Rattle.std.specs.List.{list_any}
use Rattle.std.specs.Map.{keys_of, lookup, remove_entry}
use Rattle.std.proofs.lemmas.Bool.{cases_Bool, eqb-true, eq-eqb, ne_eqb, false≢true, not-false}
use Rattle.std.proofs.lemmas.List.Elements.{All-head}
use Rattle.std.proofs.lemmas.Map.{keys-set_value}
use Rattle.std.proofs.lemmas.Map.Made.{is_some-lookup}
use Rattle.sc_papers.specs.Market.{Market, is_school, is_student, school_of, schools_of, student_of, students_of}
use Rattle.sc_papers.specs.Verdict.{after, changed_school, changed_student, objections_to_add, objections_to_close, objections_to_correct, objections_to_enter, objections_to_rerank, objections_to_withdraw, verdict}
use Rattle.sc_papers.specs.WellFormed.{WellFormed}
use Rattle.sc_papers.specs.declared.amendment.Amendment.{Amendment}
use Rattle.sc_papers.specs.declared.amendment.Amendment.TheVariants.{Enter, Withdraw, Rerank, Add, Close, Correct}
use Rattle.sc_papers.specs.declared.amendment.Refusal.TheVariants.{StudentExists, UnknownStudent}
use Rattle.sc_papers.specs.declared.records.School.{School}
use Rattle.sc_papers.specs.declared.records.Student.{Student}
use Rattle.sc_papers.proofs.Objections.{first_of-none, refuse_if-none, unknown_in-none}
use Rattle.sc_papers.specs.TakingBack.{is_entry}
use Rattle.sc_stamps.specs.Record.{is_record, is_same, record_of}
use Rattle.sc_stamps.specs.Stamps.{IsInStep, Stamps, stamp_at, stamp_of, stamps_after, with_stamp}
use Rattle.sc_stamps.specs.declared.record.Record.{Record}
use Rattle.sc_stamps.specs.declared.record.Record.TheVariants.{OfStudent, OfSchool}
use Rattle.sc_stamps.proofs.Places.{known-here, known-next, read, read-absent, read-known, read-out, read-push, read-put, remove-here, remove-next, marked}
use Rattle.sc_stamps.proofs.Step.{schools-changed_student, students-changed_school}

-- to change a student or a school keeps the numbers
keys-changed_student : (m : Market) (i : ℕ) (change : Student → Student) → students_of (changed_student m i change) ≡ students_of m
keys-changed_student m i change = by_case (student_of m i) refl
  where
    by_case : (found : Option Student) → student_of m i ≡ found → students_of (changed_student m i change) ≡ students_of m
    by_case None e = rw e refl
    by_case (Some student) e = rw e (keys-set_value (nat_eq i) m.students (change student))

keys-changed_school : (m : Market) (s : ℕ) (change : School → School) → schools_of (changed_school m s change) ≡ schools_of m
keys-changed_school m s change = by_case (school_of m s) refl
  where
    by_case : (found : Option School) → school_of m s ≡ found → schools_of (changed_school m s change) ≡ schools_of m
    by_case None e = rw e refl
    by_case (Some school) e = rw e (keys-set_value (nat_eq s) m.schools (change school))

-- entries of the same keys know the same
known-keys : {X : Type 0} (q : ℕ) (fs es : List (ℕ × X)) → keys_of fs ≡ keys_of es → is_some (lookup (nat_eq q) fs) ≡ is_some (lookup (nat_eq q) es)
known-keys q fs es same = is_some-lookup (nat_eq q) fs ∙ ap (list_any (nat_eq q)) same ∙ sym (is_some-lookup (nat_eq q) es)

-- where the keys stay, one of them gets the new stamp
read-changed : {X : Type 0} (i q w : ℕ) (fs es : List (ℕ × X)) (stamps : List ℕ) → keys_of fs ≡ keys_of es → length stamps ≡ length es
    → read (with_stamp stamps (position (nat_eq i) (keys_of es)) w) q fs ≡ marked (is_some (lookup (nat_eq q) fs)) (nat_eq i q) w (read stamps q es)
read-changed i q w fs es stamps keys same =
    ap (λ ks. stamp_at (with_stamp stamps (position (nat_eq i) (keys_of es)) w) (position (nat_eq q) ks)) keys
    ∙ read-put i q w es stamps same
    ∙ sym (λ t. marked (known-keys q fs es keys t) (nat_eq i q) w (read stamps q es))

-- where the entries stay, so do the stamps
read-kept : {X : Type 0} (q w : ℕ) (fs es : List (ℕ × X)) (stamps : List ℕ) → fs ≡ es → read stamps q fs ≡ marked (is_some (lookup (nat_eq q) fs)) false w (read stamps q es)
read-kept q w fs es stamps same =
    subst (λ (gs : List (ℕ × _)). read stamps q gs ≡ marked (is_some (lookup (nat_eq q) gs)) false w (read stamps q es)) (sym same) (read-known q es stamps)

-- the stamps where a student or a school gets a new one
stamp-student : (m : Market) (stamps : Stamps) (i w : ℕ) (change : Student → Student) (r : Record) → IsInStep m stamps
    → stamp_of (changed_student m i change) (record stamps { accepted = w; students = with_stamp stamps.students (position (nat_eq i) (students_of m)) w }) r
    ≡ marked (is_record (changed_student m i change) r) (is_same (OfStudent i) r) w (stamp_of m stamps r)
stamp-student m stamps i w change (OfStudent q) step =
    read-changed i q w (changed_student m i change).students m.students stamps.students (keys-changed_student m i change) step.students
stamp-student m stamps i w change (OfSchool s) step =
    read-kept s w (changed_student m i change).schools m.schools stamps.schools (schools-changed_student m i change)

stamp-school : (m : Market) (stamps : Stamps) (s w : ℕ) (change : School → School) (r : Record) → IsInStep m stamps
    → stamp_of (changed_school m s change) (record stamps { accepted = w; schools = with_stamp stamps.schools (position (nat_eq s) (schools_of m)) w }) r
    ≡ marked (is_record (changed_school m s change) r) (is_same (OfSchool s) r) w (stamp_of m stamps r)
stamp-school m stamps s w change (OfStudent q) step =
    read-kept q w (changed_school m s change).students m.students stamps.students (students-changed_school m s change)
stamp-school m stamps s w change (OfSchool t) step =
    read-changed s t w (changed_school m s change).schools m.schools stamps.schools (keys-changed_school m s change) step.schools

-- the stamps after an accepted amendment
pub stamp-after : (m : Market) (stamps : Stamps) (a : Amendment) (r : Record) → WellFormed m → verdict m a ≡ None → IsInStep m stamps
    → stamp_of (after m a) (stamps_after m a stamps) r ≡ marked (is_record (after m a) r) (is_same (record_of a) r) (stamps.accepted + 1) (stamp_of m stamps r)
stamp-after m stamps (Enter i zone siblings choices continuing) (OfStudent q) well allowed step =
    let none = first_of-none (objections_to_enter m i siblings choices continuing) allowed in
    read-push i q (stamps.accepted + 1) (record { zone = zone; siblings = siblings; choices = choices; continuing = continuing }) m.students stamps.students step.students
    (refuse_if-none (is_student m i) StudentExists none.0)
stamp-after m stamps (Enter i zone siblings choices continuing) (OfSchool s) well allowed step = read-known s m.schools stamps.schools
stamp-after m stamps (Withdraw i) (OfStudent q) well allowed step = read-out i q (stamps.accepted + 1) m.students stamps.students step.students well.students_differ
stamp-after m stamps (Withdraw i) (OfSchool s) well allowed step = read-known s m.schools stamps.schools
stamp-after m stamps (Rerank i choices) r well allowed step = stamp-student m stamps i (stamps.accepted + 1) _ r step
stamp-after m stamps (Add s count) r well allowed step = stamp-school m stamps s (stamps.accepted + 1) _ r step
stamp-after m stamps (Close s count) r well allowed step = stamp-school m stamps s (stamps.accepted + 1) _ r step
stamp-after m stamps (Correct i zone siblings continuing) r well allowed step = stamp-student m stamps i (stamps.accepted + 1) _ r step

-- that of a record which is then in the papers
pub stamp-known : (m : Market) (stamps : Stamps) (a : Amendment) (r : Record) → WellFormed m → verdict m a ≡ None → IsInStep m stamps → is_record (after m a) r ≡ true
    → stamp_of (after m a) (stamps_after m a stamps) r ≡ cond (is_same (record_of a) r) (stamps.accepted + 1) (stamp_of m stamps r)
stamp-known m stamps a r well allowed step known =
    stamp-after m stamps a r well allowed step ∙ (λ t. marked (known t) (is_same (record_of a) r) (stamps.accepted + 1) (stamp_of m stamps r))

pub stamp-new : (m : Market) (stamps : Stamps) (a : Amendment) (r : Record) → WellFormed m → verdict m a ≡ None → IsInStep m stamps → is_record (after m a) r ≡ true
    → is_same (record_of a) r ≡ true → stamp_of (after m a) (stamps_after m a stamps) r ≡ stamps.accepted + 1
stamp-new m stamps a r well allowed step known same =
    stamp-known m stamps a r well allowed step known ∙ (λ t. cond (same t) (stamps.accepted + 1) (stamp_of m stamps r))

pub stamp-old : (m : Market) (stamps : Stamps) (a : Amendment) (r : Record) → WellFormed m → verdict m a ≡ None → IsInStep m stamps → is_record (after m a) r ≡ true
    → is_same (record_of a) r ≡ false → stamp_of (after m a) (stamps_after m a stamps) r ≡ stamp_of m stamps r
stamp-old m stamps a r well allowed step known apart =
    stamp-known m stamps a r well allowed step known ∙ (λ t. cond (apart t) (stamps.accepted + 1) (stamp_of m stamps r))

-- a record that is not in the papers has stamp 0
pub stamp-absent : (m : Market) (stamps : Stamps) (r : Record) → is_record m r ≡ false → stamp_of m stamps r ≡ 0
stamp-absent m stamps (OfStudent i) absent = read-absent i m.students stamps.students absent
stamp-absent m stamps (OfSchool s) absent = read-absent s m.schools stamps.schools absent

-- an amendment counts as one
pub counted-after : (m : Market) (stamps : Stamps) (a : Amendment) → (stamps_after m a stamps).accepted ≡ stamps.accepted + 1
counted-after m stamps (Enter i zone siblings choices continuing) = refl
counted-after m stamps (Withdraw i) = refl
counted-after m stamps (Rerank i choices) = refl
counted-after m stamps (Add s count) = refl
counted-after m stamps (Close s count) = refl
counted-after m stamps (Correct i zone siblings continuing) = refl

-- an entry more, or one less, leaves the other keys as they are
known-push : {X : Type 0} (i q : ℕ) (v : X) (es : List (ℕ × X)) → nat_eq i q ≡ false → is_some (lookup (nat_eq q) (es ++ (i, v) ∷ [])) ≡ is_some (lookup (nat_eq q) es)
known-push i q v [] apart = known-next q (i, v) [] (ne_eqb q i (λ same. false≢true (sym apart ∙ eq-eqb i q (sym same))))
known-push i q v (e ∷ es) apart =
    elim (cases_Bool (nat_eq q e.0)) [
      | inl here ↦ known-here q e (es ++ (i, v) ∷ []) here ∙ sym (known-here q e es here)
      | inr other ↦ known-next q e (es ++ (i, v) ∷ []) other ∙ known-push i q v es apart ∙ sym (known-next q e es other)
    ]

known-out : {X : Type 0} (i q : ℕ) (es : List (ℕ × X)) → nat_eq i q ≡ false → is_some (lookup (nat_eq q) (remove_entry (nat_eq i) es)) ≡ is_some (lookup (nat_eq q) es)
known-out i q [] apart = refl
known-out i q (e ∷ es) apart =
    elim (cases_Bool (nat_eq i e.0)) [
      | inl out ↦
          ap (λ fs. is_some (lookup (nat_eq q) fs)) (remove-here (nat_eq i) e es out)
          ∙ sym (known-next q e es (ne_eqb q e.0 (λ same. false≢true (sym apart ∙ eq-eqb i q (eqb-true i e.0 out ∙ sym same)))))
      | inr after ↦
          ap (λ fs. is_some (lookup (nat_eq q) fs)) (remove-next (nat_eq i) e es after)
          ∙ elim (cases_Bool (nat_eq q e.0)) [
            | inl here ↦ known-here q e (remove_entry (nat_eq i) es) here ∙ sym (known-here q e es here)
            | inr other ↦ known-next q e (remove_entry (nat_eq i) es) other ∙ known-out i q es apart ∙ sym (known-next q e es other)
          ]
    ]

-- nor does a change, of any record
known-student : (m : Market) (i : ℕ) (change : Student → Student) (r : Record) → is_record (changed_student m i change) r ≡ is_record m r
known-student m i change (OfStudent q) = known-keys q (changed_student m i change).students m.students (keys-changed_student m i change)
known-student m i change (OfSchool s) = known-keys s (changed_student m i change).schools m.schools (ap (λ (es : List (ℕ × School)). keys_of es) (schools-changed_student m i change))

known-school : (m : Market) (s : ℕ) (change : School → School) (r : Record) → is_record (changed_school m s change) r ≡ is_record m r
known-school m s change (OfStudent q) = known-keys q (changed_school m s change).students m.students (ap (λ (es : List (ℕ × Student)). keys_of es) (students-changed_school m s change))
known-school m s change (OfSchool t) = known-keys t (changed_school m s change).schools m.schools (keys-changed_school m s change)

-- an amendment changes of no other record whether it is in the papers
pub known-after : (m : Market) (a : Amendment) (r : Record) → is_same (record_of a) r ≡ false → is_record (after m a) r ≡ is_record m r
known-after m (Enter i zone siblings choices continuing) (OfStudent q) apart =
    known-push i q (record { zone = zone; siblings = siblings; choices = choices; continuing = continuing }) m.students apart
known-after m (Enter i zone siblings choices continuing) (OfSchool s) apart = refl
known-after m (Withdraw i) (OfStudent q) apart = known-out i q m.students apart
known-after m (Withdraw i) (OfSchool s) apart = refl
known-after m (Rerank i choices) r apart = known-student m i _ r
known-after m (Add s count) r apart = known-school m s _ r
known-after m (Close s count) r apart = known-school m s _ r
known-after m (Correct i zone siblings continuing) r apart = known-student m i _ r

-- an accepted amendment that is no entry is of a record of the papers
pub known-accepted : (m : Market) (a : Amendment) → verdict m a ≡ None → is_entry a ≡ false → is_record m (record_of a) ≡ true
known-accepted m (Enter i zone siblings choices continuing) allowed no_entry = cc
known-accepted m (Withdraw i) allowed no_entry = not-false (is_student m i) (refuse_if-none (not (is_student m i)) UnknownStudent (first_of-none (objections_to_withdraw m i) allowed).0)
known-accepted m (Rerank i choices) allowed no_entry = not-false (is_student m i) (refuse_if-none (not (is_student m i)) UnknownStudent (first_of-none (objections_to_rerank m i choices) allowed).0)
known-accepted m (Add s count) allowed no_entry = All-head (λ t. is_school m t ≡ true) s [] (unknown_in-none m (s ∷ []) (first_of-none (objections_to_add m s count) allowed).0)
known-accepted m (Close s count) allowed no_entry = All-head (λ t. is_school m t ≡ true) s [] (unknown_in-none m (s ∷ []) (first_of-none (objections_to_close m s count) allowed).0)
known-accepted m (Correct i zone siblings continuing) allowed no_entry = not-false (is_student m i) (refuse_if-none (not (is_student m i)) UnknownStudent (first_of-none (objections_to_correct m i siblings continuing) allowed).0)
