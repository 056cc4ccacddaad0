-- The order of entry decides nothing about the texts.
use Rattle.std.proofs.Common.{◌≡◌, ap, sym, subst, ◌∙◌, ℕ, Bool, List, ◌++◌, map, filter, Contains, IsPermutation}
use Rattle.std.specs.Prelude.{flat_map}
use Rattle.std.specs.List.{before_first}
use Rattle.std.proofs.lemmas.List.Sorted.{Contains-permutation, IsPermutation-map, IsPermutation-sym}
use Rattle.sc_papers.specs.Key.{key_of}
use Rattle.sc_papers.specs.Market.{Market, schools_of, students_of}
use Rattle.sc_papers.specs.Matching.{Matching, IsStudentOptimal, has}
use Rattle.sc_papers.specs.Reordering.{IsReordering}
use Rattle.sc_papers.specs.WellFormed.{WellFormed}
use Rattle.sc_papers.specs.declared.key.Key.{Key}
use Rattle.sc_papers.proofs.Reordering.{optimal-reordered, key-moved, choices-moved, seats-moved, counts-moved}
use Rattle.sc_papers.proofs.Uniqueness.{optimal-unique}
use Rattle.sc_reasons.specs.Cutoff.{cutoff, cutoff_by, cutoff_row}
use Rattle.sc_tallies.specs.LastKey.{keys_among, last_key}
use Rattle.sc_report.specs.CutoffText.{cutoff_lines, cutoff_text}
use Rattle.sc_reasons.specs.Reason.{reason, reason_by, reasons_of}
use Rattle.sc_report.specs.ReasonText.{reason_lines, reason_text}
use Rattle.sc_reasons.specs.Rising.{rising}
use Rattle.sc_report.specs.Text.{assignment_lines, assignment_text, report_text}
use Rattle.sc_tallies.proofs.LastKeys.{key-among, keyed, last-same}
use Rattle.sc_reasons.proofs.RisingLemmas.{rising-same}

-- the numbers that pass have the same keys, whatever order the numbers come in
keys-moved : (p : ℕ → Bool) (f : ℕ → Key) (xs ys : List ℕ) → IsPermutation xs ys → (key : Key) → Contains (map f (filter p xs)) key → Contains (map f (filter p ys)) key
keys-moved p f xs ys moved key among =
    let (j, here, holds, is) = keyed p f xs key among in
    subst (Contains (map f (filter p ys))) is (key-among p f ys j (Contains-permutation xs ys j moved here) holds)

module _ (m n : Market) (well : WellFormed m) (moved : IsReordering m n) where
  students-permute : IsPermutation (students_of m) (students_of n)
  students-permute = IsPermutation-map (λ e. e.0) m.students n.students moved.students

  students-moved : rising (students_of n) ≡ rising (students_of m)
  students-moved = rising-same (students_of m) (students_of n) students-permute

  schools-moved : rising (schools_of n) ≡ rising (schools_of m)
  schools-moved = rising-same (schools_of m) (schools_of n) (IsPermutation-map (λ e. e.0) m.schools n.schools moved.schools)

  last-moved : (a : Matching) (s : ℕ) → last_key (keys_among n a (students_of n) s) ≡ last_key (keys_among m a (students_of m) s)
  last-moved a s =
      ap (λ f. last_key (map f (filter (has a s) (students_of n)))) (λ t i. key-moved m n well moved i s t)
      ∙ last-same (keys_among m a (students_of n) s) (keys_among m a (students_of m) s)
      (keys-moved (has a s) (λ i. key_of m i s) (students_of n) (students_of m) (IsPermutation-sym (students_of m) (students_of n) students-permute))
      (keys-moved (has a s) (λ i. key_of m i s) (students_of m) (students_of n) students-permute)

  cutoff-moved : (a : Matching) (s : ℕ) → cutoff n a s ≡ cutoff m a s
  unfolding cutoff
  cutoff-moved a s = λ t. cutoff_by (seats-moved m n well moved s t) (counts-moved m n well moved (has a s) t) (last-moved a s t)

  row-moved : (a : Matching) (s : ℕ) → cutoff_row n a s ≡ cutoff_row m a s
  row-moved a s = λ t. record { school = s; seats = seats-moved m n well moved s t; held = counts-moved m n well moved (has a s) t; cutoff = cutoff-moved a s t }

  reason-moved : (a : Matching) (i s : ℕ) → reason n a i s ≡ reason m a i s
  reason-moved a i s = λ t. reason_by (cutoff-moved a s t) (key-moved m n well moved i s t)

  reasons-moved : (a : Matching) (i : ℕ) → reasons_of n a i ≡ reasons_of m a i
  unfolding reasons_of
  reasons-moved a i = λ t. map (λ s. record { student = i; school = s; reason = reason-moved a i s t }) (before_first (λ s. has a s i) (choices-moved m n well moved i t))

  assignment-same : (a : Matching) → assignment_text n a ≡ assignment_text m a
  assignment-same a = ap (assignment_lines a) students-moved

  cutoffs-same : (a : Matching) → cutoff_text n a ≡ cutoff_text m a
  cutoffs-same a = λ t. cutoff_lines (map (λ s. row-moved a s t) (schools-moved t))

  reasons-same : (a : Matching) → reason_text n a ≡ reason_text m a
  reasons-same a = λ t. reason_lines (flat_map (λ i. reasons-moved a i t) (students-moved t))

  report-same : (a : Matching) → report_text n a ≡ report_text m a
  unfolding report_text
  report-same a = λ t. assignment-same a t ++ (cutoffs-same a t ++ reasons-same a t)

  -- matchings that give every student the same are one matching
  module _ (a b : Matching) (same : (i : ℕ) → a i ≡ b i) where
    pub assignment-moved : assignment_text m a ≡ assignment_text n b
    assignment-moved = sym (assignment-same a) ∙ (λ t. assignment_text n (λ i. same i t))

    pub cutoffs-moved : cutoff_text m a ≡ cutoff_text n b
    cutoffs-moved = sym (cutoffs-same a) ∙ (λ t. cutoff_text n (λ i. same i t))

    pub reason-text-moved : reason_text m a ≡ reason_text n b
    reason-text-moved = sym (reasons-same a) ∙ (λ t. reason_text n (λ i. same i t))

    pub report-moved : report_text m a ≡ report_text n b
    report-moved = sym (report-same a) ∙ (λ t. report_text n (λ i. same i t))

-- student-optimal matchings of papers in two orders give every student the same
pub optimal-moved : (m n : Market) (a b : Matching) → WellFormed m → IsReordering m n → IsStudentOptimal m a → IsStudentOptimal n b → report_text m a ≡ report_text n b
optimal-moved m n a b well moved optimal other =
    report-moved m n well moved a b (optimal-unique n a b ((optimal-reordered m n a well moved).0 optimal) other)
