-- What an accepted amendment changes in the districts.
use Rattle.std.proofs.Common.{◌≡◌, inl, inr, ◌<◌, refl, sym, ap, subst, ◌∙◌, ℕ, ◌==◌, nat_eq, List, length, Some, None, Contains, arith}
use Rattle.std.specs.Prelude.{slice_index}
use Rattle.std.specs.List.{position_or_len}
use Rattle.std.proofs.lemmas.Bool.Decides.{nat_tests}
use Rattle.std.proofs.lemmas.Map.{keys-set_value}
use Rattle.std.proofs.lemmas.Option.{none-some}
use Rattle.sc_papers.specs.Market.{Market, school_of, schools_of, student_of}
use Rattle.sc_papers.specs.Verdict.{after, changed_school, changed_student, objections_to_rerank, verdict}
use Rattle.sc_papers.specs.WellFormed.{WellFormed}
use Rattle.sc_papers.specs.declared.amendment.Amendment.{Amendment}
use Rattle.sc_papers.specs.declared.amendment.Amendment.TheVariants.{Enter, Rerank, Add, Close, Correct}
use Rattle.sc_papers.specs.declared.amendment.Refusal.TheVariants.{EmptyList}
use Rattle.sc_papers.specs.declared.records.School.{School}
use Rattle.sc_papers.specs.declared.records.Student.{Student}
use Rattle.sc_papers.proofs.Objections.{first_of-none, refuse_if-none}
use Rattle.sc_papers.proofs.Positions.{among-student, student-among}
use Rattle.sc_papers.proofs.Students.{lister-among}
use Rattle.sc_region.specs.Districts.{AreDistricts, DistrictsView, listed_by, firsts_at, unlisted_by, new_first}
use Rattle.sc_region.specs.Groups.{first_choice, new_choices, position_of, start_of, widened}
use Rattle.sc_region.proofs.Changes.{choices-after, enter-may, of-changed}
use Rattle.sc_region.proofs.Joining.{first-listed, list-coarser}
use Rattle.sc_region.proofs.Reaching.{region-together}

-- the schools stay as they are
keys-changed : (m : Market) (i : ℕ) (change : Student → Student) → schools_of (changed_student m i change) ≡ schools_of m
keys-changed m i change = of-changed (λ n. schools_of n ≡ schools_of m) (student_of m i) _ m refl (λ student is. refl)

keys-seated : (m : Market) (s : ℕ) (change : School → School) → schools_of (changed_school m s change) ≡ schools_of m
keys-seated m s change = of-changed (λ n. schools_of n ≡ schools_of m) (school_of m s) _ m refl (λ school is. keys-set_value (nat_eq s) m.schools (change school))

pub schools-stay : (m : Market) (a : Amendment) → schools_of (after m a) ≡ schools_of m
schools-stay m (Rerank i choices) = keys-changed m i (λ student. record student { choices = choices })
schools-stay m (Add s count) = keys-seated m s _
schools-stay m (Close s count) = keys-seated m s _
schools-stay m (Correct i zone siblings continuing) = keys-changed m i (λ student. record student { zone = zone; siblings = siblings; continuing = continuing })
schools-stay m _ = refl

-- who comes, comes with choices
pub listed_by-some : (m : Market) (a : Amendment) → verdict m a ≡ None → (i : ℕ) → listed_by a ≡ Some i → 0 < length (new_choices a)
listed_by-some m (Enter j zone siblings choices continuing) allowed i is = (enter-may m j zone siblings choices continuing allowed).lists.choices_some
listed_by-some m (Rerank j choices) allowed i is = let some = refuse_if-none (length choices == 0) EmptyList (first_of-none (objections_to_rerank m j choices) allowed).1.0 in grind (arith, nat_tests, some)
listed_by-some m _ allowed i is = absurd (none-some i is)

-- the widened districts, with the students listed anew, are districts of the papers after the amendment
pub districts-after : (m : Market) (a : Amendment) → WellFormed m → WellFormed (after m a) → verdict m a ≡ None → (d : DistrictsView) → AreDistricts m d
    → (firsts : List (List ℕ)) → length firsts ≡ length d.firsts
    → ((p i : ℕ) → (unlisted_by a ≡ Some i → ⊥) → Contains (firsts_at d.firsts p) i → Contains (firsts_at firsts p) i)
    → ((i : ℕ) → listed_by a ≡ Some i → Contains (firsts_at firsts (position_of m (new_first a))) i)
    → AreDistricts (after m a) (record { groups = widened m a d.groups; firsts = firsts })
unfolding widened
districts-after m a well after_well allowed d districts firsts one_each others moved = record {
  one_each = (list-coarser m (start_of m a) d.groups (new_choices a) districts.one_each).whole ∙ sym (ap length (schools-stay m a));
  closed = λ i s listed.
      let i_known = among-student (after m a) i (lister-among (after m a) i s listed) in
      rw (schools-stay m a)
      (region-together m a well allowed d.groups districts.one_each (λ j. Unit {0}) (λ j t of old. districts.closed j t old) i s (first_choice (after m a) i) tt (inr listed) (inr (first-listed (after m a) after_well i i_known)));
  firsts_each = one_each ∙ districts.firsts_each ∙ sym (ap length (schools-stay m a));
  listed = λ i among. elim (choices-after m a well allowed i (among-student (after m a) i among)) [
    | inl (stays, known, same) ↦
        subst (λ p. Contains (firsts_at firsts p) i) (sym (stands (first_choice (after m a) i) ∙ ap (λ xs. position_of m (slice_index xs 0)) same))
        (others (position_of m (first_choice m i)) i stays (districts.listed i (student-among m i known)))
    | inr (is, own, same) ↦
        subst (λ p. Contains (firsts_at firsts p) i) (sym (stands (first_choice (after m a) i) ∙ ap (λ xs. position_of m (slice_index xs 0)) same)) (moved i own)
  ];
}
  where
    stands : (s : ℕ) → position_of (after m a) s ≡ position_of m s
    stands s = ap (position_or_len (nat_eq s)) (schools-stay m a)
