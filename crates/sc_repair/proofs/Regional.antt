-- The region of an amendment: it lies apart, and what a standing is after the amendment.
use Rattle.std.proofs.Common.{◌≡◌, inl, inr, refl, ap, sym, subst, ◌∙◌, ℕ, ◌+◌, ◌-◌, nat_eq, Bool, true, false, not, List, [], ◌∷◌, ◌++◌, Contains, filter, Some, None, slice_get, arith, ◌↔◌, Ok, IsTrue, is_some, take}
use Rattle.std.proofs.lemmas.Grind.{common_steps}
use Rattle.std.proofs.lemmas.Bool.Decides.{nat_tests}
use Rattle.std.specs.Map.{lookup, remove_entry, set_value}
use Rattle.std.specs.Option.{option_map_or}
use Rattle.std.proofs.lemmas.Bool.{cond-true, eqb-true, false≢true, true≢false, false_from_ne_true}
use Rattle.std.proofs.lemmas.List.Elements.{filter-append}
use Rattle.sc_papers.specs.Market.{Market, student_of, school_of, choices_of, seats_of, students_of, is_student}
use Rattle.sc_papers.specs.Restriction.{outside, AreApart, AlikeOutside, restricted}
use Rattle.sc_papers.specs.Verdict.{after, changed_student, with_seats, verdict}
use Rattle.sc_papers.specs.declared.amendment.Amendment.{Amendment}
use Rattle.sc_papers.specs.declared.amendment.Amendment.TheVariants.{Enter, Withdraw, Rerank, Add, Close, Correct}
use Rattle.sc_papers.specs.declared.records.School.{School}
use Rattle.sc_papers.specs.declared.records.Student.{Student}
use Rattle.sc_papers.proofs.Changing.{put_student}
use Rattle.sc_region.specs.Region.{amended, concerned, next, InRegion}
use Rattle.sc_region.proofs.Changes.{of-changed}
use Rattle.sc_repair.specs.Locality.{TellsRegion, is_among}
use Rattle.sc_repair.proofs.Rewinding.{field-kept, students-changed, students-seated}
use Rattle.std.specs.Prelude.{slice_index_or}
use Rattle.std.proofs.lemmas.Option.{none-some}
use Rattle.sc_papers.specs.WellFormed.{WellFormed}
use Rattle.sc_papers.specs.TakingBack.{is_withdrawal}
use Rattle.sc_checkpoint.specs.Chains.{Chain, logs_in}
use Rattle.sc_repair.specs.Changed.{newcomer, standing_of, IsResettled}
use Rattle.sc_repair.specs.Rewinding.{rewind_point}
use Rattle.sc_repair.specs.Standing.{matching_of, Standing, CountsInside, CountsRegion, IsAmended, KeepsOthers}
use Rattle.std.proofs.lemmas.Cmp.{nat_eq_equiv}
use Rattle.std.proofs.lemmas.Map.Views.{list_any-from_Contains, Contains-from_any}
use Rattle.std.specs.declared.alloc.AllocError.{AllocError}
use Rattle.sc_papers.proofs.Choices.{place-of}
use Rattle.sc_papers.proofs.Positions.{student-among}
use Rattle.sc_papers.proofs.Restriction.{student-restricted}
use Rattle.sc_region.specs.Groups.{entrants}
use Rattle.sc_region.specs.Marks.{marked}
use Rattle.sc_region.proofs.Marked.{marked-from, marked-there}
use Rattle.sc_region.proofs.Reaching.{in-known}

-- who lists a school of the region's students is of the region
pub region-apart : (m : Market) (a : Amendment) (test : ℕ → Bool) → TellsRegion m a test → AreApart m test
region-apart m a test tells = record {
  none_shared = λ i j s inside out first second.
      absurd (false≢true (sym out ∙ (tells j).1 (next j i s ((tells i).0 inside) (inl first) (inl second))));
}

pub region-apart_after : (m : Market) (a : Amendment) (test : ℕ → Bool) → TellsRegion m a test → AreApart (after m a) test
region-apart_after m a test tells = record {
  none_shared = λ i j s inside out first second.
      absurd (false≢true (sym out ∙ (tells j).1 (next j i s ((tells i).0 inside) (inr first) (inr second))));
}

-- the students outside are the same after one who passes is removed, changed or put at the end
pub others-removed : {X : Type 0} (test : ℕ → Bool) (i : ℕ) (es : List (ℕ × X)) → test i ≡ true → filter (λ e. outside test e.0) (remove_entry (nat_eq i) es) ≡ filter (λ e. outside test e.0) es
others-removed test i [] passes = refl
others-removed test i (e ∷ es) passes = grind (arith, nat_tests, common_steps, passes, others-removed test i es passes)

others-changed : {X : Type 0} (test : ℕ → Bool) (i : ℕ) (es : List (ℕ × X)) (w : X) → test i ≡ true → filter (λ e. outside test e.0) (set_value (nat_eq i) es w) ≡ filter (λ e. outside test e.0) es
others-changed test i [] w passes = refl
others-changed test i (e ∷ es) w passes = grind (arith, nat_tests, common_steps, passes, others-changed test i es w passes)

others-entered : {X : Type 0} (test : ℕ → Bool) (i : ℕ) (es : List (ℕ × X)) (w : X) → test i ≡ true → filter (λ e. outside test e.0) (es ++ (i, w) ∷ []) ≡ filter (λ e. outside test e.0) es
others-entered test i es w passes = grind (arith, common_steps, passes, filter-append (λ e. outside test e.0) es ((i, w) ∷ []))

-- an amended student passes: the schools stay
pub alike-entries : (m n : Market) (test : ℕ → Bool) → n.seed ≡ m.seed → n.schools ≡ m.schools
    → filter (λ e. outside test e.0) n.students ≡ filter (λ e. outside test e.0) m.students → AlikeOutside test m n
unfolding seats_of
alike-entries m n test seed schools students = record {
  seed = seed;
  students = students;
  zones = λ s. ap (λ (ss : List (ℕ × School)). option_map_or (λ school. school.zone) (lookup (nat_eq s) ss) 0) schools;
  seats = λ i s out listed. ap (λ (ss : List (ℕ × School)). option_map_or (λ school. school.seats) (lookup (nat_eq s) ss) 0) schools;
}

alike-outside_changed : (m : Market) (test : ℕ → Bool) (i : ℕ) (change : Student → Student) → test i ≡ true → AlikeOutside test m (changed_student m i change)
alike-outside_changed m test i change passes =
    of-changed (AlikeOutside test m) (student_of m i) _ m (alike-entries m m test refl refl refl) (λ student is.
    alike-entries m (put_student m i (change student)) test refl refl (others-changed test i m.students (change student) passes))

-- each who lists the amended school passes: the students stay, and so do the other schools
alike-outside_seated : (m : Market) (test : ℕ → Bool) (s seats : ℕ) → ((i : ℕ) → Contains (choices_of m i) s → test i ≡ true) → AlikeOutside test m (with_seats m s seats)
unfolding seats_of
alike-outside_seated m test s seats listers =
    of-changed (AlikeOutside test m) (school_of m s) _ m (alike-entries m m test refl refl refl) (λ school is.
    let put : School = record school { seats = seats } in
    record {
      seed = refl;
      students = refl;
      zones = λ t. field-kept (λ found. found.zone) s t school put m.schools is (λ same. refl);
      seats = λ i t out listed. field-kept (λ found. found.seats) s t school put m.schools is
          (λ same. absurd (false≢true (sym out ∙ listers i (subst (Contains (choices_of m i)) (sym (eqb-true s t same)) listed))));
    })

pub region-alike : (m : Market) (a : Amendment) (test : ℕ → Bool) → TellsRegion m a test → AlikeOutside test m (after m a)
region-alike m (Enter i zone siblings choices continuing) test tells =
    let student : Student = record { zone = zone; siblings = siblings; choices = choices; continuing = continuing } in
    alike-entries m (after m (Enter i zone siblings choices continuing)) test refl refl (others-entered test i m.students student ((tells i).1 (amended i refl)))
region-alike m (Withdraw i) test tells =
    alike-entries m (after m (Withdraw i)) test refl refl (others-removed test i m.students ((tells i).1 (amended i refl)))
region-alike m (Rerank i choices) test tells = alike-outside_changed m test i (λ student. record student { choices = choices }) ((tells i).1 (amended i refl))
region-alike m (Add s count) test tells = alike-outside_seated m test s (seats_of m s + count) (λ i listed. (tells i).1 (concerned i s refl (inl listed)))
region-alike m (Close s count) test tells = alike-outside_seated m test s (seats_of m s - count) (λ i listed. (tells i).1 (concerned i s refl (inl listed)))
region-alike m (Correct i zone siblings continuing) test tells = alike-outside_changed m test i (λ student. record student { zone = zone; siblings = siblings; continuing = continuing }) ((tells i).1 (amended i refl))

-- where nobody enters or withdraws, everybody stands where they did
pub students-stay : (m : Market) (a : Amendment) → newcomer a ≡ None → is_withdrawal a ≡ false → students_of (after m a) ≡ students_of m
students-stay m (Enter i zone siblings choices continuing) no_entry no_withdrawal = absurd (none-some i (sym no_entry))
students-stay m (Withdraw i) no_entry no_withdrawal = absurd (true≢false no_withdrawal)
students-stay m (Rerank i choices) no_entry no_withdrawal = students-changed m i (λ student. record student { choices = choices })
students-stay m (Add s count) no_entry no_withdrawal = students-seated m s (seats_of m s + count)
students-stay m (Close s count) no_entry no_withdrawal = students-seated m s (seats_of m s - count)
students-stay m (Correct i zone siblings continuing) no_entry no_withdrawal = students-changed m i (λ student. record student { zone = zone; siblings = siblings; continuing = continuing })

-- A clearing after an amendment, told by the amendment's region.

-- a list that has exactly the students of the region tells it
pub list-tells : (m : Market) (a : Amendment) (region : List ℕ) → ((i : ℕ) → Contains region i ↔ InRegion m a i) → TellsRegion m a (is_among region)
list-tells m a region tells i = (
  λ among. (tells i).0 (Contains-from_any eqb-true i region among),
  λ inside. list_any-from_Contains nat_eq_equiv i region ((tells i).1 inside),
)

-- the marks of a region where nobody enters
pub nobody-enters : (a : Amendment) (i : ℕ) → newcomer a ≡ None → Contains (entrants a) i → ⊥
nobody-enters (Enter j zone siblings choices continuing) i none (k, low, at) = none-some j (sym none)
nobody-enters _ i none (k, low, at) = omega (arith, low)

pub marks-tell : (m : Market) (a : Amendment) (marks : List Bool) → WellFormed m → verdict m a ≡ None → newcomer a ≡ None
    → ((position i : ℕ) → slice_get (students_of m) position ≡ Some i → (IsTrue (slice_index_or marks position false) ↔ InRegion m a i)) → TellsRegion m a (is_among (marked marks (students_of m)))
marks-tell m a marks well allowed no_entry told =
    list-tells m a (marked marks (students_of m)) (λ i. (
      λ among. let (at, here, passes) = marked-from marks (students_of m) i among in (told at i here).0 passes,
      λ within. elim (in-known m a well allowed i within) [
        | inl known ↦ let (at, here) = place-of (students_of m) i (student-among m i known) in marked-there marks (students_of m) at i here ((told at i here).1 within)
        | inr enters ↦ absurd (nobody-enters a i no_entry enters)
      ],
    ))

-- a student outside stays in the papers
pub student-outside : (m n : Market) (test : ℕ → Bool) (i : ℕ) → AlikeOutside test m n → test i ≡ false → student_of n i ≡ student_of m i
unfolding restricted
student-outside m n test i alike fails =
    sym (cond-true (outside test i) (student_of n i) None (ap not fails))
    ∙ sym (student-restricted n (outside test) i)
    ∙ ap (lookup (nat_eq i)) alike.students
    ∙ student-restricted m (outside test) i
    ∙ cond-true (outside test i) (student_of m i) None (ap not fails)

pub keeps-others : (old new : Standing) (a : Amendment) (region : List ℕ) → TellsRegion old.papers a (is_among region) → new.papers ≡ after old.papers a
    → ((i : ℕ) → is_among region i ≡ false → matching_of new i ≡ matching_of old i) → KeepsOthers old a new
keeps-others old new a region tells accepted same i there out =
    let fails : is_among region i ≡ false = false_from_ne_true (is_among region i) (λ inside. out ((tells i).0 inside)) in (
      ap (λ n. is_student n i) accepted ∙ ap is_some (student-outside old.papers (after old.papers a) (is_among region) i (region-alike old.papers a (is_among region) tells) fails) ∙ there,
      same i fails,
    )

-- whichever test tells the region, it counts the same
same-test : (p q : ℕ → Bool) → ((i : ℕ) → IsTrue (p i) ↔ IsTrue (q i)) → p ≡ q
same-test p q same = λ t i. both (p i) (q i) (same i) t
  where
    both : (a b : Bool) → (IsTrue a ↔ IsTrue b) → a ≡ b
    both a b same = grind (arith, common_steps, same.0, same.1)

pub counts-region : (m : Market) (a : Amendment) (region : List ℕ) (standing : Standing) → TellsRegion m a (is_among region) → CountsInside (is_among region) (rewind_point m a) standing → CountsRegion m a standing
counts-region m a region standing tells counts test told =
    subst (λ p. CountsInside p (rewind_point m a) standing) (same-test (is_among region) test (λ i. (λ first. (told i).1 ((tells i).0 first), λ second. (tells i).1 ((told i).0 second)))) counts

-- an amendment whose region was settled anew
pub settled-anew : (m n : Market) (a : Amendment) (region : List ℕ) (places given : List (ℕ × ℕ)) (old chains : List Chain) (point proposals made : ℕ) → TellsRegion m a (is_among region) → n ≡ after m a → point ≡ rewind_point m a
    → IsResettled n (is_among region) point places given old chains made → IsAmended {E = AllocError} (Ok tt) (standing_of m places old proposals) a (standing_of n given chains made)
settled-anew m n a region places given old chains point proposals made tells accepted at resettled =
    let new : Standing = standing_of n given chains made in
    record {
      certified = resettled.certified;
      accepted = accepted;
      stays = subst (λ k. take k (logs_in chains) ≡ take k (logs_in old)) at resettled.stays;
      others = keeps-others (standing_of m places old proposals) new a region tells accepted resettled.others;
      proposals = counts-region m a region new tells (subst (λ k. CountsInside (is_among region) k new) at resettled.proposals);
      unchanged = tt;
    }
